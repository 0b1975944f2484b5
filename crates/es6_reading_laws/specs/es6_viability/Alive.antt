-- That what a reader takes is alive: some module, expression or statement begins with it.
use Rattle.std.specs.Prelude.{◌≡◌, ℕ, ◌+◌, ◌<◌, true, List, [], ◌∷◌, ◌++◌, length, map}
use Rattle.es6_lexer.specs.declared.token.Token.{Token}
use Rattle.es6_ast.specs.declared.settings.Flags.{Flags}
use Rattle.es6_ast.specs.declared.settings.Stand.TheVariants.{Listed}
use Rattle.es6_ast.specs.declared.settings.Stop.{Stop}
use Rattle.es6_ast.specs.declared.settings.Stop.TheVariants.{Depth, Endless}
use Rattle.es6_ast.specs.Dead.{IsAlive, IsDead}
use Rattle.es6_ast.specs.Tokens.{Filled, read}
use Rattle.es6_reading.specs.Expressions.{sequence}
use Rattle.es6_reading.specs.Modules.{read_module, readers}
use Rattle.es6_reading.specs.Parser.{Fault}
use Rattle.es6_reading.specs.Statements.{statement}
use Rattle.es6_reading_laws.specs.es6_viability.Fronts.{IsExpressionBefore, IsStatementBefore}

-- Some module begins with the tokens before a fault, whatever stops the reader there but want of turns.
abbrev pub TokensBeforeFaultsAreAlive : Type 0
TokensBeforeFaultsAreAlive = (fuel : ℕ) (front behind : List Token) (stop : Stop) → read_module fuel (map read (front ++ behind)) ≡ Fault stop (map read behind) → (stop ≡ Endless → ⊥) → IsAlive front

-- And with the token at which a reader stops for depth, too.
abbrev pub DepthFaultsAreAlive : Type 0
DepthFaultsAreAlive = (fuel : ℕ) (front behind : List Token) (t : Token) → read_module fuel (map read (front ++ t ∷ behind)) ≡ Fault Depth (map read (t ∷ behind)) → IsAlive (front ++ t ∷ [])

-- So no token before a fault is dead: a reader stops no later than at the first token with which no module goes on.
abbrev pub NoDeadTokenIsPassed : Type 0
NoDeadTokenIsPassed = (fuel : ℕ) (tokens : List Token) (stop : Stop) (rest : List Filled) → read_module fuel (map read tokens) ≡ Fault stop rest → (stop ≡ Endless → ⊥) → (p : ℕ) → p + length rest < length tokens → IsDead tokens p → ⊥

-- Something begins with these tokens, and goes on up to others that it doesn't take.
pub record IsBegun {A : Type 0} (Spells : A → List Token → List Token → Type 0) (tokens : List Token) : Type 0 where
  pub more : List Token
  pub rest : List Token
  pub value : A
  pub spelled : Spells value (tokens ++ (more ++ rest)) rest

-- Some expression begins with these tokens, up to a mark that closes or separates, or to the end; or some statement or declaration,
-- up to no `finally`.
abbrev pub BeginsExpression : Flags → List Token → Type 0
BeginsExpression f tokens = IsBegun (λ x ts rest. IsExpressionBefore f ts x rest) tokens

abbrev pub BeginsStatement : Flags → List Token → Type 0
BeginsStatement f tokens = IsBegun (λ s ts rest. IsStatementBefore f ts s rest) tokens

-- So it is with the tokens before a fault, but one for want of turns.
abbrev pub TokensBeforeFaultsBeginExpressions : Type 0
TokensBeforeFaultsBeginExpressions = (fuel room : ℕ) (f : Flags) (front behind : List Token) (stop : Stop) → sequence (readers true fuel room) f (record { tokens = map read (front ++ behind); last = 0 }) ≡ Fault stop (map read behind) → (stop ≡ Endless → ⊥) → BeginsExpression f front

abbrev pub TokensBeforeFaultsBeginStatements : Type 0
TokensBeforeFaultsBeginStatements = (fuel room : ℕ) (f : Flags) (front behind : List Token) (stop : Stop) → statement (readers true fuel room) f Listed (record { tokens = map read (front ++ behind); last = 0 }) ≡ Fault stop (map read behind) → (stop ≡ Endless → ⊥) → BeginsStatement f front

-- And with the token at which a reader stops for depth, too.
abbrev pub DepthFaultsBeginExpressions : Type 0
DepthFaultsBeginExpressions = (fuel room : ℕ) (f : Flags) (front behind : List Token) (t : Token) → sequence (readers true fuel room) f (record { tokens = map read (front ++ t ∷ behind); last = 0 }) ≡ Fault Depth (map read (t ∷ behind)) → BeginsExpression f (front ++ t ∷ [])

abbrev pub DepthFaultsBeginStatements : Type 0
DepthFaultsBeginStatements = (fuel room : ℕ) (f : Flags) (front behind : List Token) (t : Token) → statement (readers true fuel room) f Listed (record { tokens = map read (front ++ t ∷ behind); last = 0 }) ≡ Fault Depth (map read (t ∷ behind)) → BeginsStatement f (front ++ t ∷ [])
