-- That the model reads the expression, or the statement or declaration, that tokens begin with by the standard's rule for semicolons
-- (11.9), and none that is shorter or longer.
use Rattle.std.specs.Prelude.{◌≡◌, ℕ, true, List, [], ◌∷◌, ◌++◌, map, codes}
use Rattle.es6_lexer.specs.declared.token.Token.{Token}
use Rattle.es6_lexer.specs.declared.token.TokenKind.TheVariants.{Word}
use Rattle.es6_ast.specs.declared.tree.Expression.{Expression}
use Rattle.es6_ast.specs.declared.tree.Statement.{Statement}
use Rattle.es6_ast.specs.declared.settings.Flags.{Flags}
use Rattle.es6_ast.specs.declared.settings.Stand.TheVariants.{Listed}
use Rattle.es6_ast.specs.declared.settings.Stop.{Stop}
use Rattle.es6_ast.specs.Grammar.{level_sequence}
use Rattle.es6_ast.specs.Semicolons.{SpellsExpression, SpellsStatement}
use Rattle.es6_ast.specs.Tokens.{Read, read}
use Rattle.es6_reading.specs.Expressions.{sequence}
use Rattle.es6_reading.specs.Laws.{BeginWith, IsFinal}
use Rattle.es6_reading.specs.Modules.{readers}
use Rattle.es6_reading.specs.Parser.{Fault, Reading}
use Rattle.es6_reading.specs.Statements.{statement}
use Rattle.es6_reading_laws.specs.Fronts.{EndsThere, Settles}

-- The tokens before the rest spell the expression, or the statement or declaration, and with the rest no expression goes on, and no
-- `try`, which goes on with a `finally` (13.15).
abbrev pub IsExpressionBefore : Flags → List Token → Expression → List Token → Type 0
IsExpressionBefore f tokens x rest = SpellsExpression f level_sequence tokens x rest × EndsThere (map read rest)

abbrev pub IsStatementBefore : Flags → List Token → Statement → List Token → Type 0
IsStatementBefore f tokens s rest = SpellsStatement f tokens s rest × (BeginWith (Read (Word (codes "finally"))) (map read rest) → ⊥)

-- the tokens begin so with it
abbrev pub BeginWithExpression : Flags → List Token → Expression → Type 0
BeginWithExpression f tokens x = (rest : List Token) × IsExpressionBefore f tokens x rest

abbrev pub BeginWithStatement : Flags → List Token → Statement → Type 0
BeginWithStatement f tokens s = (rest : List Token) × IsStatementBefore f tokens s rest

-- An expression that tokens begin with so is what is read of them, and exactly its tokens are taken, or a limit stops the reader.
abbrev pub SpelledExpressionsAreRead : Type 0
SpelledExpressionsAreRead = (fuel room : ℕ) (f : Flags) (tokens rest : List Token) (x : Expression) → IsExpressionBefore f tokens x rest
    → Settles (λ (r : Reading). r.value) x (map read rest) (sequence (readers true fuel room) f (record { tokens = map read tokens; last = 0 }))

-- So is a statement or declaration.
abbrev pub SpelledStatementsAreRead : Type 0
SpelledStatementsAreRead = (fuel room : ℕ) (f : Flags) (tokens rest : List Token) (s : Statement) → IsStatementBefore f tokens s rest
    → Settles (λ (y : Statement). y) s (map read rest) (statement (readers true fuel room) f Listed (record { tokens = map read tokens; last = 0 }))

-- Nothing that is spelled so begins with the front and the first of the other tokens, or with the front alone where there is none.
abbrev pub NoneGoesOn : {A : Type 0} → (List Token → A → Type 0) → List Token → List Token → Type 0
NoneGoesOn {A = A} Spell front [] = (x : A) → Spell front x → ⊥
NoneGoesOn {A = A} Spell front (t ∷ ts) = (others : List Token) (x : A) → Spell (front ++ t ∷ others) x → ⊥

-- A fault of a reader of expressions, but one for want of constructs that may open or of turns, stands at a token with which no
-- expression goes on after the tokens before it.
abbrev pub NoExpressionGoesOn : Type 0
NoExpressionGoesOn = (fuel room : ℕ) (f : Flags) (front rest : List Token) (stop : Stop) → sequence (readers true fuel room) f (record { tokens = map read (front ++ rest); last = 0 }) ≡ Fault stop (map read rest) → IsFinal stop → NoneGoesOn (BeginWithExpression f) front rest

-- So does one of a reader of statements.
abbrev pub NoStatementGoesOn : Type 0
NoStatementGoesOn = (fuel room : ℕ) (f : Flags) (front rest : List Token) (stop : Stop) → statement (readers true fuel room) f Listed (record { tokens = map read (front ++ rest); last = 0 }) ≡ Fault stop (map read rest) → IsFinal stop → NoneGoesOn (BeginWithStatement f) front rest
