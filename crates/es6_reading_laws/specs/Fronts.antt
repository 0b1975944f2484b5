-- What an expression's or a statement's tokens begin with by themselves: that it is read, and no other.
use Rattle.std.specs.Prelude.{◌≡◌, ◌⊎◌, ℕ, true, false, List, [], ◌∷◌, ◌++◌, map, codes, Some}
use Rattle.es6_lexer.specs.declared.token.Token.{Token}
use Rattle.es6_lexer.specs.declared.token.TokenKind.TheVariants.{Word}
use Rattle.es6_lexer.specs.declared.token.Punctuator.TheVariants as mark
use Rattle.es6_ast.specs.declared.tree.Expression.{Expression}
use Rattle.es6_ast.specs.declared.tree.Parameter.{Parameter}
use Rattle.es6_ast.specs.declared.tree.Pattern.{Pattern}
use Rattle.es6_ast.specs.declared.tree.Statement.{Statement}
use Rattle.es6_ast.specs.declared.settings.Flags.{Flags}
use Rattle.es6_ast.specs.declared.settings.Stand.TheVariants.{Listed}
use Rattle.es6_ast.specs.declared.settings.Stop.TheVariants.{Depth, Endless}
use Rattle.es6_ast.specs.Grammar.{level_sequence, IsExpression, IsListed, IsTarget, AreArrowParameters}
use Rattle.es6_ast.specs.Targets.{misfit}
use Rattle.es6_ast.specs.Tokens.{Filled, Read, IsMark, read}
use Rattle.es6_reading.specs.Expressions.{sequence}
use Rattle.es6_reading.specs.Laws.{BeginWith}
use Rattle.es6_reading.specs.Modules.{readers}
use Rattle.es6_reading.specs.Parser.{Input, Outcome, Took, Fault, Reading}
use Rattle.es6_reading.specs.Refine.{Misfit, TooNested, refine_parameters}
use Rattle.es6_reading.specs.Refinements.{IsCover}
use Rattle.es6_reading.specs.Statements.{statement}
use Rattle.es6_reading_laws.specs.Breaks.{Breaks}

-- No expression goes on with these tokens, whatever stands before them: there are none, or a mark that closes or separates comes
-- first.
pub data EndsThere : List Filled → Type 0 where
  at_end : EndsThere []
  parenthesis : {t : Filled} {ts : List Filled} → IsMark mark.RightParenthesis t → EndsThere (t ∷ ts)
  bracket : {t : Filled} {ts : List Filled} → IsMark mark.RightBracket t → EndsThere (t ∷ ts)
  brace : {t : Filled} {ts : List Filled} → IsMark mark.RightBrace t → EndsThere (t ∷ ts)
  colon : {t : Filled} {ts : List Filled} → IsMark mark.Colon t → EndsThere (t ∷ ts)
  semicolon : {t : Filled} {ts : List Filled} → IsMark mark.Semicolon t → EndsThere (t ∷ ts)

-- The reader takes exactly what is made of this, and leaves exactly these tokens, or it stops for want of constructs that may open, or
-- of turns.
pub data Settles {A B : Type 0} (made : A → B) (x : B) (us : List Filled) : Outcome A → Type 0 where
  reads : {y : A} {c : Input} → made y ≡ x → c.tokens ≡ us → Settles made x us (Took y c)
  too_deep : {ts : List Filled} → Settles made x us (Fault Depth ts)
  too_long : {ts : List Filled} → Settles made x us (Fault Endless ts)

-- the tokens before the rest spell the expression, or the statement or declaration, if semicolons are put in at breaks
pub record SpellsExpressionAtBreaks (f : Flags) (tokens : List Token) (x : Expression) (rest : List Token) : Type 0 where
  pub filled : List Filled
  pub breaks : Breaks [] tokens filled rest
  pub spelled : IsExpression f level_sequence (filled ++ map read rest) x (map read rest)

pub record SpellsStatementAtBreaks (f : Flags) (tokens : List Token) (s : Statement) (rest : List Token) : Type 0 where
  pub filled : List Filled
  pub breaks : Breaks [] tokens filled rest
  pub spelled : IsListed f (filled ++ map read rest) s (map read rest)

-- An expression that tokens spell so is what is read of them, if nothing goes on behind it: no shorter front of them is read, and no
-- longer one.
abbrev pub ExpressionsAreRead : Type 0
ExpressionsAreRead = (fuel room : ℕ) (f : Flags) (tokens rest : List Token) (x : Expression) → SpellsExpressionAtBreaks f tokens x rest → EndsThere (map read rest)
    → Settles (λ (r : Reading). r.value) x (map read rest) (sequence (readers true fuel room) f (record { tokens = map read tokens; last = 0 }))

-- The same of a statement or declaration, behind which no `finally` stands, with which a `try` would go on (13.15).
abbrev pub StatementsAreRead : Type 0
StatementsAreRead = (fuel room : ℕ) (f : Flags) (tokens rest : List Token) (s : Statement) → SpellsStatementAtBreaks f tokens s rest → (BeginWith (Read (Word (codes "finally"))) (map read rest) → ⊥)
    → Settles (λ (y : Statement). y) s (map read rest) (statement (readers true fuel room) f Listed (record { tokens = map read tokens; last = 0 }))

-- No tokens by themselves spell two expressions.
abbrev pub IsOneExpression : Type 0
IsOneExpression = (f : Flags) (a b : ℕ) (ts : List Filled) (x y : Expression) → IsExpression f a ts x [] → IsExpression f b ts y [] → x ≡ y

-- The tokens that spell an expression with a misfit spell no pattern (12.14.5).
abbrev pub MisfitsAreNoPatterns : Type 0
MisfitsAreNoPatterns = (x : Expression) (at : ℕ) → misfit x ≡ Some at → (f : Flags) (least : ℕ) (ts : List Filled) → IsExpression f least ts x [] → (p : Pattern) → IsTarget f false ts p [] → ⊥

-- No parameters of an arrow are spelled by the tokens of the expression, or of parentheses that only parameters have.
pub record SpellsNoParameters (x : Expression) : Type 0 where
  pub spelled : (f : Flags) (least : ℕ) (ts : List Filled) → IsExpression f least ts x [] → (es : List Parameter) → AreArrowParameters f ts es [] → ⊥
  pub covered : (f : Flags) (ts : List Filled) → IsCover f ts x [] → (es : List Parameter) → AreArrowParameters f ts es [] → ⊥

-- So it is where no depth makes parameters of it (14.2).
abbrev pub MisfitsAreNoParameters : Type 0
MisfitsAreNoParameters = (x : Expression) (at : ℕ) → ((n : ℕ) → (refine_parameters n x ≡ Misfit at) ⊎ (refine_parameters n x ≡ TooNested)) → SpellsNoParameters x
