-- That the model that reads modules, expressions and statements reports what the definition has a reader report.
use Rattle.std.specs.Prelude.{◌≡◌, ◌⊎◌, ℕ, true, List, [], ◌∷◌, ◌++◌, map, codes, pos}
use Rattle.es6_lexer.specs.declared.token.NumberToken.TheVariants.{Whole, TooLarge, Marked}
use Rattle.es6_lexer.specs.declared.token.Punctuator.TheVariants.{Slash, SlashAssign, Exclamation}
use Rattle.es6_lexer.specs.declared.token.Token.{Token}
use Rattle.es6_lexer.specs.declared.token.TokenKind.{TokenKind}
use Rattle.es6_lexer.specs.declared.token.TokenKind.TheVariants.{Word, Punctuator, Number}
use Rattle.es6_ast.specs.declared.settings.Flags.{Flags}
use Rattle.es6_ast.specs.declared.settings.Stand.TheVariants.{Listed}
use Rattle.es6_ast.specs.declared.settings.Stop.{Stop}
use Rattle.es6_ast.specs.declared.settings.Stop.TheVariants.{Outside, Syntax}
use Rattle.es6_ast.specs.Dead.{StopsAt}
use Rattle.es6_ast.specs.Tokens.{read}
use Rattle.es6_reading.specs.Expressions.{sequence}
use Rattle.es6_reading.specs.Laws.{IsFinal}
use Rattle.es6_reading.specs.Modules.{read_module, readers}
use Rattle.es6_reading.specs.Parser.{Fault}
use Rattle.es6_reading.specs.Statements.{statement}
use Rattle.es6_reading_laws.specs.es6_viability.Alive.{BeginsExpression, BeginsStatement}

-- A fault at a token, but one for want of constructs that may open or of turns, stands where the definition has a reader stop, and is what
-- it reports there.
abbrev pub FaultsAreReported : Type 0
FaultsAreReported = (fuel : ℕ) (front behind : List Token) (t : Token) (stop : Stop) → read_module fuel (map read (front ++ t ∷ behind)) ≡ Fault stop (map read (t ∷ behind)) → IsFinal stop → StopsAt (front ++ t ∷ behind) t.span.begin stop

-- ## Of single expressions and statements

-- something begins with the tokens and, behind them, one of the kind in place of this token
abbrev pub GoesOn : (List Token → Type 0) → List Token → Token → TokenKind → Type 0
GoesOn Begins front t kind = Begins (front ++ record t { kind = kind } ∷ [])

-- The constructs outside the profile that a reader finds at a token behind others, as in `es6_ast/specs/Dead.antt`: for-in, a regular
-- expression, a number with a point or an exponent, a number above 9007199254740991, and `with` (6th edition, 11.8.3, 11.8.5, 13.7.5,
-- 13.11).
pub data IsOutsideIn (Begins : List Token → Type 0) (front : List Token) (t : Token) : ℕ → Type 0 where
  for_in : t.kind ≡ Word (codes "in") → GoesOn Begins front t (Word (codes "of")) → (GoesOn Begins front t (Word (codes "from")) → ⊥) → IsOutsideIn Begins front t 1
  regular_expression : (t.kind ≡ Punctuator Slash) ⊎ (t.kind ≡ Punctuator SlashAssign) → GoesOn Begins front t (Punctuator Exclamation) → IsOutsideIn Begins front t 2
  marked_number : t.kind ≡ Number Marked → GoesOn Begins front t (Number (Whole (pos 0))) → IsOutsideIn Begins front t 3
  large_number : t.kind ≡ Number TooLarge → GoesOn Begins front t (Number (Whole (pos 0))) → IsOutsideIn Begins front t 4
  with : t.kind ≡ Word (codes "with") → GoesOn Begins front t (Word (codes "debugger")) → IsOutsideIn Begins front t 5

-- what is reported at the token is such a construct, or a syntax fault where there is none
abbrev pub ReportsIn : (List Token → Type 0) → List Token → Token → Stop → Type 0
ReportsIn Begins front t (Outside rule) = IsOutsideIn Begins front t rule
ReportsIn Begins front t Syntax = (rule : ℕ) → IsOutsideIn Begins front t rule → ⊥
ReportsIn Begins front t stop = Unit {0}

-- So it is with the faults of a reader of expressions, and of one of statements and declarations.
abbrev pub ExpressionFaultsAreReported : Type 0
ExpressionFaultsAreReported = (fuel room : ℕ) (f : Flags) (front behind : List Token) (t : Token) (stop : Stop) → sequence (readers true fuel room) f (record { tokens = map read (front ++ t ∷ behind); last = 0 }) ≡ Fault stop (map read (t ∷ behind)) → ReportsIn (BeginsExpression f) front t stop

abbrev pub StatementFaultsAreReported : Type 0
StatementFaultsAreReported = (fuel room : ℕ) (f : Flags) (front behind : List Token) (t : Token) (stop : Stop) → statement (readers true fuel room) f Listed (record { tokens = map read (front ++ t ∷ behind); last = 0 }) ≡ Fault stop (map read (t ∷ behind)) → ReportsIn (BeginsStatement f) front t stop
