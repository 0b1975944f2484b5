-- The next token, and what is left behind it.
use Rattle.std.specs.Prelude.{◌≡◌, Bool, true, false, ◌||◌, not, List, [], ◌∷◌, Option, Some, None, is_some}
use Rattle.es_text.specs.declared.Span.{Span}
use Rattle.es6_lexer.specs.declared.token.Punctuator.{Punctuator as Mark}
use Rattle.es6_ast.specs.declared.settings.Flags.{Flags}
use Rattle.es6_ast.specs.Tokens.{Filled}
use Rattle.es6_ast.specs.declared.operators.BinaryOperator.{BinaryOperator}
use Rattle.es6_ast.specs.Grammar.{binary_kind, is_in}
use Rattle.es6_reading.specs.Words.{look_up, binary_operators, unless}
use Rattle.es6_reading.specs.Parser.{Input, next_is}

-- the input after the next token
abbrev pub next_of : List Filled → Input → Input
next_of [] c = c
next_of (t ∷ ts) c = record { tokens = ts; last = t.span.end }

abbrev pub passed : Bool → Input → Input
passed true c = next_of c.tokens c
passed false c = c

-- the answer says whether the next token is one that the test knows, which is then taken
pub record Takes (test : Filled → Bool) (before : Input) (answer : Bool) (behind : Input) : Type 0 where
  pub known : answer ≡ next_is test before.tokens
  pub input : behind ≡ passed answer before

-- what the test makes of the next token
abbrev pub known_as : {B : Type 0} → (Filled → Option B) → List Filled → Option B
known_as test [] = None
known_as test (t ∷ ts) = test t

-- the answer is what the test makes of the next token, which is taken if that is something
pub record TakesAs {B : Type 0} (test : Filled → Option B) (before : Input) (answer : Option B) (behind : Input) : Type 0 where
  pub known : answer ≡ known_as test before.tokens
  pub input : behind ≡ passed (is_some answer) before

abbrev pub span_if : Bool → Span → Option Span
span_if true span = Some span
span_if false span = None

-- where the next token stands, if the test knows it
abbrev pub place_of : (Filled → Bool) → Filled → Option Span
place_of test t = span_if (test t) t.span

-- an operator between two operands; where the expression has no `in`, that is none
abbrev pub unless_in : Flags → Option BinaryOperator → Option BinaryOperator
unless_in f None = None
unless_in f (Some op) = unless (not (f.has_in || not (is_in op))) (Some op)

abbrev pub next_binary : Flags → Filled → Option BinaryOperator
next_binary f t = unless_in f (look_up binary_kind binary_operators t.kind)
