-- The next token, and what is left behind it.
use Rattle.std.specs.Prelude.{◌≡◌, Bool, true, false, ◌&&◌, List, [], ◌∷◌, Option, Some, None}
use Rattle.es5_ast.specs.Lexical.{Token5}
use Rattle.es5_ast.specs.declared.operators.BinaryOperator5.{BinaryOperator5}
use Rattle.es5_ast.specs.Grammar.{binary_kind, is_in}
use Rattle.es5_reading.specs.Expressions.{look_up, binary_operators, unless}
use Rattle.es5_reading.specs.Parser.{Input5, next_is}

-- the input after the next token
abbrev pub next_of : List Token5 → Input5 → Input5
next_of [] c = c
next_of (t ∷ ts) c = record { tokens = ts; last = t.end }

abbrev pub passed : Bool → Input5 → Input5
passed true c = next_of c.tokens c
passed false c = c

-- the answer says whether the next token is one that the test knows, which is then taken
pub record Takes (test : Token5 → Bool) (before : Input5) (answer : Bool) (behind : Input5) : Type 0 where
  pub known : answer ≡ next_is test before.tokens
  pub input : behind ≡ passed answer before

-- what the test makes of the next token
abbrev pub known_as : {B : Type 0} → (Token5 → Option B) → List Token5 → Option B
known_as test [] = None
known_as test (t ∷ ts) = test t

abbrev pub is_some : {B : Type 0} → Option B → Bool
is_some None = false
is_some (Some x) = true

-- the answer is what the test makes of the next token, which is taken if that is something
pub record TakesAs {B : Type 0} (test : Token5 → Option B) (before : Input5) (answer : Option B) (behind : Input5) : Type 0 where
  pub known : answer ≡ known_as test before.tokens
  pub input : behind ≡ passed (is_some answer) before

-- an operator between two operands; where no `in` may stand bare, that is none
abbrev pub unless_in : Bool → Option BinaryOperator5 → Option BinaryOperator5
unless_in no_in None = None
unless_in no_in (Some op) = unless (no_in && is_in op) (Some op)

abbrev pub next_binary : Bool → Token5 → Option BinaryOperator5
next_binary no_in t = unless_in no_in (look_up binary_kind binary_operators t.kind)
