-- What the operators do to primitive values, and equality of all values (ECMA-262, 6th edition, 7.2.11 to 7.2.13, 12.5 to 12.11;
-- 7th edition, 12.6). Operands are converted from left to right, and each conversion and result may be an exit.
use Rattle.std.specs.Prelude.{ℕ, ℤ, pos, Bool, true, false, ◌||◌, not, int_lt, if◌then◌else◌, List, [], ◌∷◌, ◌++◌, Result, Ok, Err}
use Rattle.std.specs.Ordering.{int_eq, nat_cmp, is_lt}
use Rattle.std.specs.Cmp.Lexicographic.{slice_cmp}
use Rattle.es_value.specs.declared.arithmetic.Exit.{Exit}
use Rattle.es_value.specs.declared.value.Value.{Value}
use Rattle.es_value.specs.declared.value.Value.TheVariants as value
use Rattle.es_value.specs.Arithmetic.{exit_number, sum, difference, product, quotient, remainder, power}
use Rattle.es_value.specs.Bits.{bitwise_and, bitwise_or, bitwise_xor, bitwise_not, left_shift, signed_right_shift, unsigned_right_shift}
use Rattle.es_value.specs.Convert.{number_of, text_of}
use Rattle.es_value.specs.Equality.{same_value, same_truth}
use Rattle.es_operators.specs.declared.operators.Arithmetic.{Arithmetic}
use Rattle.es_operators.specs.declared.operators.Arithmetic.TheVariants as op
use Rattle.es_operators.specs.declared.operators.Relation.{Relation}
use Rattle.es_operators.specs.declared.operators.Relation.TheVariants as relation
use Rattle.es_operators.specs.declared.operators.Outcome.{Outcome}
use Rattle.es_operators.specs.declared.operators.Outcome.TheVariants.{Gives, Leaves}
use Rattle.es_operators.specs.declared.operators.Equality.{Equality}
use Rattle.es_operators.specs.declared.operators.Equality.TheVariants as equality

abbrev pub given : Result ℤ Exit → Outcome
given (Ok n) = Gives (value.Number n)
given (Err x) = Leaves (exit_number x)

-- an operator on two numbers
abbrev pub calculate : Arithmetic → ℤ → ℤ → Result ℤ Exit
calculate op.Subtract a b = difference a b
calculate op.Multiply a b = product a b
calculate op.Divide a b = quotient a b
calculate op.Remainder a b = remainder a b
calculate op.Power a b = power a b
calculate op.And a b = Ok (bitwise_and a b)
calculate op.Or a b = Ok (bitwise_or a b)
calculate op.ExclusiveOr a b = Ok (bitwise_xor a b)
calculate op.ShiftLeft a b = Ok (left_shift a b)
calculate op.ShiftRight a b = Ok (signed_right_shift a b)
calculate op.ShiftRightUnsigned a b = Ok (unsigned_right_shift a b)

-- two operands as numbers
abbrev pub second_number : ℤ → Result ℤ Exit → (ℤ → ℤ → Outcome) → Outcome
second_number a (Ok b) f = f a b
second_number a (Err x) f = Leaves (exit_number x)

abbrev pub first_number : Result ℤ Exit → Value → (ℤ → ℤ → Outcome) → Outcome
first_number (Ok a) b f = second_number a (number_of b) f
first_number (Err x) b f = Leaves (exit_number x)

abbrev pub with_numbers : Value → Value → (ℤ → ℤ → Outcome) → Outcome
with_numbers a b f = first_number (number_of a) b f

-- an arithmetic operator on two primitives (12.6 to 12.8 and 12.11)
abbrev pub arithmetic : Arithmetic → Value → Value → Outcome
arithmetic operator a b = with_numbers a b (λ m n. given (calculate operator m n))

abbrev pub is_text : Value → Bool
is_text (value.Text us) = true
is_text _ = false

-- `+` of two primitives (12.7.3)
abbrev pub addition : Value → Value → Outcome
addition a b = if is_text a || is_text b then Gives (value.Text (text_of a ++ text_of b)) else with_numbers a b (λ m n. given (sum m n))

abbrev pub truth : Bool → Outcome
truth b = Gives (value.Bool b)

-- whether a is less than b (7.2.11): texts are compared by units, and other values as numbers
abbrev pub is_less : Value → Value → Bool → Outcome
is_less (value.Text us) (value.Text vs) turned = truth (same_truth turned (is_lt (slice_cmp nat_cmp us vs)))
is_less a b turned = with_numbers a b (λ m n. truth (same_truth turned (int_lt m n)))

-- `<`, `>`, `<=` and `>=` of two primitives (12.9.3)
abbrev pub relation_of : Relation → Value → Value → Outcome
relation_of relation.Less a b = is_less a b true
relation_of relation.Greater a b = is_less b a true
relation_of relation.LessOrEqual a b = is_less b a false
relation_of relation.GreaterOrEqual a b = is_less a b false

-- `-` and `~` of a primitive (12.5.10 and 12.5.11); `+` gives its number (12.5.9)
abbrev pub negation : Result ℤ Exit → Outcome
negation (Ok n) = given (difference (pos 0) n)
negation (Err x) = Leaves (exit_number x)

abbrev pub complement : Result ℤ Exit → Outcome
complement (Ok n) = Gives (value.Number (bitwise_not n))
complement (Err x) = Leaves (exit_number x)

-- the kinds of value that equality tells apart
abbrev pub is_nothing : Value → Bool
is_nothing value.Undefined = true
is_nothing value.Null = true
is_nothing _ = false

abbrev pub equal_numbers : Result ℤ Exit → Result ℤ Exit → Equality
equal_numbers (Err x) n = equality.Leaves (exit_number x)
equal_numbers (Ok m) (Err x) = equality.Leaves (exit_number x)
equal_numbers (Ok m) (Ok n) = equality.Is (int_eq m n)

-- `==` of two values, neither of which is undefined or null (7.2.12): values of one type as `===` has them, an object and a
-- primitive once the object is converted, and other primitives as numbers
abbrev pub loose : Value → Value → Equality
loose (value.Object a) (value.Object b) = equality.Is (same_value (value.Object a) (value.Object b))
loose (value.Object a) b = equality.ConvertLeft
loose a (value.Object b) = equality.ConvertRight
loose (value.Bool a) (value.Bool b) = equality.Is (same_value (value.Bool a) (value.Bool b))
loose (value.Number a) (value.Number b) = equality.Is (same_value (value.Number a) (value.Number b))
loose (value.Text a) (value.Text b) = equality.Is (same_value (value.Text a) (value.Text b))
loose a b = equal_numbers (number_of a) (number_of b)

-- `==` (7.2.12): undefined and null equal each other and nothing else
abbrev pub loose_equality : Value → Value → Equality
loose_equality a b = if is_nothing a || is_nothing b then equality.Is (same_truth (is_nothing a) (is_nothing b)) else loose a b
