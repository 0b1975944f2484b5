-- Expressions: a head, and then link by link (ECMA-262, 6th edition, 12; 5.1 edition, 11).
use Rattle.std.specs.Prelude.{Err, List, None, Ok, Option, Result, Some, [], if◌then◌else◌, nat_le, not, pos, slice_get, ℕ, ℤ, ◌∷◌}
use Rattle.es_value.specs.Arithmetic.{difference, exit_number, sum}
use Rattle.es_value.specs.Equality.{same_value}
use Rattle.es_value.specs.declared.arithmetic.Exit.{Exit}
use Rattle.es_value.specs.declared.value.ObjId.{ObjId}
use Rattle.es_value.specs.declared.value.Value.{Value}
use Rattle.es_value.specs.declared.value.Value.TheVariants as value
use Rattle.es_heap.specs.Heaps.{made, next_id}
use Rattle.es_heap.specs.declared.class.Class.{Class}
use Rattle.es_heap.specs.declared.class.Class.TheVariants as class
use Rattle.es_realm.specs.Names as name
use Rattle.es_operators.specs.Primitives.{truth_of, type_name}
use Rattle.es_operations.specs.Numbers as number
use Rattle.core_ast.specs.declared.parts.Binary.{Binary}
use Rattle.core_ast.specs.declared.parts.Binary.TheVariants as binary
use Rattle.core_ast.specs.declared.parts.Constant.{Constant}
use Rattle.core_ast.specs.declared.parts.Constant.TheVariants as constant
use Rattle.core_ast.specs.declared.parts.CoreHead.{CoreHead}
use Rattle.core_ast.specs.declared.parts.CoreHead.TheVariants as head
use Rattle.core_ast.specs.declared.parts.FunctionId.{FunctionId}
use Rattle.core_ast.specs.declared.parts.Global.{Global}
use Rattle.core_ast.specs.declared.parts.Global.TheVariants as global
use Rattle.core_ast.specs.declared.parts.Unary.{Unary}
use Rattle.core_ast.specs.declared.parts.Unary.TheVariants as unary
use Rattle.core_ast.specs.declared.parts.Update.{Update}
use Rattle.core_ast.specs.declared.parts.Update.TheVariants.{DecrementAfter, DecrementBefore, IncrementAfter, IncrementBefore}
use Rattle.core_ast.specs.declared.parts.Var.{Var}
use Rattle.core_ast.specs.declared.tree.CoreExpr.{CoreExpr, out-CoreExpr}
use Rattle.core_ast.specs.declared.tree.CoreLink.{CoreLink}
use Rattle.core_ast.specs.declared.whole.Core.{Core}
use Rattle.core_ast.specs.declared.whole.CoreFunction.{CoreFunction}
use Rattle.core_meaning.specs.Names.{initialized, read, type_of, write}
use Rattle.core_meaning.specs.Rows.{Given, Next, Rows, goes, hands, has, leaves, operates, pushed, unlawful, users, with_heap, with_option}
use Rattle.core_meaning.specs.State.{After, CoreValue, Current, Extra, Frame, Gives, Has, Hosted, Sorts, State, StepName, Strict, User}

-- ---- heads

-- a lawful integer is safe
abbrev pub integer_value : ℕ → Option Value
integer_value n = if nat_le n 9007199254740991 then Some (value.Number (pos n)) else None

abbrev pub constant_value : Constant → Option Value
constant_value constant.Undefined = Some value.Undefined
constant_value constant.Null = Some value.Null
constant_value (constant.Truth b) = Some (value.Bool b)
constant_value (constant.Integer n) = integer_value n
constant_value (constant.Text units) = Some (value.Text units)

abbrev pub global_object : Global → ObjId
global_object global.ObjectGlobal = name.object
global_object global.ArrayGlobal = name.array
global_object global.StringGlobal = name.string
global_object global.ErrorGlobal = name.error
global_object global.TypeErrorGlobal = name.type_error
global_object global.ReferenceErrorGlobal = name.reference_error
global_object global.RangeErrorGlobal = name.range_error

-- an object without properties, to which links add some (12.2.5, 12.2.6)
abbrev pub has_made : {s : Sorts} {S : Type 0} → ObjId → Class → List CoreLink → State s S → Next s S
has_made proto class links st =
    has (value.Object (next_id st.heap)) links (with_heap (made st.heap (Some proto) class) st)

abbrev pub has_given : {s : Sorts} {S : Type 0} → List CoreLink → Given s S → Next s S
has_given links g = goes (Has g.value) links g.state

abbrev pub function_at : Core → FunctionId → Option CoreFunction
function_at core f = slice_get core.functions f.0

-- a closure (14.1.20; 5.1 edition, 13)
abbrev pub closed : {s : Sorts} {S : Type 0} → Rows s S → Core → FunctionId → List CoreLink → State s S → Next s S
closed rows core f links st =
    with_option (function_at core f) st (λ function. has_given links (rows.closure f function st))

unfoldable pub begin_head : {s : Sorts} {S : Type 0} → Rows s S → Core → CoreHead → List CoreLink → State s S → Next s S
begin_head rows core (head.Constant c) links st = with_option (constant_value c) st (λ v. has v links st)
begin_head rows core (head.Variable x) links st = read rows x links st
begin_head rows core (head.TypeOf x) links st = type_of rows x links st
begin_head rows core (head.Global g) links st = has (value.Object (global_object g)) links st
begin_head rows core (head.Host h) links st = goes (Hosted h) links st
begin_head rows core head.This links st = goes (Has (rows.this st)) links st
begin_head rows core head.ArrayList links st = has_made name.array_prototype class.Array links st
begin_head rows core head.ObjectList links st = has_made name.object_prototype class.Object links st
begin_head rows core (head.Function f) links st = closed rows core f links st
begin_head rows core h links st = rows.head h links st

abbrev pub begin : {s : Sorts} {S : Type 0} → Rows s S → Core → CoreExpr → State s S → Next s S
begin rows core x st = begin_head rows core (out-CoreExpr x).head (out-CoreExpr x).links st

-- ---- operators

abbrev pub binary_number : Binary → ℕ
binary_number binary.BitOr = number.or_number
binary_number binary.BitXor = number.exclusive_or_number
binary_number binary.BitAnd = number.and_number
binary_number binary.Equal = number.equal_number
binary_number binary.NotEqual = number.not_equal_number
binary_number binary.Less = number.less_number
binary_number binary.Greater = number.greater_number
binary_number binary.AtMost = number.at_most_number
binary_number binary.AtLeast = number.at_least_number
binary_number binary.InstanceOf = number.instance_number
binary_number binary.In = number.has_property_number
binary_number binary.ShiftLeft = number.shift_left_number
binary_number binary.ShiftRight = number.shift_right_number
binary_number binary.ShiftRightUnsigned = number.shift_right_unsigned_number
binary_number binary.Subtract = number.subtract_number
binary_number binary.Multiply = number.multiply_number
binary_number binary.Divide = number.divide_number
binary_number binary.Remainder = number.remainder_number
binary_number b = number.add_number

-- `===` and `!==` (12.10) convert nothing; what the others give goes to the frame
unfoldable pub operate : {s : Sorts} {S : Type 0} → Frame s.Mark s.Work → Binary → Value → Value → State s S → Next s S
operate frame binary.Same v w st = hands (Gives (User (value.Bool (same_value v w)))) (pushed frame st)
operate frame binary.NotSame v w st = hands (Gives (User (value.Bool (not (same_value v w))))) (pushed frame st)
operate frame b v w st = operates frame (binary_number b) v (w ∷ []) st

-- 12.5
unfoldable pub operate_one : {s : Sorts} {S : Type 0} → List CoreLink → Unary → Value → State s S → Next s S
operate_one links unary.Void v st = has value.Undefined links st
operate_one links unary.Typeof v st = has (value.Text (type_name st.heap v)) links st
operate_one links unary.Not v st = has (value.Bool (not (truth_of v))) links st
operate_one links unary.Plus v st = operates (After links) number.to_number_number v [] st
operate_one links unary.Minus v st = operates (After links) number.negate_number v [] st
operate_one links unary.BitNot v st = operates (After links) number.invert_number v [] st

-- what `++` and `--` write, of the number before, and which of the two they give (12.4, 12.5.7, 12.5.8)
abbrev pub stepped : Update → ℤ → Result ℤ Exit
stepped IncrementBefore n = sum n (pos 1)
stepped IncrementAfter n = sum n (pos 1)
stepped DecrementBefore n = difference n (pos 1)
stepped DecrementAfter n = difference n (pos 1)

abbrev pub step_value : Update → ℤ → ℤ → Value
step_value IncrementBefore before after = value.Number after
step_value DecrementBefore before after = value.Number after
step_value IncrementAfter before after = value.Number before
step_value DecrementAfter before after = value.Number before

abbrev pub with_result : {s : Sorts} {S : Type 0} → Result ℤ Exit → State s S → (ℤ → Next s S) → Next s S
with_result (Ok n) st f = f n
with_result (Err x) st f = leaves (exit_number x) st

abbrev pub with_step : {s : Sorts} {S : Type 0} → Update → Value → State s S → (Value → Value → Next s S) → Next s S
with_step u (value.Number n) st f = with_result (stepped u n) st (λ m. f (value.Number m) (step_value u n m))
with_step u v st f = unlawful st

-- ---- the operands of a strict link

abbrev pub user_in : {M : Type 0} → CoreValue M → Option Value
user_in (User v) = Some v
user_in (Extra m) = None

abbrev pub user_at : {M : Type 0} → Current M → Option Value
user_at (Has v) = user_in v
user_at c = None

-- the value of a list of one
abbrev pub single : {A : Type 0} → List A → Option A
single (v ∷ []) = Some v
single vs = None

abbrev pub user_of : {M : Type 0} → Option (CoreValue M) → Option Value
user_of None = None
user_of (Some v) = user_in v

abbrev pub single_user : {M : Type 0} → List (CoreValue M) → Option Value
single_user vs = user_of (single vs)

abbrev pub with_current : {s : Sorts} {S : Type 0} → Current s.Mark → State s S → (Value → Next s S) → Next s S
with_current c st f = with_option (user_at c) st f

abbrev pub with_part : {s : Sorts} {S : Type 0} → Strict s.Mark → State s S → (Value → Next s S) → Next s S
with_part p st f = with_option (single_user p.values) st f

-- the current value and the part
abbrev pub with_two : {s : Sorts} {S : Type 0} → Strict s.Mark → State s S → (Value → Value → Next s S) → Next s S
with_two p st f = with_current p.current st (λ v. with_part p st (f v))

abbrev pub with_all : {s : Sorts} {S : Type 0} → Strict s.Mark → State s S → (List Value → Next s S) → Next s S
with_all p st f = with_option (users p.values) st f

-- ---- operations on values and names

abbrev pub operator : {s : Sorts} {S : Type 0} → Binary → Strict s.Mark → State s S → Next s S
operator b p st = with_two p st (λ v w. operate (After p.links) b v w st)

-- `,` (12.15)
abbrev pub sequence : {s : Sorts} {S : Type 0} → Strict s.Mark → State s S → Next s S
sequence p st = with_option (single p.values) st (λ v. goes (Has v) p.links st)

abbrev pub set : {s : Sorts} {S : Type 0} → Rows s S → Var → Strict s.Mark → State s S → Current s.Mark → Next s S
set rows x p st (Has v) = write rows x v v p.links st
set rows x p st c = unlawful st

abbrev pub initialize : {s : Sorts} {S : Type 0} → Var → Strict s.Mark → State s S → Current s.Mark → Next s S
initialize x p st (Has v) = goes (Has v) p.links (initialized x v st)
initialize x p st c = unlawful st

abbrev pub step_name : {s : Sorts} {S : Type 0} → Update → Var → Strict s.Mark → State s S → Next s S
step_name u x p st = with_current p.current st (λ v. operates (StepName u x p.links) number.to_number_number v [] st)
