-- Expressions (ECMA-262, 6th edition, 12; 7th edition, 12.6).
use Rattle.std.specs.Prelude.{Bool, Err, List, Ok, Result, [], if◌then◌else◌, not, pos, true, ℕ, ℤ, ◌++◌, ◌∷◌}
use Rattle.es_value.specs.Arithmetic.{difference, exit_number, sum}
use Rattle.es_value.specs.Equality.{same_value}
use Rattle.es_value.specs.declared.arithmetic.Exit.{Exit}
use Rattle.es_value.specs.declared.value.Value.{Value}
use Rattle.es_value.specs.declared.value.Value.TheVariants as value
use Rattle.es_heap.specs.declared.key.Key.TheVariants.{Text}
use Rattle.es_realm.specs.declared.errors.ErrorKind.TheVariants.{ReferenceError}
use Rattle.es_operators.specs.Primitives.{truth_of, type_name}
use Rattle.es_operations.specs.Numbers as number
use Rattle.es_operations.specs.Turning.{key_operand}
use Rattle.es6_ast.specs.Spans.{Open}
use Rattle.es6_ast.specs.declared.operators.AssignOperator.{AssignOperator}
use Rattle.es6_ast.specs.declared.operators.AssignOperator.TheVariants as assign
use Rattle.es6_ast.specs.declared.operators.BinaryOperator.{BinaryOperator}
use Rattle.es6_ast.specs.declared.operators.BinaryOperator.TheVariants as binary
use Rattle.es6_ast.specs.declared.operators.UnaryOperator.{UnaryOperator}
use Rattle.es6_ast.specs.declared.operators.UnaryOperator.TheVariants as unary
use Rattle.es6_ast.specs.declared.operators.UpdateOperator.{UpdateOperator}
use Rattle.es6_ast.specs.declared.operators.UpdateOperator.TheVariants.{DecrementAfter, DecrementBefore, IncrementAfter, IncrementBefore}
use Rattle.es6_ast.specs.declared.tree.Argument.TheOpen as layer
use Rattle.es6_ast.specs.declared.tree.Argument.TheOpen.{Pattern-F}
use Rattle.es6_ast.specs.declared.tree.Expression.{Expression}
use Rattle.es6_ast.specs.declared.tree.Operand.{Operand, out-Operand}
use Rattle.es6_ast.specs.declared.tree.Pattern.{Pattern}
use Rattle.es6_ast.specs.declared.tree.TemplatePart.{TemplatePart, out-TemplatePart}
use Rattle.source_meaning.specs.References.{put_value, reads, super_reference, with_text}
use Rattle.source_meaning.specs.State.{AssignOld, AssignPattern, AssignReference, AssignValue, Completion, Gives, OfProperty, OperandRight, Operands, Reference, Refers, SequenceRest, State, SuperKeyed, TemplateText, TemplateValue, UpdateNumber, UpdateOld, Work}
use Rattle.source_meaning.specs.Steps.{Next, begins, gives, impossible, leaves, operates, pushed, raises, refers, turns}

-- ---- templates (12.2.9.5): each value becomes a text as soon as it is evaluated

abbrev pub template_on : List ℕ → List TemplatePart → State → Next
template_on text [] st = gives (value.Text text) st
template_on text (p ∷ ps) st =
    begins (TemplateValue text (out-TemplatePart p).after.cooked ps) (out-TemplatePart p).value st

abbrev pub template_valued : List ℕ → List ℕ → List TemplatePart → State → Value → Next
template_valued text after ps st v = operates (TemplateText text after ps) number.to_text_number v [] st

abbrev pub template_texted : List ℕ → List ℕ → List TemplatePart → State → Value → Next
template_texted text after ps st v = with_text v st (λ units. template_on (text ++ units ++ after) ps st)

-- ---- `++` and `--` (12.4, 12.5.7, 12.5.8): what they write, of the number before, and which of the two they give

abbrev pub stepped : UpdateOperator → ℤ → Result ℤ Exit
stepped IncrementBefore n = sum n (pos 1)
stepped IncrementAfter n = sum n (pos 1)
stepped DecrementBefore n = difference n (pos 1)
stepped DecrementAfter n = difference n (pos 1)

abbrev pub step_value : UpdateOperator → ℤ → ℤ → Value
step_value IncrementBefore before after = value.Number after
step_value DecrementBefore before after = value.Number after
step_value IncrementAfter before after = value.Number before
step_value DecrementAfter before after = value.Number before

abbrev pub with_result : Result ℤ Exit → State → (ℤ → Next) → Next
with_result (Ok n) st f = f n
with_result (Err x) st f = leaves (exit_number x) st

-- a target is a reference (12.14.1)
abbrev pub with_reference : Completion → State → (Reference → Next) → Next
with_reference (Refers r) st f = f r
with_reference completion st f = raises ReferenceError st

abbrev pub update_referred : UpdateOperator → State → Completion → Next
update_referred u st c = with_reference c st (λ r. reads (UpdateOld u r) r st)

abbrev pub update_read : UpdateOperator → Reference → State → Value → Next
update_read u r st v = operates (UpdateNumber u r) number.to_number_number v [] st

abbrev pub update_numbered : UpdateOperator → Reference → State → Value → Next
update_numbered u r st (value.Number n) =
    with_result (stepped u n) st (λ m. put_value r (value.Number m) (step_value u n m) st)
update_numbered u r st v = impossible st

-- ---- 12.5

-- what is no reference is deleted (12.5.4.2)
abbrev pub deleted : State → Completion → Next
deleted st (Refers (OfProperty base k)) = turns number.delete_number base (key_operand k ∷ []) st
deleted st (Gives v) = gives (value.Bool true) st
deleted st completion = impossible st

unfoldable pub unary_valued : UnaryOperator → State → Value → Next
unary_valued unary.Void st v = gives value.Undefined st
unary_valued unary.Typeof st v = gives (value.Text (type_name st.heap v)) st
unary_valued unary.Not st v = gives (value.Bool (not (truth_of v))) st
unary_valued unary.Plus st v = turns number.to_number_number v [] st
unary_valued unary.Minus st v = turns number.negate_number v [] st
unary_valued unary.BitNot st v = turns number.invert_number v [] st
unary_valued unary.Delete st v = impossible st

-- ---- 12.6 to 12.12: operands from left to right, then the operator; `===` and `!==` convert nothing

abbrev pub binary_number : BinaryOperator → ℕ
binary_number binary.BitOr = number.or_number
binary_number binary.BitXor = number.exclusive_or_number
binary_number binary.BitAnd = number.and_number
binary_number binary.Equal = number.equal_number
binary_number binary.NotEqual = number.not_equal_number
binary_number binary.Less = number.less_number
binary_number binary.Greater = number.greater_number
binary_number binary.AtMost = number.at_most_number
binary_number binary.AtLeast = number.at_least_number
binary_number binary.InstanceOf = number.instance_number
binary_number binary.In = number.has_property_number
binary_number binary.ShiftLeft = number.shift_left_number
binary_number binary.ShiftRight = number.shift_right_number
binary_number binary.ShiftRightUnsigned = number.shift_right_unsigned_number
binary_number binary.Subtract = number.subtract_number
binary_number binary.Multiply = number.multiply_number
binary_number binary.Divide = number.divide_number
binary_number binary.Remainder = number.remainder_number
binary_number b = number.add_number

unfoldable pub operate : Work → BinaryOperator → Value → Value → State → Next
operate w binary.Same left right st = gives (value.Bool (same_value left right)) (pushed w st)
operate w binary.NotSame left right st = gives (value.Bool (not (same_value left right))) (pushed w st)
operate w b left right st = operates w (binary_number b) left (right ∷ []) st

-- `&&` and `||` (12.12) evaluate the right side where the left one doesn't decide
abbrev pub operand_by : Value → State → Expression → List Operand → (Value → Next) → BinaryOperator → Next
operand_by v st x os rest binary.And = if truth_of v then begins (Operands os) x st else rest v
operand_by v st x os rest binary.Or = if truth_of v then rest v else begins (Operands os) x st
operand_by v st x os rest b = begins (OperandRight v b os) x st

abbrev pub operands_on : List Operand → State → Value → Next
operands_on [] st v = gives v st
operands_on (o ∷ os) st v = operand_by v st (out-Operand o).value os (operands_on os st) (out-Operand o).operator

-- 12.15
abbrev pub sequence_on : List Expression → State → Value → Next
sequence_on [] st v = gives v st
sequence_on (x ∷ xs) st v = begins (SequenceRest xs) x st

-- ---- assignments (12.14.4)

-- with the operator before its `=`; of `**=` the power (7th edition, 12.15)
unfoldable pub assign_number : AssignOperator → ℕ
assign_number assign.MultiplyAssign = number.multiply_number
assign_number assign.DivideAssign = number.divide_number
assign_number assign.RemainderAssign = number.remainder_number
assign_number assign.SubtractAssign = number.subtract_number
assign_number assign.ShiftLeftAssign = number.shift_left_number
assign_number assign.ShiftRightAssign = number.shift_right_number
assign_number assign.ShiftRightUnsignedAssign = number.shift_right_unsigned_number
assign_number assign.BitAndAssign = number.and_number
assign_number assign.BitXorAssign = number.exclusive_or_number
assign_number assign.BitOrAssign = number.or_number
assign_number assign.PowerAssign = number.power_number
assign_number o = number.add_number

-- the target's reference comes first, then with an operator its old value, then the right side
abbrev pub assign_to : AssignOperator → Expression → State → Reference → Next
assign_to assign.Assign x st r = begins (AssignValue r) x st
assign_to o x st r = reads (AssignOld o r x) r st

abbrev pub assign_referred : AssignOperator → Expression → State → Completion → Next
assign_referred o x st c = with_reference c st (assign_to o x st)

abbrev pub assign_right : AssignOperator → Reference → Value → State → Value → Next
assign_right o r old st v = operates (AssignValue r) (assign_number o) old (v ∷ []) st

-- of a pattern the right side comes first
abbrev pub begin_assignment : AssignOperator → Pattern → Expression → State → Open Pattern-F → Next
begin_assignment o p x st (layer.Target target) = refers (AssignReference o x) target st
begin_assignment o p x st other = begins (AssignPattern p) x st

-- ---- `super[k]` (12.3.5.1)

abbrev pub super_keyed : Bool → State → Value → Next
super_keyed wanted st v = operates (SuperKeyed wanted) number.to_text_number v [] st

abbrev pub super_named : Bool → State → Value → Next
super_named wanted st v = with_text v st (λ units. super_reference wanted (Text units) st)
