-- One step of a call of an operation or of a function of the library.
use Rattle.std.specs.Prelude.{ℕ, nat_eq, nat_lt, Bool, true, false, ◌&&◌, ◌||◌, if◌then◌else◌, List}
use Rattle.es_value.specs.declared.value.Value.{Value}
use Rattle.es_heap.specs.Heaps.{Heap}
use Rattle.es_realm.specs.declared.edition.Edition.{Edition}
use Rattle.es_operators.specs.declared.operators.Arithmetic.TheVariants as arithmetic
use Rattle.es_operators.specs.declared.operators.Relation.TheVariants as relation
use Rattle.es_operators.specs.Conversions.{method_given}
use Rattle.es_calls.specs.declared.call.BuiltinCall.{BuiltinCall}
use Rattle.es_calls.specs.declared.call.Pending.{Pending}
use Rattle.es_calls.specs.declared.call.Pending.TheVariants as pending
use Rattle.es_calls.specs.declared.call.Place.{Place}
use Rattle.es_calls.specs.declared.call.Place.TheVariants as place
use Rattle.es_calls.specs.declared.call.Want.TheVariants as want
use Rattle.es_calls.specs.Calls.{begun}
use Rattle.es_calls.specs.Steps.{settle_attempt}
use Rattle.es_builtins.specs.Turns.{Stepped, stepped, step_of}
use Rattle.es_operations.specs.Numbers as number
use Rattle.es_operations.specs.Turning.{Act, ends, received, settle_ask}
use Rattle.es_operations.specs.Properties as property
use Rattle.es_operations.specs.Operators as operator
use Rattle.es_operations.specs.Iteration as iteration
use Rattle.es_operations.specs.Functions as function

-- properties and prototypes
abbrev pub property_turn : Edition → Heap → BuiltinCall → Act
property_turn edition heap c =
    if nat_eq c.builtin number.get_number then property.get edition heap c c.place
    else if nat_eq c.builtin number.put_number then property.put edition heap c c.place
    else if nat_eq c.builtin number.delete_number then property.delete edition heap c c.place
    else if nat_eq c.builtin number.to_key_number then property.to_key edition heap c c.place
    else if nat_eq c.builtin number.has_property_number then property.has_property edition heap c c.place
    else if nat_eq c.builtin number.super_get_number then property.super_get edition heap c c.place
    else if nat_eq c.builtin number.prototype_of_number then function.prototype_of heap c c.place
    else function.heritage_prototype heap c c.place

-- operators on one value
abbrev pub single_turn : Heap → BuiltinCall → Act
single_turn heap c =
    if nat_eq c.builtin number.to_text_number then operator.to_text heap c c.place
    else if nat_eq c.builtin number.to_number_number then operator.to_number heap c c.place
    else if nat_eq c.builtin number.negate_number then operator.negate heap c c.place
    else operator.invert heap c c.place

abbrev pub arithmetic_turn : Heap → BuiltinCall → Act
arithmetic_turn heap c =
    if nat_eq c.builtin number.subtract_number then operator.calculate arithmetic.Subtract heap c c.place
    else if nat_eq c.builtin number.multiply_number then operator.calculate arithmetic.Multiply heap c c.place
    else if nat_eq c.builtin number.divide_number then operator.calculate arithmetic.Divide heap c c.place
    else if nat_eq c.builtin number.remainder_number then operator.calculate arithmetic.Remainder heap c c.place
    else if nat_eq c.builtin number.power_number then operator.calculate arithmetic.Power heap c c.place
    else if nat_eq c.builtin number.and_number then operator.calculate arithmetic.And heap c c.place
    else if nat_eq c.builtin number.or_number then operator.calculate arithmetic.Or heap c c.place
    else if nat_eq c.builtin number.exclusive_or_number then operator.calculate arithmetic.ExclusiveOr heap c c.place
    else if nat_eq c.builtin number.shift_left_number then operator.calculate arithmetic.ShiftLeft heap c c.place
    else if nat_eq c.builtin number.shift_right_number then operator.calculate arithmetic.ShiftRight heap c c.place
    else operator.calculate arithmetic.ShiftRightUnsigned heap c c.place

abbrev pub relation_turn : Edition → Heap → BuiltinCall → Act
relation_turn edition heap c =
    if nat_eq c.builtin number.less_number then operator.relate relation.Less heap c c.place
    else if nat_eq c.builtin number.greater_number then operator.relate relation.Greater heap c c.place
    else if nat_eq c.builtin number.at_most_number then operator.relate relation.LessOrEqual heap c c.place
    else if nat_eq c.builtin number.at_least_number then operator.relate relation.GreaterOrEqual heap c c.place
    else if nat_eq c.builtin number.equal_number then operator.equal true heap c c.place
    else if nat_eq c.builtin number.not_equal_number then operator.equal false heap c c.place
    else operator.is_instance edition heap c c.place

abbrev pub iteration_turn : Heap → BuiltinCall → Act
iteration_turn heap c =
    if nat_eq c.builtin number.iterator_method_number then iteration.iterator_method heap c c.place
    else if nat_eq c.builtin number.get_iterator_number then iteration.get_iterator heap c c.place
    else if nat_eq c.builtin number.iterator_step_number then iteration.iterator_step heap c c.place
    else if nat_eq c.builtin number.iterator_value_number then iteration.iterator_value heap c c.place
    else if nat_eq c.builtin number.iterator_close_number then iteration.iterator_close false heap c c.place
    else if nat_eq c.builtin number.iterator_close_thrown_number then iteration.iterator_close true heap c c.place
    else if nat_eq c.builtin number.delegate_next_number then iteration.delegate_next heap c c.place
    else if nat_eq c.builtin number.delegate_throw_number then iteration.delegate_throw heap c c.place
    else if nat_eq c.builtin number.delegate_return_number then iteration.delegate_return heap c c.place
    else ends heap c want.Unknown

-- a turn of an operation
unfoldable pub operation_turn : Edition → Heap → BuiltinCall → Act
operation_turn edition heap c =
    if nat_lt c.builtin 110 then property_turn edition heap c
    else if nat_lt c.builtin 120 then single_turn heap c
    else if nat_eq c.builtin number.add_number then operator.add heap c c.place
    else if nat_lt c.builtin 132 then arithmetic_turn heap c
    else if nat_lt c.builtin 140 then relation_turn edition heap c
    else iteration_turn heap c

abbrev pub settled_act : Edition → Act → Stepped
settled_act edition a = stepped a.heap (settle_ask edition a.heap a.call a.ask)

abbrev pub operation_by : Edition → Heap → BuiltinCall → Pending → Stepped
operation_by edition heap c (pending.Method conversion) =
    stepped heap (settle_attempt c (method_given edition heap conversion c.input))
operation_by edition heap c (pending.Result conversion) = stepped heap (received edition heap c conversion)
operation_by edition heap c _ = settled_act edition (operation_turn edition heap c)

unfoldable pub step_operation : Edition → Heap → BuiltinCall → Stepped
step_operation edition heap c =
    if nat_lt c.builtin 100 then step_of edition heap c else operation_by edition heap c c.pending

-- ---- what who runs a call has to know

-- a throw of the method of an iterator that is closed under a throw is dropped
abbrev pub is_called : Place → Bool
is_called place.Called = true
is_called p = false

unfoldable pub drops_throw : BuiltinCall → Bool
drops_throw c = nat_eq c.builtin number.iterator_close_thrown_number && is_called c.place

-- where a namespace object is asked, it is only asked whether it has the name
unfoldable pub asks_presence : BuiltinCall → Bool
asks_presence c = nat_eq c.builtin number.delete_number || nat_eq c.builtin number.has_property_number

-- an operation as it begins
abbrev pub operation : ℕ → Value → List Value → BuiltinCall
operation n base operands = begun n base operands
