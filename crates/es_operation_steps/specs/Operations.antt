-- The operations by their names.
use Rattle.std.specs.Prelude.{ℕ}
use Rattle.es_operations.specs.Numbers as number
use Rattle.es_operation_steps.specs.declared.operation.Operation.{Operation}
use Rattle.es_operation_steps.specs.declared.operation.Operation.TheVariants as operation

-- the number of an operation
abbrev pub number_of : Operation → ℕ
number_of operation.Get = number.get_number
number_of operation.Put = number.put_number
number_of operation.Delete = number.delete_number
number_of operation.ToKey = number.to_key_number
number_of operation.HasProperty = number.has_property_number
number_of operation.SuperGet = number.super_get_number
number_of operation.PrototypeOf = number.prototype_of_number
number_of operation.HeritagePrototype = number.heritage_prototype_number
number_of operation.ToText = number.to_text_number
number_of operation.ToNumber = number.to_number_number
number_of operation.Negate = number.negate_number
number_of operation.Invert = number.invert_number
number_of operation.Add = number.add_number
number_of operation.Subtract = number.subtract_number
number_of operation.Multiply = number.multiply_number
number_of operation.Divide = number.divide_number
number_of operation.Remainder = number.remainder_number
number_of operation.Power = number.power_number
number_of operation.And = number.and_number
number_of operation.Or = number.or_number
number_of operation.ExclusiveOr = number.exclusive_or_number
number_of operation.ShiftLeft = number.shift_left_number
number_of operation.ShiftRight = number.shift_right_number
number_of operation.ShiftRightUnsigned = number.shift_right_unsigned_number
number_of operation.Less = number.less_number
number_of operation.Greater = number.greater_number
number_of operation.AtMost = number.at_most_number
number_of operation.AtLeast = number.at_least_number
number_of operation.Equal = number.equal_number
number_of operation.NotEqual = number.not_equal_number
number_of operation.InstanceOf = number.instance_number
number_of operation.IteratorMethod = number.iterator_method_number
number_of operation.GetIterator = number.get_iterator_number
number_of operation.IteratorStep = number.iterator_step_number
number_of operation.IteratorValue = number.iterator_value_number
number_of operation.IteratorClose = number.iterator_close_number
number_of operation.IteratorCloseThrown = number.iterator_close_thrown_number
number_of operation.DelegateNext = number.delegate_next_number
number_of operation.DelegateThrow = number.delegate_throw_number
number_of operation.DelegateReturn = number.delegate_return_number
