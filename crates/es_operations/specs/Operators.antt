-- The operators with their conversions (ECMA-262, 6th edition, 7.1 and 12.5 to 12.11; 7th edition, 12.6; 5.1 edition, 9 and 11.4 to
-- 11.10).
use Rattle.std.specs.Prelude.{ℤ, Bool, not, if◌then◌else◌, Result, Ok, Err, codes}
use Rattle.es_value.specs.declared.arithmetic.Exit.{Exit}
use Rattle.es_value.specs.declared.value.Value.{Value}
use Rattle.es_value.specs.declared.value.Value.TheVariants as value
use Rattle.es_value.specs.Arithmetic.{exit_number}
use Rattle.es_value.specs.Convert.{number_of, text_of}
use Rattle.es_heap.specs.Heaps.{Heap}
use Rattle.es_heap.specs.declared.key.Key.TheVariants.{Text}
use Rattle.es_realm.specs.declared.edition.Edition.{Edition}
use Rattle.es_realm.specs.declared.errors.ErrorKind.TheVariants.{TypeError}
use Rattle.es_operators.specs.declared.conversion.Hint.{Hint}
use Rattle.es_operators.specs.declared.conversion.Hint.TheVariants as hint
use Rattle.es_operators.specs.declared.functions.Instance.{Instance}
use Rattle.es_operators.specs.declared.functions.Instance.TheVariants as instance
use Rattle.es_operators.specs.declared.operators.Arithmetic.{Arithmetic}
use Rattle.es_operators.specs.declared.operators.Equality.{Equality}
use Rattle.es_operators.specs.declared.operators.Equality.TheVariants as equality
use Rattle.es_operators.specs.declared.operators.Outcome.{Outcome}
use Rattle.es_operators.specs.declared.operators.Outcome.TheVariants as outcome
use Rattle.es_operators.specs.declared.operators.Relation.{Relation}
use Rattle.es_operators.specs.Functions.{instance_of, instance_walk}
use Rattle.es_operators.specs.Operators.{addition, arithmetic, complement, loose_equality, negation, relation_of}
use Rattle.es_calls.specs.declared.call.BuiltinCall.{BuiltinCall}
use Rattle.es_calls.specs.declared.call.Place.{Place}
use Rattle.es_calls.specs.declared.call.Place.TheVariants as place
use Rattle.es_calls.specs.declared.call.Want.TheVariants as want
use Rattle.es_calls.specs.Calls.{arg}
use Rattle.es_operations.specs.Turning.{Act, Primitive, asks, ends, gives, throws, wants}

abbrev pub concludes : Heap → BuiltinCall → Outcome → Act
concludes heap c (outcome.Gives v) = gives heap c v
concludes heap c (outcome.Leaves x) = ends heap c (want.Leaves x)

-- ---- on one value: ToString (7.1.12), `+` (12.5.9, ToNumber), `-` (12.5.10) and `~` (12.5.11)

abbrev pub converted : Heap → BuiltinCall → Hint → Act
converted heap c hint = asks heap c place.End (Primitive c.this_value hint)

abbrev pub to_text : Heap → BuiltinCall → Place → Act
to_text heap c place.Begin = converted heap c hint.Text
to_text heap c _ = gives heap c (value.Text (text_of c.input))

abbrev pub numbered : Result ℤ Exit → Outcome
numbered (Ok n) = outcome.Gives (value.Number n)
numbered (Err x) = outcome.Leaves (exit_number x)

abbrev pub with_number : (Result ℤ Exit → Outcome) → Heap → BuiltinCall → Place → Act
with_number f heap c place.Begin = converted heap c hint.Number
with_number f heap c _ = concludes heap c (f (number_of c.input))

abbrev pub to_number : Heap → BuiltinCall → Place → Act
to_number heap c p = with_number numbered heap c p

abbrev pub negate : Heap → BuiltinCall → Place → Act
negate heap c p = with_number negation heap c p

abbrev pub invert : Heap → BuiltinCall → Place → Act
invert heap c p = with_number complement heap c p

-- ---- on two values: the receiver is the left one, the first operand is the right one. The left one is converted first

abbrev pub left_converted : Heap → BuiltinCall → Act
left_converted heap c = asks heap c place.Receiver (Primitive c.this_value hint.Number)

abbrev pub then_right : Heap → BuiltinCall → Value → Act
then_right heap c left = asks heap (record c { kept = left }) place.Position (Primitive (arg c 0) hint.Number)

-- `+` (12.7.3) and the relations (7.2.11) convert both to primitives, and look at these then
abbrev pub with_primitives : (Value → Value → Outcome) → Heap → BuiltinCall → Place → Act
with_primitives f heap c place.Begin = left_converted heap c
with_primitives f heap c place.Receiver = then_right heap c c.input
with_primitives f heap c _ = concludes heap c (f c.kept c.input)

abbrev pub add : Heap → BuiltinCall → Place → Act
add heap c p = with_primitives addition heap c p

abbrev pub relate : Relation → Heap → BuiltinCall → Place → Act
relate r heap c p = with_primitives (relation_of r) heap c p

-- the others (12.6, 12.7.4, 12.8, 12.11) have the left number before they look at the right side
abbrev pub right_behind : Heap → BuiltinCall → Result ℤ Exit → Act
right_behind heap c (Ok n) = then_right heap c (value.Number n)
right_behind heap c (Err x) = ends heap c (want.Leaves (exit_number x))

abbrev pub calculate : Arithmetic → Heap → BuiltinCall → Place → Act
calculate o heap c place.Begin = left_converted heap c
calculate o heap c place.Receiver = right_behind heap c (number_of c.input)
calculate o heap c _ = concludes heap c (arithmetic o c.kept c.input)

-- ---- `==` (7.2.12) and `!=`: an object beside a primitive is converted, and then they are compared again

abbrev pub compared : Heap → BuiltinCall → Bool → Value → Value → Equality → Act
compared heap c wanted left right (equality.Is same) = gives heap c (value.Bool (if wanted then same else not same))
compared heap c wanted left right equality.ConvertLeft =
    asks heap (record c { kept = right }) place.Receiver (Primitive left hint.Number)
compared heap c wanted left right equality.ConvertRight =
    asks heap (record c { kept = left }) place.Position (Primitive right hint.Number)
compared heap c wanted left right (equality.Leaves x) = ends heap c (want.Leaves x)

abbrev pub compare : Bool → Heap → BuiltinCall → Value → Value → Act
compare wanted heap c left right = compared heap c wanted left right (loose_equality left right)

abbrev pub equal : Bool → Heap → BuiltinCall → Place → Act
equal wanted heap c place.Begin = compare wanted heap c c.this_value (arg c 0)
equal wanted heap c place.Receiver = compare wanted heap c c.input c.kept
equal wanted heap c _ = compare wanted heap c c.kept c.input

-- ---- instanceof (12.9.4, 7.3.19)

abbrev pub tested : Heap → BuiltinCall → Instance → Act
tested heap c (instance.Is answer) = gives heap c (value.Bool answer)
tested heap c (instance.ReadPrototype id) =
    wants heap c place.Element (want.Get (value.Object id) (Text (codes "prototype")))
tested heap c instance.Fails = throws heap c TypeError
tested heap c (instance.Leaves x) = ends heap c (want.Leaves x)

abbrev pub walked : Heap → BuiltinCall → Value → Value → Act
walked heap c (value.Object left) (value.Object above) = tested heap c (instance_walk heap left above)
walked heap c left above = throws heap c TypeError

abbrev pub is_instance : Edition → Heap → BuiltinCall → Place → Act
is_instance edition heap c place.Begin = tested heap c (instance_of edition heap c.this_value (arg c 0))
is_instance edition heap c _ = walked heap c c.this_value c.input
