-- Reading, writing, deleting and testing of properties, and their keys (ECMA-262, 6th edition, 6.2.3, 7.1.14, 7.3, 12.5.4 and
-- 12.9.3; 5.1 edition, 8.7 and 9.10).
use Rattle.std.specs.Prelude.{ℤ, true, false, if◌then◌else◌, [], ◌∷◌, Option, Some, None, Result, Ok, Err}
use Rattle.es_value.specs.declared.arithmetic.Exit.{Exit}
use Rattle.es_value.specs.declared.value.ObjId.{ObjId}
use Rattle.es_value.specs.declared.value.Value.{Value}
use Rattle.es_value.specs.declared.value.Value.TheVariants as value
use Rattle.es_value.specs.Arithmetic.{exit_number}
use Rattle.es_value.specs.Convert.{number_of, text_of}
use Rattle.es_heap.specs.Heaps.{Heap, object_at}
use Rattle.es_heap.specs.declared.key.Key.{Key}
use Rattle.es_heap.specs.declared.key.Key.TheVariants.{Text}
use Rattle.es_realm.specs.declared.edition.Edition.{Edition}
use Rattle.es_realm.specs.declared.access.Write.{Write}
use Rattle.es_realm.specs.declared.access.Write.TheVariants as write
use Rattle.es_realm.specs.declared.look.Look.{Look}
use Rattle.es_realm.specs.declared.look.Look.TheVariants as look
use Rattle.es_realm.specs.declared.errors.ErrorKind.TheVariants.{TypeError, RangeError}
use Rattle.es_realm.specs.Access.{Written, answers, read_value, read_object, write_object, write_primitive, write_length, delete_value}
use Rattle.es_realm.specs.Look.{look_up}
use Rattle.es_operators.specs.declared.conversion.Hint.TheVariants as hint
use Rattle.es_operators.specs.Operators.{is_nothing}
use Rattle.es_operators.specs.Primitives.{is_object}
use Rattle.es_calls.specs.declared.call.BuiltinCall.{BuiltinCall}
use Rattle.es_calls.specs.declared.call.Place.{Place}
use Rattle.es_calls.specs.declared.call.Place.TheVariants as place
use Rattle.es_calls.specs.declared.call.Want.TheVariants as want
use Rattle.es_calls.specs.Calls.{arg, number_in, object_in}
use Rattle.es_operations.specs.Turning.{Act, Found, Primitive, asks, ends, gives, operand_key, throws, wants}

-- GetValue of a property (6.2.3.1): the key is the first operand
abbrev pub get : Edition → Heap → BuiltinCall → Place → Act
get edition heap c place.Begin =
    let k = operand_key (arg c 0) in
    asks heap c place.End (Found c.this_value k (read_value edition heap c.this_value k))
get edition heap c _ = gives heap c c.input

-- the same from the prototype of an object, the first operand, with another receiver (6.2.3.1, 12.3.5.3 and 9.1.8)
abbrev pub get_above : Edition → Heap → BuiltinCall → Key → Option ObjId → Act
get_above edition heap c k None = throws heap c TypeError
get_above edition heap c k (Some up) = asks heap c place.End (Found c.this_value k (read_object edition heap up k))

abbrev pub super_get : Edition → Heap → BuiltinCall → Place → Act
super_get edition heap c place.Begin =
    get_above edition heap c (operand_key (arg c 1)) (object_at heap (object_in (arg c 0))).proto
super_get edition heap c _ = gives heap c c.input

-- ---- PutValue (6.2.3.2) in strict code: the key and the value are the operands

unfoldable pub written : Edition → Heap → Value → Key → Value → Written
written edition heap (value.Object id) k v = write_object edition heap id k v
written edition heap base k v = answers heap (write_primitive edition heap base k)

-- the length of an array is converted twice (9.4.2.4, 3 to 5)
abbrev pub after_put : Heap → BuiltinCall → Value → Write → Act
after_put heap c v write.Done = gives heap c value.Undefined
after_put heap c v (write.Setter s) = wants heap c place.End (want.Call (value.Object s) c.this_value (v ∷ []))
after_put heap c v write.Convert = asks heap c place.Receiver (Primitive v hint.Number)
after_put heap c v write.OutOfRange = throws heap c RangeError
after_put heap c v (write.Leaves x) = ends heap c (want.Leaves x)
after_put heap c v _ = throws heap c TypeError

abbrev pub put_begun : Edition → Heap → BuiltinCall → Act
put_begun edition heap c =
    let w = written edition heap c.this_value (operand_key (arg c 0)) (arg c 1) in
    after_put w.after c (arg c 1) w.answer

abbrev pub length_once : Heap → BuiltinCall → Result ℤ Exit → Act
length_once heap c (Ok n) = asks heap (record c { kept = value.Number n }) place.Length (Primitive (arg c 1) hint.Number)
length_once heap c (Err x) = ends heap c (want.Leaves (exit_number x))

abbrev pub length_twice : Heap → BuiltinCall → Result ℤ Exit → Act
length_twice heap c (Ok n) =
    let w = write_length heap (object_in c.this_value) (number_in c.kept) n in
    after_put w.after c (arg c 1) w.answer
length_twice heap c (Err x) = ends heap c (want.Leaves (exit_number x))

abbrev pub put : Edition → Heap → BuiltinCall → Place → Act
put edition heap c place.Begin = put_begun edition heap c
put edition heap c place.Receiver = length_once heap c (number_of c.input)
put edition heap c place.Length = length_twice heap c (number_of c.input)
put edition heap c _ = gives heap c value.Undefined

-- ---- `delete` (12.5.4.2) in strict code, and `in` (12.9.3). Of a namespace object the module's names are asked for; what is handed
-- in is whether the name is there

abbrev pub after_deletion : Heap → BuiltinCall → Write → Act
after_deletion heap c write.Done = gives heap c (value.Bool true)
after_deletion heap c write.Binding = wants heap c place.End (want.Get c.this_value (operand_key (arg c 0)))
after_deletion heap c (write.Leaves x) = ends heap c (want.Leaves x)
after_deletion heap c _ = throws heap c TypeError

abbrev pub unless_there : Heap → BuiltinCall → Value → Act
unless_there heap c (value.Bool false) = gives heap c (value.Bool true)
unless_there heap c _ = throws heap c TypeError

abbrev pub delete : Edition → Heap → BuiltinCall → Place → Act
delete edition heap c place.Begin =
    let w = delete_value edition heap c.this_value (operand_key (arg c 0)) in
    after_deletion w.after c w.answer
delete edition heap c _ = unless_there heap c c.input

abbrev pub found_in : Heap → BuiltinCall → Key → Look → Act
found_in heap c k (look.Found holder) = gives heap c (value.Bool true)
found_in heap c k look.Missing = gives heap c (value.Bool false)
found_in heap c k look.Binding = wants heap c place.End (want.Get (arg c 0) k)
found_in heap c k (look.Leaves x) = ends heap c (want.Leaves x)

abbrev pub has_property : Edition → Heap → BuiltinCall → Place → Act
has_property edition heap c place.Begin =
    if is_object (arg c 0) then asks heap c place.Receiver (Primitive c.this_value hint.Text) else throws heap c TypeError
has_property edition heap c place.Receiver =
    let k = Text (text_of c.input) in
    found_in heap c k (look_up edition heap (object_in (arg c 0)) k)
has_property edition heap c _ = gives heap c c.input

-- ---- the key of a reference (12.3.2.1): the check of the base, and then ToPropertyKey of the operand

abbrev pub to_key : Edition → Heap → BuiltinCall → Place → Act
to_key edition heap c place.Begin =
    if is_nothing c.this_value then throws heap c TypeError else asks heap c place.End (Primitive (arg c 0) hint.Text)
to_key edition heap c _ = gives heap c (value.Text (text_of c.input))
