-- Reading, writing and deleting of properties (ECMA-262, 6th edition, 9.1.8 to 9.1.10), up to the function that is to be called,
-- the namespace that is to be read, or the exit at which the run leaves.
use Rattle.std.specs.Prelude.{ℕ, ℤ, pos, Bool, ◌&&◌, ◌||◌, not, if◌then◌else◌, List, [], ◌∷◌, length, slice_get, Option, None, Some, Result, Ok, Err, codes}
use Rattle.std.specs.Ordering.{int_eq}
use Rattle.es_value.specs.declared.arithmetic.Exit.{Exit}
use Rattle.es_value.specs.Arithmetic.{exit_number}
use Rattle.es_value.specs.Bits.{to_uint32}
use Rattle.es_value.specs.Convert.{number_of}
use Rattle.es_value.specs.declared.value.ObjId.{ObjId}
use Rattle.es_value.specs.declared.value.Value.{Value}
use Rattle.es_value.specs.declared.value.Value.TheVariants as value
use Rattle.es_heap.specs.declared.key.Key.{Key}
use Rattle.es_heap.specs.declared.key.Key.TheVariants.{Text, Iterator}
use Rattle.es_heap.specs.declared.prop.Prop.{Prop}
use Rattle.es_heap.specs.declared.prop.Prop.TheVariants.{Plain, Accessor}
use Rattle.es_heap.specs.Classes.{is_array}
use Rattle.es_heap.specs.Keys.{array_index}
use Rattle.es_heap.specs.Tables.{is_configurable}
use Rattle.es_heap.specs.Objects.{Outcome, own, after_delete, writable_in}
use Rattle.es_heap.specs.Heaps.{Heap, object_at, with_object, define_own, set_length, is_recorded_below}
use Rattle.es_access.specs.declared.access.PutAnswer.{PutAnswer}
use Rattle.es_access.specs.declared.access.PutAnswer.TheVariants as put_answer
use Rattle.es_access.specs.Access.{put, answer_of}
use Rattle.es_realm.specs.declared.edition.Edition.{Edition}
use Rattle.es_realm.specs.declared.look.Look.{Look}
use Rattle.es_realm.specs.declared.look.Look.TheVariants as look
use Rattle.es_realm.specs.declared.access.Read.{Read}
use Rattle.es_realm.specs.declared.access.Read.TheVariants as read
use Rattle.es_realm.specs.declared.access.Write.{Write}
use Rattle.es_realm.specs.declared.access.Write.TheVariants as write
use Rattle.es_realm.specs.Names.{string_prototype, number_prototype, boolean_prototype}
use Rattle.es_realm.specs.LeftOut.{is_builtin, is_left_out}
use Rattle.es_realm.specs.Look.{is_sixth, is_named, is_reserved_key, is_closure, is_function, is_namespace, is_hidden, is_recorded, look_up}

-- what a read finds in a property
abbrev pub read_property : Option Prop → Read
read_property None = read.Have value.Undefined
read_property (Some (Plain v w c)) = read.Have v
read_property (Some (Accessor None s c)) = read.Have value.Undefined
read_property (Some (Accessor (Some g) s c)) = read.Getter g

abbrev pub read_looked : Heap → ObjId → Key → Look → Read
read_looked heap id k (look.Found holder) = read_property (own (object_at heap holder) k)
read_looked heap id k look.Missing = read.Have value.Undefined
read_looked heap id k look.Binding = read.Binding id
read_looked heap id k (look.Leaves x) = read.Leaves x

-- [[Get]] of an object (9.1.8)
abbrev pub read_object : Edition → Heap → ObjId → Key → Read
read_object edition heap id k = read_looked heap id k (look_up edition heap id k)

abbrev pub unit_text : Option ℕ → Option Value
unit_text None = None
unit_text (Some u) = Some (value.Text (u ∷ []))

abbrev pub unit_at : List ℕ → Option ℕ → Option Value
unit_at us None = None
unit_at us (Some i) = unit_text (slice_get us i)

-- a text's own properties: its length and its units (9.4.3.4)
abbrev pub own_of_text : List ℕ → Key → Option Value
own_of_text us k = if is_named k (codes "length") then Some (value.Number (pos (length us))) else unit_at us (array_index k)

abbrev pub have_or : Option Value → Read → Read
have_or (Some v) above = read.Have v
have_or None above = above

-- a read of a property of a value (6.2.3.1 and 7.1.13): a primitive has the properties of its prototype, and undefined and null
-- have none
abbrev pub read_value : Edition → Heap → Value → Key → Read
read_value edition heap value.Undefined k = read.NoObject
read_value edition heap value.Null k = read.NoObject
read_value edition heap (value.Bool b) k = read_object edition heap boolean_prototype k
read_value edition heap (value.Number n) k = read_object edition heap number_prototype k
read_value edition heap (value.Text us) k = have_or (own_of_text us k) (read_object edition heap string_prototype k)
read_value edition heap (value.Object id) k = read_object edition heap id k

-- what a write leaves, and what it answers
pub record Written : Type 0 where
  pub after : Heap
  pub answer : Write

abbrev pub answers : Heap → Write → Written
answers heap answer = record { after = heap; answer = answer }

abbrev pub write_answer : PutAnswer → Write
write_answer put_answer.Done = write.Done
write_answer (put_answer.Setter s) = write.Setter s
write_answer put_answer.Refused = write.Refused
write_answer put_answer.OutOfRange = write.OutOfRange

abbrev pub put_own : Heap → ObjId → Key → Value → Written
put_own heap id k v = record { after = (put heap id k v (Some id)).after; answer = write_answer (put heap id k v (Some id)).answer }

abbrev pub put_length_number : Heap → ObjId → Key → Result ℤ Exit → Written
put_length_number heap id k (Ok n) = put_own heap id k (value.Number n)
put_length_number heap id k (Err x) = answers heap (write.Leaves (exit_number x))

-- the value that becomes an array's length is converted to a number (9.4.2.4); an object's conversion is the caller's
abbrev pub put_length : Heap → ObjId → Key → Value → Written
put_length heap id k (value.Object v) = answers heap write.Convert
put_length heap id k v = put_length_number heap id k (number_of v)

abbrev pub put_value : Heap → ObjId → Key → Value → Written
put_value heap id k v =
    if is_array (object_at heap id).class && is_named k (codes "length")
    then (if writable_in (own (object_at heap id) k) then put_length heap id k v else answers heap write.Refused)
    else put_own heap id k v

-- a write to an object of the library: X7 where it would change the object
abbrev pub write_library : Option Prop → Write
write_library None = write.Leaves 7
write_library (Some (Plain v w c)) = if w then write.Leaves 7 else write.Refused
write_library (Some (Accessor g None c)) = write.Refused
write_library (Some (Accessor g (Some s) c)) = write.Setter s

abbrev pub write_at : Edition → Heap → ObjId → Key → Value → Option Prop → Written
write_at edition heap id k v p = if is_builtin edition id then answers heap (write_library p) else put_value heap id k v

abbrev pub write_looked : Edition → Heap → ObjId → Key → Value → Look → Written
write_looked edition heap id k v (look.Found holder) = write_at edition heap id k v (own (object_at heap holder) k)
write_looked edition heap id k v look.Missing = write_at edition heap id k v None
write_looked edition heap id k v look.Binding = answers heap write.Refused
write_looked edition heap id k v (look.Leaves x) = answers heap (write.Leaves x)

-- [[Set]] of an object that is the receiver too (9.1.9; a namespace object refuses, 9.4.6.9)
abbrev pub write_object : Edition → Heap → ObjId → Key → Value → Written
write_object edition heap id k v = write_looked edition heap id k v (look_up edition heap id k)

-- the length that the two conversions of an object give (9.4.2.4, 3 to 7): ToUint32 of the first, if the second is that number
abbrev pub converted_length : ℤ → ℤ → Option ℤ
converted_length first second = if int_eq (pos (to_uint32 first)) second then Some second else None

-- what a definition answers
abbrev pub defined : Outcome Heap → Written
defined outcome = record { after = outcome.after; answer = write_answer (answer_of outcome.fault) }

-- a write to an array's length goes on with it
abbrev pub write_converted : Heap → ObjId → Option ℤ → Written
write_converted heap id None = answers heap write.OutOfRange
write_converted heap id (Some n) = defined (set_length heap id n)

abbrev pub write_length : Heap → ObjId → ℤ → ℤ → Written
write_length heap id first second = write_converted heap id (converted_length first second)

-- [[Set]] with a primitive as the receiver: it is refused, unless a setter or an exit is met first
abbrev pub write_above : Option Prop → Write
write_above (Some (Accessor g (Some s) c)) = write.Setter s
write_above _ = write.Refused

abbrev pub write_primitive_looked : Heap → Key → Look → Write
write_primitive_looked heap k (look.Found holder) = write_above (own (object_at heap holder) k)
write_primitive_looked heap k look.Missing = write.Refused
write_primitive_looked heap k look.Binding = write.Refused
write_primitive_looked heap k (look.Leaves x) = write.Leaves x

abbrev pub write_above_text : Option Value → Write → Write
write_above_text (Some v) above = write.Refused
write_above_text None above = above

abbrev pub write_primitive : Edition → Heap → Value → Key → Write
write_primitive edition heap value.Undefined k = write.Refused
write_primitive edition heap value.Null k = write.Refused
write_primitive edition heap (value.Bool b) k = write_primitive_looked heap k (look_up edition heap boolean_prototype k)
write_primitive edition heap (value.Number n) k = write_primitive_looked heap k (look_up edition heap number_prototype k)
write_primitive edition heap (value.Text us) k = write_above_text (own_of_text us k) (write_primitive_looked heap k (look_up edition heap string_prototype k))
write_primitive edition heap (value.Object id) k = write.Refused

-- X4 where a key is defined or deleted: a hidden property, and in the 6th edition the `length` of a function
abbrev pub is_fixed : Edition → Heap → ObjId → Key → Bool
is_fixed edition heap id k =
    is_hidden edition heap id k || (is_sixth edition && (is_function (object_at heap id).class && is_named k (codes "length")))

-- the exit at which a definition on an object leaves
abbrev pub definition_exit : Edition → Heap → ObjId → Key → Option ℕ
definition_exit edition heap id k =
    if is_reserved_key edition k then Some 3
    else if is_fixed edition heap id k then Some 4
    else if is_left_out edition id k then Some 7
    else None

-- a definition of a property that has every field, as literals and classes make it (9.1.6): X7 of an object of the library, and a
-- namespace object refuses (9.4.6.6)
abbrev pub define_unless : Edition → Heap → ObjId → Key → Prop → Option ℕ → Written
define_unless edition heap id k p (Some x) = answers heap (write.Leaves x)
define_unless edition heap id k p None =
    if is_builtin edition id then answers heap (write.Leaves 7)
    else if is_namespace (object_at heap id).class then answers heap write.Refused
    else defined (define_own heap id k p)

abbrev pub define_key : Edition → Heap → ObjId → Key → Prop → Written
define_key edition heap id k p = define_unless edition heap id k p (definition_exit edition heap id k)

-- X6: the key is recorded for the class, or for a class whose parent it is
abbrev pub is_inherited_static : Heap → ObjId → Key → Bool
is_inherited_static heap id k = is_closure (object_at heap id).class && (is_recorded heap id k || is_recorded_below heap id k)

abbrev pub deletion_exit : Edition → Heap → ObjId → Key → Option ℕ
deletion_exit edition heap id k =
    if is_fixed edition heap id k then Some 4
    else if is_inherited_static heap id k then Some 6
    else if is_left_out edition id k then Some 7
    else None

abbrev pub delete_property : Edition → Heap → ObjId → Key → Option Prop → Written
delete_property edition heap id k None = answers heap write.Done
delete_property edition heap id k (Some p) =
    if not (is_configurable p) then answers heap write.Refused
    else if is_builtin edition id then answers heap (write.Leaves 7)
    else answers (with_object heap id (after_delete (object_at heap id) k)) write.Done

abbrev pub delete_unless : Edition → Heap → ObjId → Key → Option ℕ → Written
delete_unless edition heap id k (Some x) = answers heap (write.Leaves x)
delete_unless edition heap id k None = delete_property edition heap id k (own (object_at heap id) k)

-- X12: the iterator key of a namespace object; its other keys go to its module's bindings (9.4.6.10)
abbrev pub delete_in_namespace : Key → Write
delete_in_namespace Iterator = write.Leaves 12
delete_in_namespace (Text units) = write.Binding

-- [[Delete]] (9.1.10)
abbrev pub delete_key : Edition → Heap → ObjId → Key → Written
delete_key edition heap id k =
    if is_reserved_key edition k then answers heap (write.Leaves 3)
    else if is_namespace (object_at heap id).class then answers heap (delete_in_namespace k)
    else delete_unless edition heap id k (deletion_exit edition heap id k)

-- a primitive's own properties are those of a text, none of which can go
abbrev pub delete_own_of : Option Value → Write
delete_own_of None = write.Done
delete_own_of (Some v) = write.Refused

abbrev pub unless_reserved : Edition → Key → Write → Write
unless_reserved edition k answer = if is_reserved_key edition k then write.Leaves 3 else answer

-- `delete` of a property of a value (12.5.4.2); undefined and null have none, which is a TypeError as a refusal is
abbrev pub delete_value : Edition → Heap → Value → Key → Written
delete_value edition heap value.Undefined k = answers heap write.Refused
delete_value edition heap value.Null k = answers heap write.Refused
delete_value edition heap (value.Bool b) k = answers heap (unless_reserved edition k write.Done)
delete_value edition heap (value.Number n) k = answers heap (unless_reserved edition k write.Done)
delete_value edition heap (value.Text us) k = answers heap (unless_reserved edition k (delete_own_of (own_of_text us k)))
delete_value edition heap (value.Object id) k = delete_key edition heap id k
