-- The functions of Object that the realm of the 5.1 edition has besides (ECMA-262, 5.1 edition, 15.2.3.2 to 15.2.3.10), and
-- descriptors (8.10). Nothing enumerates keys, so a descriptor's `enumerable` is read and not kept.
use Rattle.std.specs.Prelude.{ℕ, ℤ, pos, negsuc, ◌+◌, ◌*◌, Bool, true, false, ◌&&◌, ◌||◌, not, nat_eq, int_lt, int_le, if◌then◌else◌, List, [], ◌∷◌, ◌++◌, slice_get, Option, None, Some, is_some, is_none, codes}
use Rattle.std.specs.Ordering.{int_eq}
use Rattle.es_value.specs.declared.value.ObjId.{ObjId}
use Rattle.es_value.specs.declared.value.Value.{Value}
use Rattle.es_value.specs.declared.value.Value.TheVariants as value
use Rattle.es_heap.specs.declared.class.Class.TheVariants as class
use Rattle.es_heap.specs.declared.key.Key.{Key}
use Rattle.es_heap.specs.declared.key.Key.TheVariants.{Text}
use Rattle.es_heap.specs.declared.prop.Prop.{Prop}
use Rattle.es_heap.specs.declared.prop.Prop.TheVariants.{Plain, Accessor}
use Rattle.es_heap.specs.declared.prop.HeapFault.{HeapFault}
use Rattle.es_heap.specs.declared.prop.HeapFault.TheVariants as fault
use Rattle.es_heap.specs.Classes.{is_array}
use Rattle.es_heap.specs.Objects.{own}
use Rattle.es_heap.specs.Heaps.{Heap, object_at, with_object, made, next_id, define_own}
use Rattle.es_realm.specs.declared.edition.Edition.TheVariants.{Fifth}
use Rattle.es_realm.specs.declared.look.Look.{Look}
use Rattle.es_realm.specs.declared.look.Look.TheVariants as look
use Rattle.es_realm.specs.Names.{object_prototype, array_prototype}
use Rattle.es_realm.specs.LeftOut.{is_builtin}
use Rattle.es_realm.specs.Look.{is_named, look_own, look_up}
use Rattle.es_realm.specs.Access.{converted_length, definition_exit}
use Rattle.es_operators.specs.Primitives.{is_object, is_callable, truth_of}
use Rattle.es_calls.specs.declared.call.BuiltinCall.{BuiltinCall}
use Rattle.es_calls.specs.declared.call.Place.{Place}
use Rattle.es_calls.specs.declared.call.Place.TheVariants as place
use Rattle.es_calls.specs.declared.call.Want.{Want}
use Rattle.es_calls.specs.declared.call.Want.TheVariants as want
use Rattle.es_realm.specs.declared.errors.ErrorKind.TheVariants.{TypeError, RangeError}
use Rattle.es_object_functions.specs.declared.fifth.Fields.{Fields}
use Rattle.es_calls.specs.Calls.{Turn, Effect, Answered, answered, still, arg, throws, leaves, goes, is_undefined, text_in, number_in, object_in, plus}
use Rattle.es_calls.specs.Properties.{wanted}
use Rattle.es_calls.specs.Properties.{with_property}

abbrev pub object_or_null : Option ObjId → Value
object_or_null None = value.Null
object_or_null (Some id) = value.Object id

-- getPrototypeOf (15.2.3.2)
abbrev pub get_prototype_of : Heap → Value → Want
get_prototype_of heap (value.Object id) = want.Done (object_or_null (object_at heap id).proto)
get_prototype_of heap _ = want.Throws TypeError

-- preventExtensions (15.2.3.10); X7 of an object of the library
abbrev pub prevent_extensions : Heap → Value → Answered
prevent_extensions heap (value.Object id) =
    if is_builtin Fifth id then wanted heap (want.Leaves 7)
    else record { heap = with_object heap id (record (object_at heap id) { extensible = false }); want = want.Done (value.Object id) }
prevent_extensions heap _ = wanted heap (want.Throws TypeError)

abbrev pub function_or_undefined : Option ObjId → Value
function_or_undefined None = value.Undefined
function_or_undefined (Some id) = value.Object id

-- FromPropertyDescriptor (8.10.4)
abbrev pub three_properties : Heap → List ℕ → Value → List ℕ → Value → Bool → Heap
three_properties heap name v name' v' configurable =
    with_property (with_property (with_property (made heap (Some object_prototype) class.Object) (next_id heap) name v) (next_id heap) name' v')
    (next_id heap) (codes "configurable") (value.Bool configurable)

abbrev pub descriptor_heap : Heap → Prop → Heap
descriptor_heap heap (Plain v w c) = three_properties heap (codes "value") v (codes "writable") (value.Bool w) c
descriptor_heap heap (Accessor g s c) = three_properties heap (codes "get") (function_or_undefined g) (codes "set") (function_or_undefined s) c

abbrev pub descriptor : Heap → Option Prop → Answered
descriptor heap None = wanted heap (want.Done value.Undefined)
descriptor heap (Some p) = record { heap = descriptor_heap heap p; want = want.Done (value.Object (next_id heap)) }

abbrev pub described_own : Heap → Key → Look → Answered
described_own heap k (look.Found id) = descriptor heap (own (object_at heap id) k)
described_own heap k look.Missing = wanted heap (want.Done value.Undefined)
described_own heap k look.Binding = wanted heap (want.Done value.Undefined)
described_own heap k (look.Leaves x) = wanted heap (want.Leaves x)

-- the key is converted, if the first argument is an object
abbrev pub wants_key : BuiltinCall → Place → Turn
wants_key c p = if is_object (arg c 0) then goes c p (want.Text (arg c 1)) else throws c TypeError

-- getOwnPropertyDescriptor (15.2.3.3)
abbrev pub get_descriptor : Heap → BuiltinCall → Place → Effect
get_descriptor heap c place.Begin = still heap (wants_key c place.Position)
get_descriptor heap c _ =
    answered c (described_own heap (Text (text_in c.input)) (look_own Fifth heap (object_in (arg c 0)) (Text (text_in c.input))))

-- the fields of a descriptor, in the order in which they are read (8.10.5)
abbrev pub field_name : ℤ → List ℕ
field_name n =
    if int_eq n (pos 0) then codes "enumerable"
    else if int_eq n (pos 1) then codes "configurable"
    else if int_eq n (pos 2) then codes "value"
    else if int_eq n (pos 3) then codes "writable"
    else if int_eq n (pos 4) then codes "get"
    else codes "set"

abbrev pub with_field : BuiltinCall → Bool → Value → Turn
with_field c there v = goes (record c { list = c.list ++ (value.Bool there ∷ v ∷ []); index = plus c.index (pos 1) }) place.Turn want.Again

abbrev pub field_if_there : BuiltinCall → Look → Turn
field_if_there c (look.Found holder) = goes c place.Element (want.Get (arg c 2) (Text (field_name c.index)))
field_if_there c look.Missing = with_field c false value.Undefined
field_if_there c look.Binding = with_field c false value.Undefined
field_if_there c (look.Leaves x) = leaves c x

-- a getter or setter is a function or undefined
abbrev pub field_read : Heap → BuiltinCall → Turn
field_read heap c =
    if (int_le (pos 4) c.index && not (is_undefined c.input)) && not (is_callable heap c.input) then throws c TypeError
    else with_field c true c.input

abbrev pub field_of : Option Value → Option Value → Option Value
field_of (Some (value.Bool true)) v = v
field_of _ v = None

abbrev pub field_at : List Value → ℕ → Option Value
field_at vs i = field_of (slice_get vs (2 * i)) (slice_get vs (2 * i + 1))

abbrev pub fields_of : List Value → Fields
fields_of vs = record {
  configurable = field_at vs 1;
  value = field_at vs 2;
  writable = field_at vs 3;
  get = field_at vs 4;
  set = field_at vs 5;
}

-- a descriptor isn't one of an accessor and of a plain property at once (8.10.5, 9)
abbrev pub has_accessor_field : Fields → Bool
has_accessor_field f = is_some f.get || is_some f.set

abbrev pub has_plain_field : Fields → Bool
has_plain_field f = is_some f.value || is_some f.writable

abbrev pub truth_or : Option Value → Bool → Bool
truth_or None b = b
truth_or (Some v) b = truth_of v

abbrev pub value_or : Option Value → Value → Value
value_or None old = old
value_or (Some v) old = v

abbrev pub function_in : Value → Option ObjId
function_in (value.Object id) = Some id
function_in _ = None

abbrev pub function_or : Option Value → Option ObjId → Option ObjId
function_or None old = old
function_or (Some v) old = function_in v

abbrev pub old_value : Option Prop → Value
old_value (Some (Plain v w c)) = v
old_value _ = value.Undefined

abbrev pub old_writable : Option Prop → Bool
old_writable (Some (Plain v w c)) = w
old_writable _ = false

abbrev pub old_get : Option Prop → Option ObjId
old_get (Some (Accessor g s c)) = g
old_get _ = None

abbrev pub old_set : Option Prop → Option ObjId
old_set (Some (Accessor g s c)) = s
old_set _ = None

abbrev pub old_configurable : Option Prop → Bool
old_configurable None = false
old_configurable (Some (Plain v w c)) = c
old_configurable (Some (Accessor g s c)) = c

abbrev pub is_accessor : Option Prop → Bool
is_accessor (Some (Accessor g s c)) = true
is_accessor _ = false

-- a descriptor with every field: those that are absent are the present property's, or the defaults where there is none or its
-- kind changes (8.12.9, 4 and 9)
abbrev pub completed : Option Prop → Fields → Prop
completed old f =
    if has_accessor_field f || (is_accessor old && not (has_plain_field f))
    then Accessor (function_or f.get (old_get old)) (function_or f.set (old_set old)) (truth_or f.configurable (old_configurable old))
    else Plain (value_or f.value (old_value old)) (truth_or f.writable (old_writable old)) (truth_or f.configurable (old_configurable old))

abbrev pub define_answer : ObjId → Option HeapFault → Want
define_answer id None = want.Done (value.Object id)
define_answer id (Some fault.BadLength) = want.Throws RangeError
define_answer id (Some fault.NotWritable) = want.Throws TypeError
define_answer id (Some fault.NotConfigurable) = want.Throws TypeError
define_answer id (Some fault.NotExtensible) = want.Throws TypeError
define_answer id (Some fault.OutOfMemory) = want.Throws TypeError

-- a writable and configurable function
abbrev pub is_open_function : Heap → Prop → Bool
is_open_function heap (Plain v w c) = (w && c) && is_callable heap v
is_open_function heap (Accessor g s c) = false

-- Array.prototype may be given `includes`, which it lacks
abbrev pub adds_includes : Heap → ObjId → Key → Prop → Bool
adds_includes heap id k p =
    (nat_eq id.0 array_prototype.0 && is_named k (codes "includes")) && (is_none (own (object_at heap id) k) && is_open_function heap p)

abbrev pub define_allowed : Heap → ObjId → Key → Prop → Answered
define_allowed heap id k p = record { heap = (define_own heap id k p).after; want = define_answer id (define_own heap id k p).fault }

abbrev pub define_unless : Heap → ObjId → Key → Prop → Option ℕ → Answered
define_unless heap id k p (Some x) = wanted heap (want.Leaves x)
define_unless heap id k p None =
    if is_builtin Fifth id && not (adds_includes heap id k p) then wanted heap (want.Leaves 7) else define_allowed heap id k p

abbrev pub define_fields : Heap → ObjId → Key → Fields → Answered
define_fields heap id k f = define_unless heap id k (completed (own (object_at heap id) k) f) (definition_exit Fifth heap id k)

abbrev pub kept_key : BuiltinCall → Key
kept_key c = Text (text_in c.kept)

-- a value for an array's length is converted to a number, twice (15.4.5.1, 3)
abbrev pub sets_length : Heap → BuiltinCall → Bool
sets_length heap c =
    is_array (object_at heap (object_in (arg c 0))).class && (is_named (kept_key c) (codes "length") && is_some (fields_of c.list).value)

abbrev pub given_value : BuiltinCall → Value
given_value c = value_or (fields_of c.list).value value.Undefined

abbrev pub define_end : Heap → BuiltinCall → Effect
define_end heap c =
    if has_accessor_field (fields_of c.list) && has_plain_field (fields_of c.list) then still heap (throws c TypeError)
    else if sets_length heap c then still heap (goes c place.Search (want.Number (given_value c)))
    else answered c (define_fields heap (object_in (arg c 0)) (kept_key c) (fields_of c.list))

abbrev pub define_turn : Heap → BuiltinCall → Effect
define_turn heap c =
    if int_lt c.index (pos 6) then still heap (field_if_there c (look_up Fifth heap (object_in (arg c 2)) (Text (field_name c.index))))
    else define_end heap c

abbrev pub define_converted : Heap → BuiltinCall → Option ℤ → Answered
define_converted heap c None = wanted heap (want.Throws RangeError)
define_converted heap c (Some n) = define_fields heap (object_in (arg c 0)) (kept_key c) (record (fields_of c.list) { value = Some (value.Number n) })

abbrev pub define_length : Heap → BuiltinCall → Answered
define_length heap c = define_converted heap c (converted_length c.length (number_in c.input))

abbrev pub define_receiver : BuiltinCall → Turn
define_receiver c = if is_object (arg c 2) then goes (record c { kept = c.input }) place.Turn want.Again else throws c TypeError

-- defineProperty (15.2.3.6)
abbrev pub define_property : Heap → BuiltinCall → Place → Effect
define_property heap c place.Begin = still heap (wants_key c place.Receiver)
define_property heap c place.Receiver = still heap (define_receiver c)
define_property heap c place.Turn = define_turn heap c
define_property heap c place.Element = still heap (field_read heap c)
define_property heap c place.Search = still heap (goes (record c { length = number_in c.input }) place.Piece (want.Number (given_value c)))
define_property heap c _ = answered c (define_length heap c)
