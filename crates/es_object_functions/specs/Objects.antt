-- The functions of Object and Object.prototype, and those of Number.prototype and Boolean.prototype (ECMA-262, 6th edition, 19.1,
-- 19.3.3 and 20.1.3).
use Rattle.std.specs.Prelude.{ℕ, ℤ, pos, Bool, true, false, ◌&&◌, ◌||◌, not, nat_eq, nat_le, if◌then◌else◌, List, [], ◌∷◌, Option, None, Some, is_some, codes}
use Rattle.std.specs.Ordering.{int_eq}
use Rattle.es_value.specs.declared.value.ObjId.{ObjId}
use Rattle.es_value.specs.declared.value.Value.{Value}
use Rattle.es_value.specs.declared.value.Value.TheVariants as value
use Rattle.es_value.specs.Convert.{text_of}
use Rattle.es_heap.specs.declared.class.Class.{Class}
use Rattle.es_heap.specs.declared.class.Class.TheVariants as class
use Rattle.es_heap.specs.declared.key.Key.{Key}
use Rattle.es_heap.specs.declared.key.Key.TheVariants.{Text}
use Rattle.es_heap.specs.Heaps.{Heap, object_at, made, next_id}
use Rattle.es_access.specs.Access.{is_above}
use Rattle.es_realm.specs.declared.edition.Edition.{Edition}
use Rattle.es_realm.specs.declared.edition.Edition.TheVariants.{Sixth, Fifth}
use Rattle.es_realm.specs.declared.look.Look.{Look}
use Rattle.es_realm.specs.declared.look.Look.TheVariants as look
use Rattle.es_realm.specs.Names.{string_prototype, number_prototype, boolean_prototype, generator_function_prototype, generator_prototype, array_iterator_prototype, string_iterator_prototype}
use Rattle.es_realm.specs.Look.{is_namespace, is_recorded, is_reserved_key, look_own}
use Rattle.es_realm.specs.Access.{own_of_text}
use Rattle.es_calls.specs.declared.call.BuiltinCall.{BuiltinCall}
use Rattle.es_calls.specs.declared.call.Place.{Place}
use Rattle.es_calls.specs.declared.call.Place.TheVariants as place
use Rattle.es_calls.specs.declared.call.Want.{Want}
use Rattle.es_calls.specs.declared.call.Want.TheVariants as want
use Rattle.es_realm.specs.declared.errors.ErrorKind.TheVariants.{TypeError}
use Rattle.es_calls.specs.Calls.{Turn, Answered, arg, goes, is_undefined, text_in}
use Rattle.es_calls.specs.Properties.{made_object, wanted, class_text}

-- Object.prototype.valueOf (19.1.3.7); X9 of a primitive that would become an object
abbrev pub value_of : Value → Want
value_of value.Undefined = want.Throws TypeError
value_of value.Null = want.Throws TypeError
value_of (value.Object id) = want.Done (value.Object id)
value_of _ = want.Leaves 9

abbrev pub is_or_below : Heap → ObjId → ObjId → Bool
is_or_below heap id up = nat_eq id.0 up.0 || is_above heap id up

-- the objects whose tag is another in the 6th edition than a class of the 5.1 edition: X9
abbrev pub is_tagged : Heap → ObjId → Bool
is_tagged heap id =
    is_namespace (object_at heap id).class
    || (is_or_below heap id generator_function_prototype || (is_or_below heap id generator_prototype
    || (is_or_below heap id array_iterator_prototype || (is_or_below heap id string_iterator_prototype
    || (nat_eq id.0 3 || (nat_le 6 id.0 && nat_le id.0 9))))))

abbrev pub object_text : Edition → Heap → ObjId → Want
object_text Sixth heap id = if is_tagged heap id then want.Leaves 9 else want.Done (value.Text (class_text (object_at heap id).class))
object_text Fifth heap id = want.Done (value.Text (class_text (object_at heap id).class))

-- Object.prototype.toString (19.1.3.6)
abbrev pub to_string : Edition → Heap → Value → Want
to_string edition heap value.Undefined = want.Done (value.Text (codes "[object Undefined]"))
to_string edition heap value.Null = want.Done (value.Text (codes "[object Null]"))
to_string edition heap (value.Bool b) = want.Done (value.Text (codes "[object Boolean]"))
to_string edition heap (value.Number n) = want.Done (value.Text (codes "[object Number]"))
to_string edition heap (value.Text us) = want.Done (value.Text (codes "[object String]"))
to_string edition heap (value.Object id) = object_text edition heap id

-- whether an object itself has a key: X12 of a namespace object, X6 where the key is recorded and not there
abbrev pub own_found : Heap → ObjId → Key → Look → Want
own_found heap id k (look.Found holder) = want.Done (value.Bool true)
own_found heap id k look.Missing = if is_recorded heap id k then want.Leaves 6 else want.Done (value.Bool false)
own_found heap id k look.Binding = want.Leaves 12
own_found heap id k (look.Leaves x) = want.Leaves x

abbrev pub has_own_key : Edition → Heap → Value → Key → Want
has_own_key edition heap value.Undefined k = want.Throws TypeError
has_own_key edition heap value.Null k = want.Throws TypeError
has_own_key edition heap (value.Object id) k = own_found heap id k (look_own edition heap id k)
has_own_key edition heap (value.Text us) k = if is_reserved_key edition k then want.Leaves 3 else want.Done (value.Bool (is_some (own_of_text us k)))
has_own_key edition heap (value.Bool b) k = if is_reserved_key edition k then want.Leaves 3 else want.Done (value.Bool false)
has_own_key edition heap (value.Number n) k = if is_reserved_key edition k then want.Leaves 3 else want.Done (value.Bool false)

-- hasOwnProperty (19.1.3.2): the key is converted first
abbrev pub has_own_property : Edition → Heap → BuiltinCall → Place → Turn
has_own_property edition heap c place.Begin = goes c place.Position (want.Text (arg c 0))
has_own_property edition heap c _ = record { call = c; want = has_own_key edition heap c.this_value (Text (text_in c.input)) }

-- Object.create (19.1.2.2); X7 of a second argument, X12 of a namespace object
abbrev pub create_from : Heap → Value → Answered
create_from heap value.Null = made_object heap None class.Object
create_from heap (value.Object id) =
    if is_namespace (object_at heap id).class then wanted heap (want.Leaves 12) else made_object heap (Some id) class.Object
create_from heap _ = wanted heap (want.Throws TypeError)

abbrev pub create : Heap → BuiltinCall → Answered
create heap c = if is_undefined (arg c 1) then create_from heap (arg c 0) else wanted heap (want.Leaves 7)

-- the radixes that toString of a number or truth value may have: X7
abbrev pub is_decimal : Value → Bool
is_decimal value.Undefined = true
is_decimal (value.Number n) = int_eq n (pos 10)
is_decimal _ = false

abbrev pub decimal_text : Value → List ℕ → Want
decimal_text radix us = if is_decimal radix then want.Done (value.Text us) else want.Leaves 7

-- the prototype is a number 0 or a false itself in the 5.1 edition, and an ordinary object in the 6th
abbrev pub prototype_text : Edition → Value → List ℕ → Want
prototype_text Fifth radix us = decimal_text radix us
prototype_text Sixth radix us = want.Throws TypeError

-- Number.prototype.toString (20.1.3.6)
abbrev pub number_text : Edition → Value → Value → Want
number_text edition (value.Number n) radix = decimal_text radix (text_of (value.Number n))
number_text edition (value.Object id) radix = if nat_eq id.0 number_prototype.0 then prototype_text edition radix (codes "0") else want.Throws TypeError
number_text edition _ radix = want.Throws TypeError

-- Boolean.prototype.toString (19.3.3.2)
abbrev pub truth_text : Edition → Value → Value → Want
truth_text edition (value.Bool b) radix = decimal_text radix (text_of (value.Bool b))
truth_text edition (value.Object id) radix = if nat_eq id.0 boolean_prototype.0 then prototype_text edition radix (codes "false") else want.Throws TypeError
truth_text edition _ radix = want.Throws TypeError
