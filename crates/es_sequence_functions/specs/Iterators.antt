-- The iterators of arrays and texts (ECMA-262, 6th edition, 21.1.5, 22.1.5 and 25.1).
use Rattle.std.specs.Prelude.{ℕ, ℤ, pos, Bool, true, false, ◌+◌, ◌&&◌, nat_le, nat_lt, int_lt, if◌then◌else◌, List, [], ◌∷◌, length, drop, Option, None, Some, codes}
use Rattle.es_value.specs.declared.value.ObjId.{ObjId}
use Rattle.es_value.specs.declared.value.Value.{Value}
use Rattle.es_value.specs.declared.value.Value.TheVariants as value
use Rattle.es_heap.specs.declared.class.Class.{Class}
use Rattle.es_heap.specs.declared.class.Class.TheVariants as class
use Rattle.es_heap.specs.declared.key.Key.TheVariants.{Text}
use Rattle.es_heap.specs.Heaps.{Heap, object_at, with_class, next_id}
use Rattle.es_realm.specs.Names.{array_iterator_prototype, string_iterator_prototype}
use Rattle.es_operators.specs.Operators.{is_nothing}
use Rattle.es_calls.specs.declared.call.BuiltinCall.{BuiltinCall}
use Rattle.es_calls.specs.declared.call.Place.{Place}
use Rattle.es_calls.specs.declared.call.Place.TheVariants as place
use Rattle.es_calls.specs.declared.call.Want.TheVariants as want
use Rattle.es_realm.specs.declared.errors.ErrorKind.TheVariants.{TypeError}
use Rattle.es_calls.specs.Calls.{Turn, Effect, Answered, answered, still, gives, throws, goes, text_in, number_in, object_in, plus, index_key}
use Rattle.es_calls.specs.Properties.{made_object}
use Rattle.es_calls.specs.Making.{result_heap}
use Rattle.es_sequence_functions.specs.Strings.{coerced}

-- the call ends with the result of a step of an iterator (7.4.7)
abbrev pub results : Heap → Value → Bool → Answered
results heap v over = record { heap = result_heap heap v over; want = want.Done (value.Object (next_id heap)) }

-- Array.prototype's iterator key (22.1.3.29), of any receiver but undefined and null
abbrev pub array_iterator : Heap → BuiltinCall → Effect
array_iterator heap c =
    if is_nothing c.this_value then still heap (throws c TypeError)
    else answered c (made_object heap (Some array_iterator_prototype) (class.ArrayIterator (Some c.this_value) (pos 0)))

-- a step of an array iterator begins with what it goes over (22.1.5.2.1)
abbrev pub array_begin : Heap → BuiltinCall → Class → Effect
array_begin heap c (class.ArrayIterator None n) = answered c (results heap value.Undefined true)
array_begin heap c (class.ArrayIterator (Some v) n) =
    still heap (goes (record c { kept = v; index = n }) place.Length (want.Get v (Text (codes "length"))))
array_begin heap c _ = still heap (throws c TypeError)

abbrev pub array_begin_of : Heap → BuiltinCall → Value → Effect
array_begin_of heap c (value.Object id) = array_begin heap c (object_at heap id).class
array_begin_of heap c _ = still heap (throws c TypeError)

-- the iterator goes on to the index, or is done
abbrev pub array_moved : Heap → ObjId → ℤ → Class → Heap
array_moved heap id n (class.ArrayIterator of m) = with_class heap id (class.ArrayIterator of n)
array_moved heap id n _ = heap

abbrev pub array_finished : Heap → ObjId → Class → Heap
array_finished heap id (class.ArrayIterator of m) = with_class heap id (class.ArrayIterator None m)
array_finished heap id _ = heap

-- the length is read at each step, and the element after the iterator went on
abbrev pub array_position : Heap → BuiltinCall → ObjId → Effect
array_position heap c id =
    if int_lt c.index (number_in c.input)
    then still (array_moved heap id (plus c.index (pos 1)) (object_at heap id).class) (goes c place.Element (want.Get c.kept (index_key c.index)))
    else answered c (results (array_finished heap id (object_at heap id).class) value.Undefined true)

-- next of an array iterator (22.1.5.2.1)
abbrev pub array_next : Heap → BuiltinCall → Place → Effect
array_next heap c place.Begin = array_begin_of heap c c.this_value
array_next heap c place.Length = still heap (goes c place.Position (want.Number c.input))
array_next heap c place.Position = array_position heap c (object_in c.this_value)
array_next heap c _ = answered c (results heap c.input false)

-- String.prototype's iterator key (21.1.3.27)
abbrev pub string_iterator : Heap → BuiltinCall → Place → Effect
string_iterator heap c place.Begin = still heap (coerced c)
string_iterator heap c _ = answered c (made_object heap (Some string_iterator_prototype) (class.StringIterator (Some (text_in c.input)) 0))

-- the units of the code point that begins a text: a surrogate that has no other half stands alone (21.1.5.2.1)
abbrev pub is_lead : ℕ → Bool
is_lead u = nat_le 0xD800 u && nat_le u 0xDBFF

abbrev pub is_trail : ℕ → Bool
is_trail u = nat_le 0xDC00 u && nat_le u 0xDFFF

abbrev pub point_of : List ℕ → List ℕ
point_of [] = []
point_of (u ∷ []) = u ∷ []
point_of (u ∷ v ∷ us) = if is_lead u && is_trail v then u ∷ v ∷ [] else u ∷ []

abbrev pub string_step : Heap → ObjId → List ℕ → ℕ → Answered
string_step heap id us n =
    if nat_lt n (length us)
    then results (with_class heap id (class.StringIterator (Some us) (n + length (point_of (drop n us))))) (value.Text (point_of (drop n us))) false
    else results (with_class heap id (class.StringIterator None n)) value.Undefined true

abbrev pub string_next_by : Heap → ObjId → Class → Answered
string_next_by heap id (class.StringIterator None n) = results heap value.Undefined true
string_next_by heap id (class.StringIterator (Some us) n) = string_step heap id us n
string_next_by heap id _ = record { heap = heap; want = want.Throws TypeError }

-- next of a string iterator (21.1.5.2.1)
abbrev pub string_next : Heap → Value → Answered
string_next heap (value.Object id) = string_next_by heap id (object_at heap id).class
string_next heap _ = record { heap = heap; want = want.Throws TypeError }
