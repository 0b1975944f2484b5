-- The functions of Array and Array.prototype (ECMA-262, 6th edition, 22.1; 7th edition, 22.1.3.11). Their receiver is an array or
-- an arguments object with a length; on another one they leave at X11.
use Rattle.std.specs.Prelude.{ℕ, ℤ, pos, negsuc, Bool, true, false, nat_eq, int_lt, int_le, if◌then◌else◌, List, [], ◌∷◌, ◌++◌, length, slice_get, Option, None, Some, codes}
use Rattle.std.specs.Ordering.{int_eq}
use Rattle.es_value.specs.declared.value.ObjId.{ObjId}
use Rattle.es_value.specs.declared.value.Value.{Value}
use Rattle.es_value.specs.declared.value.Value.TheVariants as value
use Rattle.es_value.specs.Equality.{same_value}
use Rattle.es_heap.specs.declared.class.Class.{Class}
use Rattle.es_heap.specs.declared.class.Class.TheVariants as class
use Rattle.es_heap.specs.declared.key.Key.{Key}
use Rattle.es_heap.specs.declared.key.Key.TheVariants.{Text}
use Rattle.es_heap.specs.Classes.{is_array}
use Rattle.es_heap.specs.Heaps.{Heap, object_at, made, next_id}
use Rattle.es_realm.specs.declared.edition.Edition.{Edition}
use Rattle.es_realm.specs.declared.look.Look.{Look}
use Rattle.es_realm.specs.declared.look.Look.TheVariants as look
use Rattle.es_realm.specs.declared.access.Write.{Write}
use Rattle.es_realm.specs.declared.access.Write.TheVariants as write
use Rattle.es_realm.specs.Access.{Written, write_object, delete_key}
use Rattle.es_realm.specs.Look.{look_up}
use Rattle.es_realm.specs.Names.{array_iterator_prototype}
use Rattle.es_operators.specs.Primitives.{is_callable}
use Rattle.es_operators.specs.Operators.{is_nothing}
use Rattle.es_calls.specs.declared.call.BuiltinCall.{BuiltinCall}
use Rattle.es_calls.specs.declared.call.Place.{Place}
use Rattle.es_calls.specs.declared.call.Place.TheVariants as place
use Rattle.es_calls.specs.declared.call.Want.{Want}
use Rattle.es_calls.specs.declared.call.Want.TheVariants as want
use Rattle.es_realm.specs.declared.errors.ErrorKind.TheVariants.{TypeError, RangeError}
use Rattle.es_calls.specs.Calls.{Turn, Effect, still, arg, value_or_undefined, gives, throws, leaves, goes, is_undefined, position, text_in, number_in, plus, index_key, object_in}
use Rattle.es_sequence_functions.specs.Functions.{is_list}
use Rattle.es_calls.specs.Properties.{class_text}

-- Array.isArray (22.1.2.2)
abbrev pub is_array_value : Heap → Value → Bool
is_array_value heap (value.Object id) = is_array (object_at heap id).class
is_array_value heap _ = false

-- the receiver's length is read first
abbrev pub measured : Heap → BuiltinCall → Turn
measured heap c = if is_list heap c.this_value then goes c place.Length (want.Get c.this_value (Text (codes "length"))) else leaves c 11

abbrev pub with_length : BuiltinCall → BuiltinCall
with_length c = record c { length = number_in c.input }

-- where a search begins whose position is n: from the end where n is below 0, but not before the first element
abbrev pub start_at : ℤ → ℤ → ℤ
start_at n length = if int_le (pos 0) n then n else if int_lt (plus n length) (pos 0) then pos 0 else plus n length

abbrev pub next_turn : BuiltinCall → Turn
next_turn c = goes (record c { index = plus c.index (pos 1) }) place.Turn want.Again

-- a turn that looks at an element if it is there (7.3.10)
abbrev pub if_there : BuiltinCall → Look → Turn
if_there c (look.Found holder) = goes c place.Element (want.Get c.this_value (index_key c.index))
if_there c look.Missing = next_turn c
if_there c look.Binding = next_turn c
if_there c (look.Leaves x) = leaves c x

abbrev pub turn_if_there : Edition → Heap → BuiltinCall → Want → Turn
turn_if_there edition heap c end =
    if int_lt c.index c.length
    then if_there c (look_up edition heap (object_in c.this_value) (index_key c.index))
    else record { call = c; want = end }

-- the length of a search: nothing is found in what is empty, and else the position is converted
abbrev pub search_length : BuiltinCall → Want → Turn
search_length c nothing =
    if int_lt (pos 0) c.length then goes c place.Position (want.Number (position (arg c 1))) else record { call = c; want = nothing }

abbrev pub search_position : BuiltinCall → Turn
search_position c = goes (record c { index = start_at (number_in c.input) c.length }) place.Turn want.Again

-- indexOf (22.1.3.11)
abbrev pub index_of : Edition → Heap → BuiltinCall → Place → Turn
index_of edition heap c place.Begin = measured heap c
index_of edition heap c place.Length = search_length (with_length c) (want.Done (value.Number (negsuc 0)))
index_of edition heap c place.Position = search_position c
index_of edition heap c place.Turn = turn_if_there edition heap c (want.Done (value.Number (negsuc 0)))
index_of edition heap c _ = if same_value c.input (arg c 0) then gives c (value.Number c.index) else next_turn c

abbrev pub includes_turn : BuiltinCall → Turn
includes_turn c = if int_lt c.index c.length then goes c place.Element (want.Get c.this_value (index_key c.index)) else gives c (value.Bool false)

-- includes (7th edition, 22.1.3.11): an element that isn't there counts as undefined
abbrev pub includes : Heap → BuiltinCall → Place → Turn
includes heap c place.Begin = measured heap c
includes heap c place.Length = search_length (with_length c) (want.Done (value.Bool false))
includes heap c place.Position = search_position c
includes heap c place.Turn = includes_turn c
includes heap c _ = if same_value c.input (arg c 0) then gives c (value.Bool true) else next_turn c

abbrev pub for_each_length : Heap → BuiltinCall → Turn
for_each_length heap c = if is_callable heap (arg c 0) then goes (with_length c) place.Turn want.Again else throws c TypeError

-- forEach (22.1.3.10)
abbrev pub for_each : Edition → Heap → BuiltinCall → Place → Turn
for_each edition heap c place.Begin = measured heap c
for_each edition heap c place.Length = for_each_length heap c
for_each edition heap c place.Turn = turn_if_there edition heap c (want.Done value.Undefined)
for_each edition heap c place.Element = goes c place.Called (want.Call (arg c 0) (arg c 1) (c.input ∷ value.Number c.index ∷ c.this_value ∷ []))
for_each edition heap c _ = next_turn c

-- what stands between the elements that are joined
abbrev pub separator : BuiltinCall → Value
separator c = if is_undefined (arg c 0) then value.Text (codes ",") else arg c 0

abbrev pub with_separator : BuiltinCall → BuiltinCall
with_separator c = if int_lt (pos 0) c.index then record c { units = c.units ++ text_in c.other } else c

abbrev pub join_turn : BuiltinCall → Turn
join_turn c =
    if int_lt c.index c.length
    then goes (with_separator c) place.Element (want.Get c.this_value (index_key c.index))
    else gives c (value.Text c.units)

abbrev pub join_element : BuiltinCall → Turn
join_element c = if is_nothing c.input then next_turn c else goes c place.Piece (want.Text c.input)

-- join (22.1.3.12)
abbrev pub join : Heap → BuiltinCall → Place → Turn
join heap c place.Begin = measured heap c
join heap c place.Length = goes (with_length c) place.Search (want.Text (separator c))
join heap c place.Search = goes (record c { other = c.input }) place.Turn want.Again
join heap c place.Turn = join_turn c
join heap c place.Element = join_element c
join heap c _ = next_turn (record c { units = c.units ++ text_in c.input })

abbrev pub to_string_element : Heap → BuiltinCall → Turn
to_string_element heap c =
    if is_callable heap c.input then goes c place.Called (want.Call c.input c.this_value [])
    else gives c (value.Text (class_text (object_at heap (object_in c.this_value)).class))

-- toString (22.1.3.27): what the receiver's own `join` gives, or else what Object.prototype.toString gives
abbrev pub to_string : Heap → BuiltinCall → Place → Turn
to_string heap c place.Begin = if is_list heap c.this_value then goes c place.Element (want.Get c.this_value (Text (codes "join"))) else leaves c 11
to_string heap c place.Element = to_string_element heap c
to_string heap c _ = gives c c.input

-- what follows a write of a value that is no object or of an element: the setter is called, or the call goes on at the place, or it
-- ends as strict code does (6.2.3.2)
abbrev pub after_write : BuiltinCall → Value → Place → Write → Turn
after_write c v p write.Done = goes c p want.Again
after_write c v p (write.Setter s) = goes c p (want.Call (value.Object s) c.this_value (v ∷ []))
after_write c v p write.OutOfRange = throws c RangeError
after_write c v p (write.Leaves x) = leaves c x
after_write c v p _ = throws c TypeError

abbrev pub written : BuiltinCall → Heap → Turn → Effect
written c heap turn = record { call = turn.call; heap = heap; want = turn.want }

-- a write of the receiver's length, after which the call is at its end
unfoldable pub write_measure : Edition → Heap → BuiltinCall → ℤ → Effect
write_measure edition heap c n =
    let w = write_object edition heap (object_in c.this_value) (Text (codes "length")) (value.Number n) in
    written c w.after (after_write c (value.Number n) place.End w.answer)

-- the argument that is pushed in this turn, at its place after the elements
unfoldable pub push_one : Edition → Heap → BuiltinCall → Value → Effect
push_one edition heap c v =
    let w = write_object edition heap (object_in c.this_value) (index_key (plus c.length c.index)) v in
    written c w.after (after_write c v place.Called w.answer)

abbrev pub arg_at : List Value → ℤ → Value
arg_at vs (pos i) = value_or_undefined (slice_get vs i)
arg_at vs (negsuc i) = value.Undefined

abbrev pub pushed_length : BuiltinCall → ℤ
pushed_length c = plus c.length (pos (length c.args))

abbrev pub push_turn : Edition → Heap → BuiltinCall → Effect
push_turn edition heap c =
    if int_lt c.index (pos (length c.args)) then push_one edition heap c (arg_at c.args c.index)
    else write_measure edition heap c (pushed_length c)

-- push (22.1.3.17)
abbrev pub push : Edition → Heap → BuiltinCall → Place → Effect
push edition heap c place.Begin = still heap (measured heap c)
push edition heap c place.Length = still heap (goes (with_length c) place.Turn want.Again)
push edition heap c place.Turn = push_turn edition heap c
push edition heap c place.Called = still heap (next_turn c)
push edition heap c _ = still heap (gives c (value.Number (pushed_length c)))

-- the last element, which is read first
abbrev pub pop_length : BuiltinCall → Turn
pop_length c =
    if int_lt (pos 0) c.length then goes (record c { index = plus c.length (negsuc 0) }) place.Element (want.Get c.this_value (index_key (plus c.length (negsuc 0))))
    else goes c place.Turn want.Again

-- what follows the deletion of the last element
abbrev pub after_deletion : BuiltinCall → Write → Turn
after_deletion c write.Done = goes (record c { kept = c.input }) place.Turn want.Again
after_deletion c (write.Leaves x) = leaves c x
after_deletion c _ = throws c TypeError

abbrev pub pop_element : Edition → Heap → BuiltinCall → Effect
pop_element edition heap c =
    let w = delete_key edition heap (object_in c.this_value) (index_key c.index) in
    written c w.after (after_deletion c w.answer)

-- pop (22.1.3.16)
abbrev pub pop : Edition → Heap → BuiltinCall → Place → Effect
pop edition heap c place.Begin = still heap (measured heap c)
pop edition heap c place.Length = still heap (pop_length (with_length c))
pop edition heap c place.Element = pop_element edition heap c
pop edition heap c place.Turn = write_measure edition heap c c.index
pop edition heap c _ = still heap (gives c c.kept)
