-- The functions of Function.prototype (ECMA-262, 6th edition, 19.2.3).
use Rattle.std.specs.Prelude.{ℕ, ℤ, pos, Bool, true, false, ◌||◌, ◌&&◌, nat_le, int_lt, if◌then◌else◌, List, [], ◌∷◌, ◌++◌, drop, Option, None, Some, codes}
use Rattle.es_value.specs.declared.value.ObjId.{ObjId}
use Rattle.es_value.specs.declared.value.Value.{Value}
use Rattle.es_value.specs.declared.value.Value.TheVariants as value
use Rattle.es_heap.specs.declared.key.Key.TheVariants.{Text}
use Rattle.es_heap.specs.declared.prop.Prop.{Prop}
use Rattle.es_heap.specs.declared.prop.Prop.TheVariants.{Plain}
use Rattle.es_heap.specs.Classes.{is_array}
use Rattle.es_heap.specs.Objects.{own}
use Rattle.es_heap.specs.Heaps.{Heap, object_at}
use Rattle.es_realm.specs.Look.{is_arguments}
use Rattle.es_operators.specs.Primitives.{is_callable}
use Rattle.es_operators.specs.Operators.{is_nothing}
use Rattle.es_calls.specs.declared.call.BuiltinCall.{BuiltinCall}
use Rattle.es_calls.specs.declared.call.Place.{Place}
use Rattle.es_calls.specs.declared.call.Place.TheVariants as place
use Rattle.es_calls.specs.declared.call.Want.{Want}
use Rattle.es_calls.specs.declared.call.Want.TheVariants as want
use Rattle.es_realm.specs.declared.errors.ErrorKind.TheVariants.{TypeError}
use Rattle.es_calls.specs.Calls.{Turn, arg, gives, throws, leaves, goes, number_in, plus, index_key}

-- a `length` that an arguments object may have in these functions
abbrev pub is_length : Option Prop → Bool
is_length (Some (Plain (value.Number (pos n)) w c)) = nat_le n 4294967295
is_length _ = false

-- an array, or an arguments object with such a length
abbrev pub is_list : Heap → Value → Bool
is_list heap (value.Object id) =
    is_array (object_at heap id).class || (is_arguments (object_at heap id).class && is_length (own (object_at heap id) (Text (codes "length"))))
is_list heap _ = false

-- call (19.2.3.3)
abbrev pub call_at : Heap → BuiltinCall → Place → Turn
call_at heap c place.Begin =
    if is_callable heap c.this_value
    then goes c place.Called (want.Call c.this_value (arg c 0) (drop 1 c.args))
    else throws c TypeError
call_at heap c _ = gives c c.input

-- apply (19.2.3.1); X11 where the list is none of those that it takes
abbrev pub apply_begin : Heap → BuiltinCall → Turn
apply_begin heap c =
    if is_nothing (arg c 1) then (if is_callable heap c.this_value then goes c place.Called (want.Call c.this_value (arg c 0) []) else throws c TypeError)
    else if is_list heap (arg c 1) then (if is_callable heap c.this_value then goes c place.Length (want.Get (arg c 1) (Text (codes "length"))) else throws c TypeError)
    else leaves c 11

-- one turn takes one element of the list
abbrev pub apply_turn : BuiltinCall → Turn
apply_turn c =
    if int_lt c.index c.length
    then goes c place.Element (want.Get (arg c 1) (index_key c.index))
    else goes c place.Called (want.Call c.this_value (arg c 0) c.list)

abbrev pub apply_at : Heap → BuiltinCall → Place → Turn
apply_at heap c place.Begin = apply_begin heap c
apply_at heap c place.Length = goes (record c { length = number_in c.input }) place.Turn want.Again
apply_at heap c place.Turn = apply_turn c
apply_at heap c place.Element = goes (record c { list = c.list ++ c.input ∷ []; index = plus c.index (pos 1) }) place.Turn want.Again
apply_at heap c _ = gives c c.input
