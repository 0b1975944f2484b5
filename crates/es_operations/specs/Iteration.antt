-- Iterators (ECMA-262, 6th edition, 7.4) and a turn of `yield*` (14.4.14). The receiver is the value or the iterator.
use Rattle.std.specs.Prelude.{Bool, false, if◌then◌else◌, [], ◌∷◌, codes}
use Rattle.es_value.specs.declared.value.Value.TheVariants as value
use Rattle.es_heap.specs.Heaps.{Heap}
use Rattle.es_heap.specs.declared.key.Key.TheVariants.{Text, Iterator}
use Rattle.es_realm.specs.declared.errors.ErrorKind.TheVariants.{TypeError}
use Rattle.es_operators.specs.Operators.{is_nothing}
use Rattle.es_operators.specs.Primitives.{is_object, truth_of}
use Rattle.es_calls.specs.declared.call.BuiltinCall.{BuiltinCall}
use Rattle.es_calls.specs.declared.call.Place.{Place}
use Rattle.es_calls.specs.declared.call.Place.TheVariants as place
use Rattle.es_calls.specs.declared.call.Want.TheVariants as want
use Rattle.es_calls.specs.Calls.{arg}
use Rattle.es_operations.specs.Turning.{Act, calls, gives, gives_object, throws, wants}

-- the read of the iterator key
abbrev pub iterator_method : Heap → BuiltinCall → Place → Act
iterator_method heap c place.Begin = wants heap c place.End (want.Get c.this_value Iterator)
iterator_method heap c _ = gives heap c c.input

-- GetIterator (7.4.1)
abbrev pub get_iterator : Heap → BuiltinCall → Place → Act
get_iterator heap c place.Begin = wants heap c place.Element (want.Get c.this_value Iterator)
get_iterator heap c place.Element = calls heap c place.Called c.input []
get_iterator heap c _ = gives_object heap c c.input

-- IteratorStep (7.4.5) with IteratorNext (7.4.2) and IteratorComplete (7.4.3): the result object, or false at the end
abbrev pub result_kept : Heap → BuiltinCall → Act
result_kept heap c =
    if is_object c.input then wants heap (record c { kept = c.input }) place.End (want.Get c.input (Text (codes "done")))
    else throws heap c TypeError

abbrev pub iterator_step : Heap → BuiltinCall → Place → Act
iterator_step heap c place.Begin = wants heap c place.Element (want.Get c.this_value (Text (codes "next")))
iterator_step heap c place.Element = calls heap c place.Called c.input []
iterator_step heap c place.Called = result_kept heap c
iterator_step heap c _ = gives heap c (if truth_of c.input then value.Bool false else c.kept)

-- IteratorValue (7.4.4)
abbrev pub iterator_value : Heap → BuiltinCall → Place → Act
iterator_value heap c place.Begin = wants heap c place.End (want.Get c.this_value (Text (codes "value")))
iterator_value heap c _ = gives heap c c.input

-- IteratorClose (7.4.6): under a throw what the method gives doesn't matter, and what it throws is dropped by who runs the call
abbrev pub closed : Bool → Heap → BuiltinCall → Act
closed thrown heap c = if thrown then gives heap c value.Undefined else gives_object heap c c.input

abbrev pub closing : Heap → BuiltinCall → Act
closing heap c = if is_nothing c.input then gives heap c value.Undefined else calls heap c place.Called c.input []

abbrev pub iterator_close : Bool → Heap → BuiltinCall → Place → Act
iterator_close thrown heap c place.Begin = wants heap c place.Element (want.Get c.this_value (Text (codes "return")))
iterator_close thrown heap c place.Element = closing heap c
iterator_close thrown heap c _ = closed thrown heap c

-- ---- a turn of `yield*` (14.4.14, 5): the operand is what the generator was resumed with

abbrev pub handed : Heap → BuiltinCall → Act
handed heap c = calls heap c place.Called c.input (arg c 0 ∷ [])

abbrev pub delegate_next : Heap → BuiltinCall → Place → Act
delegate_next heap c place.Begin = wants heap c place.Element (want.Get c.this_value (Text (codes "next")))
delegate_next heap c place.Element = handed heap c
delegate_next heap c _ = gives_object heap c c.input

-- an iterator without `throw` is closed under a normal completion, and then it is a TypeError
abbrev pub closed_before_throw : Heap → BuiltinCall → Act
closed_before_throw heap c = if is_nothing c.input then throws heap c TypeError else calls heap c place.Piece c.input []

abbrev pub delegate_throw : Heap → BuiltinCall → Place → Act
delegate_throw heap c place.Begin = wants heap c place.Element (want.Get c.this_value (Text (codes "throw")))
delegate_throw heap c place.Element =
    if is_nothing c.input then wants heap c place.Search (want.Get c.this_value (Text (codes "return"))) else handed heap c
delegate_throw heap c place.Search = closed_before_throw heap c
delegate_throw heap c place.Piece = throws heap c TypeError
delegate_throw heap c _ = gives_object heap c c.input

-- one without `return` gives undefined
abbrev pub delegate_return : Heap → BuiltinCall → Place → Act
delegate_return heap c place.Begin = wants heap c place.Element (want.Get c.this_value (Text (codes "return")))
delegate_return heap c place.Element = if is_nothing c.input then gives heap c value.Undefined else handed heap c
delegate_return heap c _ = gives_object heap c c.input
