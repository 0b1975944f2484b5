-- Error and its kinds (ECMA-262, 6th edition, 19.5).
use Rattle.std.specs.Prelude.{ℕ, Bool, true, false, ◌+◌, if◌then◌else◌, List, [], ◌∷◌, ◌++◌, Option, None, Some, codes}
use Rattle.es_value.specs.declared.value.ObjId.{ObjId}
use Rattle.es_value.specs.declared.value.Value.{Value}
use Rattle.es_value.specs.declared.value.Value.TheVariants as value
use Rattle.es_heap.specs.declared.class.Class.TheVariants as class
use Rattle.es_heap.specs.declared.key.Key.TheVariants.{Text}
use Rattle.es_heap.specs.declared.prop.Prop.TheVariants.{Plain}
use Rattle.es_heap.specs.Heaps.{Heap, made, next_id, define_own}
use Rattle.es_operators.specs.Primitives.{is_object}
use Rattle.es_calls.specs.declared.call.BuiltinCall.{BuiltinCall}
use Rattle.es_calls.specs.declared.call.Place.{Place}
use Rattle.es_calls.specs.declared.call.Place.TheVariants as place
use Rattle.es_calls.specs.declared.call.Want.TheVariants as want
use Rattle.es_realm.specs.declared.errors.ErrorKind.TheVariants.{TypeError}
use Rattle.es_calls.specs.Properties.{with_property}
use Rattle.es_calls.specs.Calls.{Turn, Effect, arg, gives, throws, goes, is_undefined, text_in, object_in}

-- the prototype of the errors that the constructor of this number makes: those of the kinds stand in the constructors' order
abbrev pub error_proto : ℕ → ObjId
error_proto n = record { 0 = n + 3 }

-- a call of an error constructor, by `new` too (19.5.1.1 and 19.5.6.1.1): the object is made first, and then the message converted
abbrev pub error_begin : Heap → BuiltinCall → Effect
error_begin heap c = record {
  call = record c { kept = value.Object (next_id heap); place = place.Receiver };
  heap = made heap (Some (error_proto c.builtin)) class.Error;
  want = if is_undefined (arg c 0) then want.Done (value.Object (next_id heap)) else want.Text (arg c 0);
}

abbrev pub error_message : Heap → BuiltinCall → Effect
error_message heap c = record {
  call = c;
  heap = with_property heap (object_in c.kept) (codes "message") c.input;
  want = want.Done c.kept;
}

abbrev pub error_of : Heap → BuiltinCall → Place → Effect
error_of heap c place.Begin = error_begin heap c
error_of heap c _ = error_message heap c

-- the text of an error's name and message
abbrev pub described : List ℕ → List ℕ → List ℕ
described [] message = message
described (u ∷ us) [] = u ∷ us
described (u ∷ us) (v ∷ vs) = (u ∷ us) ++ (codes ": " ++ (v ∷ vs))

abbrev pub wants_message : BuiltinCall → Turn
wants_message c = goes c place.Element (want.Get c.this_value (Text (codes "message")))

-- Error.prototype.toString (19.5.3.4)
abbrev pub error_text : BuiltinCall → Place → Turn
error_text c place.Begin =
    if is_object c.this_value then goes c place.Receiver (want.Get c.this_value (Text (codes "name"))) else throws c TypeError
error_text c place.Receiver =
    if is_undefined c.input then wants_message (record c { other = value.Text (codes "Error") }) else goes c place.Search (want.Text c.input)
error_text c place.Search = wants_message (record c { other = c.input })
error_text c place.Element =
    if is_undefined c.input then gives c (value.Text (described (text_in c.other) [])) else goes c place.Piece (want.Text c.input)
error_text c _ = gives c (value.Text (described (text_in c.other) (text_in c.input)))
