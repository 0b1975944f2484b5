-- One turn of a function of the library, by its number in the table.
use Rattle.std.specs.Prelude.{◌≡◌, ℕ, nat_eq, nat_lt, if◌then◌else◌, List, []}
use Rattle.es_value.specs.declared.value.Value.{Value}
use Rattle.es_value.specs.declared.value.Value.TheVariants as value
use Rattle.es_heap.specs.Heaps.{Heap}
use Rattle.es_realm.specs.declared.edition.Edition.{Edition}
use Rattle.es_realm.specs.declared.edition.Edition.TheVariants.{Sixth, Fifth}
use Rattle.es_realm.specs.declared.realm.RealmOf.{RealmOf}
use Rattle.es_realm.specs.declared.realm.RealmOf.TheVariants.{Six, Five}
use Rattle.es_calls.specs.declared.call.BuiltinStep.TheVariants.{OutOfMemory}
use Rattle.es_calls.specs.declared.call.BuiltinCall.{BuiltinCall}
use Rattle.es_calls.specs.declared.call.BuiltinStep.{BuiltinStep}
use Rattle.es_calls.specs.declared.call.Want.TheVariants as want
use Rattle.es_calls.specs.declared.call.Resumption.TheVariants as resumption
use Rattle.es_calls.specs.declared.call.Pending.{Pending}
use Rattle.es_calls.specs.declared.call.Pending.TheVariants as pending
use Rattle.es_calls.specs.Calls.{Turn, Effect, still, answered, arg, over, gives, leaves}
use Rattle.es_sequence_functions.specs.Functions.{call_at, apply_at}
use Rattle.es_object_functions.specs.Objects as object
use Rattle.es_sequence_functions.specs.Strings as string
use Rattle.es_sequence_functions.specs.Arrays as array
use Rattle.es_object_functions.specs.Errors.{error_of, error_text}
use Rattle.es_sequence_functions.specs.Iterators as iterator
use Rattle.es_object_functions.specs.Fifth as fifth
use Rattle.es_calls.specs.Steps.{Settled, settle, settle_attempt, receive_result}
use Rattle.es_operators.specs.Conversions.{method_given}

-- Object and Array leave at X7; String, Error and its kinds
abbrev pub constructor_turn : Heap → BuiltinCall → Effect
constructor_turn heap c =
    if nat_lt c.builtin 2 then still heap (leaves c 7)
    else if nat_eq c.builtin 2 then still heap (string.string_of c c.place c.args)
    else error_of heap c c.place

-- the functions of Object, Array, Object.prototype and Function.prototype; toString of a function leaves at X8
abbrev pub object_turn : Edition → Heap → BuiltinCall → Effect
object_turn edition heap c =
    if nat_eq c.builtin 7 then answered c (object.create heap c)
    else if nat_eq c.builtin 8 then still heap (gives c (value.Bool (array.is_array_value heap (arg c 0))))
    else if nat_eq c.builtin 9 then still heap (object.has_own_property edition heap c c.place)
    else if nat_eq c.builtin 10 then still heap (over c (object.to_string edition heap c.this_value))
    else if nat_eq c.builtin 11 then still heap (over c (object.value_of c.this_value))
    else if nat_eq c.builtin 12 then still heap (call_at heap c c.place)
    else if nat_eq c.builtin 13 then still heap (apply_at heap c c.place)
    else still heap (leaves c 8)

abbrev pub array_turn : Edition → Heap → BuiltinCall → Effect
array_turn edition heap c =
    if nat_eq c.builtin 15 then array.push edition heap c c.place
    else if nat_eq c.builtin 16 then array.pop edition heap c c.place
    else if nat_eq c.builtin 17 then still heap (array.index_of edition heap c c.place)
    else if nat_eq c.builtin 18 then still heap (array.join heap c c.place)
    else if nat_eq c.builtin 19 then still heap (array.for_each edition heap c c.place)
    else if nat_eq c.builtin 20 then still heap (array.to_string heap c c.place)
    else if nat_eq c.builtin 21 then iterator.array_iterator heap c
    else still heap (array.includes heap c c.place)

abbrev pub string_turn : Edition → Heap → BuiltinCall → Effect
string_turn edition heap c =
    if nat_eq c.builtin 23 then still heap (string.char_at c c.place)
    else if nat_eq c.builtin 24 then still heap (string.char_code_at c c.place)
    else if nat_eq c.builtin 25 then still heap (string.index_of c c.place)
    else if nat_eq c.builtin 26 then still heap (string.substring c c.place)
    else if nat_eq c.builtin 27 then still heap (over c (string.text_value edition c.this_value))
    else iterator.string_iterator heap c c.place

-- the functions of the other prototypes; the methods of generators resume them (25.3.1.2 to 25.3.1.4), and an iterator's iterator
-- key gives the iterator itself (25.1.2.1)
abbrev pub prototype_turn : Edition → Heap → BuiltinCall → Effect
prototype_turn edition heap c =
    if nat_eq c.builtin 29 then still heap (over c (object.number_text edition c.this_value (arg c 0)))
    else if nat_eq c.builtin 30 then still heap (over c (object.truth_text edition c.this_value (arg c 0)))
    else if nat_eq c.builtin 31 then still heap (error_text c c.place)
    else if nat_eq c.builtin 32 then still heap (over c (want.Resume resumption.Next))
    else if nat_eq c.builtin 33 then still heap (over c (want.Resume resumption.Return))
    else if nat_eq c.builtin 34 then still heap (over c (want.Resume resumption.Throw))
    else if nat_eq c.builtin 35 then still heap (gives c c.this_value)
    else if nat_eq c.builtin 36 then iterator.array_next heap c c.place
    else answered c (iterator.string_next heap c.this_value)

-- the functions that the realm of the 5.1 edition has besides, and Function.prototype, a call of which gives undefined (19.2.3)
abbrev pub fifth_turn : Heap → BuiltinCall → Effect
fifth_turn heap c =
    if nat_eq c.builtin 38 then fifth.define_property heap c c.place
    else if nat_eq c.builtin 39 then fifth.get_descriptor heap c c.place
    else if nat_eq c.builtin 40 then still heap (over c (fifth.get_prototype_of heap (arg c 0)))
    else if nat_eq c.builtin 41 then answered c (fifth.prevent_extensions heap (arg c 0))
    else if nat_eq c.builtin 42 then still heap (gives c value.Undefined)
    else still heap (over c want.Unknown)

-- a turn of a function
abbrev pub turn_of : Edition → Heap → BuiltinCall → Effect
turn_of edition heap c =
    if nat_lt c.builtin 7 then constructor_turn heap c
    else if nat_lt c.builtin 15 then object_turn edition heap c
    else if nat_lt c.builtin 23 then array_turn edition heap c
    else if nat_lt c.builtin 29 then string_turn edition heap c
    else if nat_lt c.builtin 38 then prototype_turn edition heap c
    else fifth_turn heap c

-- what a step leaves, and what it answers
pub record Stepped : Type 0 where
  pub call : BuiltinCall
  pub heap : Heap
  pub step : BuiltinStep

abbrev pub stepped : Heap → Settled → Stepped
stepped heap s = record { call = s.call; heap = heap; step = s.step }

abbrev pub settle_effect : Edition → Effect → Stepped
settle_effect edition e = stepped e.heap (settle edition e.heap e.call e.want)

abbrev pub step_by : Edition → Heap → BuiltinCall → Pending → Stepped
step_by edition heap c pending.Nothing = settle_effect edition (turn_of edition heap c)
step_by edition heap c pending.Answer = settle_effect edition (turn_of edition heap c)
step_by edition heap c (pending.Method conversion) = stepped heap (settle_attempt c (method_given edition heap conversion c.input))
step_by edition heap c (pending.Result conversion) = stepped heap (receive_result edition heap c conversion)

-- one step of a call
abbrev pub step_of : Edition → Heap → BuiltinCall → Stepped
step_of edition heap c = step_by edition heap c c.pending

abbrev pub edition_of : RealmOf → Edition
edition_of (Six realm) = Sixth
edition_of (Five realm) = Fifth

-- a step did what its definition says, or found no memory
abbrev pub StepsTo : BuiltinStep → BuiltinCall → Heap → Stepped → Type 0
StepsTo OutOfMemory call heap s = Unit {0}
StepsTo step call heap s = (step ≡ s.step) × (call ≡ s.call) × (heap ≡ s.heap)
