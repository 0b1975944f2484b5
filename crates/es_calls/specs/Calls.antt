-- A call of a function of the library: what it keeps between its steps, and what one turn of it gives.
use Rattle.std.specs.Prelude.{ℕ, ℤ, pos, Bool, true, false, if◌then◌else◌, List, [], ◌∷◌, slice_get, Option, None, Some, Result, Ok, Err}
use Rattle.es_value.specs.declared.arithmetic.Exit.{Exit}
use Rattle.es_value.specs.Arithmetic.{sum}
use Rattle.es_value.specs.declared.value.ObjId.{ObjId}
use Rattle.es_value.specs.declared.value.Value.{Value}
use Rattle.es_value.specs.declared.value.Value.TheVariants as value
use Rattle.es_heap.specs.declared.key.Key.{Key}
use Rattle.es_heap.specs.declared.key.Key.TheVariants.{Text}
use Rattle.es_heap.specs.Heaps.{Heap}
use Rattle.es_operators.specs.Primitives.{to_key}
use Rattle.es_calls.specs.declared.call.BuiltinCall.{BuiltinCall}
use Rattle.es_calls.specs.declared.call.Place.{Place}
use Rattle.es_calls.specs.declared.call.Place.TheVariants as place
use Rattle.es_calls.specs.declared.call.Pending.TheVariants as pending
use Rattle.es_calls.specs.declared.call.Want.{Want}
use Rattle.es_calls.specs.declared.call.Want.TheVariants as want
use Rattle.es_realm.specs.declared.errors.ErrorKind.{ErrorKind}

-- a call as it begins
abbrev pub begun : ℕ → Value → List Value → BuiltinCall
begun builtin this args = record {
  builtin = builtin;
  this_value = this;
  args = args;
  place = place.Begin;
  pending = pending.Nothing;
  input = value.Undefined;
  kept = value.Undefined;
  other = value.Undefined;
  index = pos 0;
  length = pos 0;
  units = [];
  list = [];
}

-- an argument; one that is missing is undefined
abbrev pub value_or_undefined : Option Value → Value
value_or_undefined None = value.Undefined
value_or_undefined (Some v) = v

abbrev pub arg : BuiltinCall → ℕ → Value
arg c i = value_or_undefined (slice_get c.args i)

-- what one turn leaves of the call, and what it wants
pub record Turn : Type 0 where
  pub call : BuiltinCall
  pub want : Want

-- the same with the heap, where the turn changes it
pub record Effect : Type 0 where
  pub call : BuiltinCall
  pub heap : Heap
  pub want : Want

-- an answer that leaves the call as it is
pub record Answered : Type 0 where
  pub heap : Heap
  pub want : Want

abbrev pub answered : BuiltinCall → Answered → Effect
answered c a = record { call = c; heap = a.heap; want = a.want }

-- the call ends
abbrev pub over : BuiltinCall → Want → Turn
over c w = record { call = c; want = w }

abbrev pub gives : BuiltinCall → Value → Turn
gives c v = over c (want.Done v)

abbrev pub throws : BuiltinCall → ErrorKind → Turn
throws c e = over c (want.Throws e)

abbrev pub leaves : BuiltinCall → ℕ → Turn
leaves c x = over c (want.Leaves x)

-- the call goes on at a place, once it has what it wants
abbrev pub goes : BuiltinCall → Place → Want → Turn
goes c p w = record { call = record c { place = p }; want = w }

abbrev pub still : Heap → Turn → Effect
still heap turn = record { call = turn.call; heap = heap; want = turn.want }

-- a sum of indices and lengths, which are safe numbers
abbrev pub number_or_zero : Result ℤ Exit → ℤ
number_or_zero (Ok n) = n
number_or_zero (Err x) = pos 0

abbrev pub plus : ℤ → ℤ → ℤ
plus a b = number_or_zero (sum a b)

abbrev pub text_in : Value → List ℕ
text_in (value.Text us) = us
text_in _ = []

abbrev pub number_in : Value → ℤ
number_in (value.Number n) = n
number_in _ = pos 0

abbrev pub is_undefined : Value → Bool
is_undefined value.Undefined = true
is_undefined _ = false

-- a position that is missing counts as 0
abbrev pub position : Value → Value
position v = if is_undefined v then value.Number (pos 0) else v

abbrev pub index_key : ℤ → Key
index_key n = to_key (value.Number n)

-- the object of a receiver
abbrev pub object_in : Value → ObjId
object_in (value.Object id) = id
object_in _ = record { 0 = 0 }
