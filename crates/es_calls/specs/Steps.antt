-- One step of a call of a function of the library: a turn of the function, or a receipt of what a conversion asked for.
use Rattle.std.specs.Prelude.{ℕ, ℤ, Bool, true, false, if◌then◌else◌, List, [], ◌∷◌, Result, Ok, Err}
use Rattle.es_value.specs.declared.arithmetic.Exit.{Exit}
use Rattle.es_value.specs.declared.value.ObjId.{ObjId}
use Rattle.es_value.specs.declared.value.Value.{Value}
use Rattle.es_value.specs.declared.value.Value.TheVariants as value
use Rattle.es_value.specs.Arithmetic.{exit_number}
use Rattle.es_value.specs.Convert.{number_of, text_of}
use Rattle.es_heap.specs.declared.key.Key.{Key}
use Rattle.es_heap.specs.declared.key.Key.TheVariants.{Text}
use Rattle.es_heap.specs.Heaps.{Heap}
use Rattle.es_realm.specs.declared.edition.Edition.{Edition}
use Rattle.es_realm.specs.declared.access.Read.{Read}
use Rattle.es_realm.specs.declared.access.Read.TheVariants as read
use Rattle.es_realm.specs.Access.{read_value}
use Rattle.es_operators.specs.declared.conversion.Hint.{Hint}
use Rattle.es_operators.specs.declared.conversion.Hint.TheVariants as hint
use Rattle.es_operators.specs.declared.conversion.Conversion.{Conversion}
use Rattle.es_operators.specs.declared.conversion.Need.{Need}
use Rattle.es_operators.specs.declared.conversion.Need.TheVariants as need
use Rattle.es_operators.specs.Primitives.{is_object}
use Rattle.es_operators.specs.Conversions.{Attempt, begun, next_method, method_given, name_tried}
use Rattle.es_calls.specs.declared.call.BuiltinCall.{BuiltinCall}
use Rattle.es_calls.specs.declared.call.Pending.{Pending}
use Rattle.es_calls.specs.declared.call.Pending.TheVariants as pending
use Rattle.es_calls.specs.declared.call.Want.{Want}
use Rattle.es_calls.specs.declared.call.Want.TheVariants as want
use Rattle.es_calls.specs.declared.call.BuiltinStep.{BuiltinStep}
use Rattle.es_calls.specs.declared.call.BuiltinStep.TheVariants as step
use Rattle.es_realm.specs.declared.errors.ErrorKind.TheVariants.{TypeError}
use Rattle.es_calls.specs.Calls.{Effect}

-- what a step leaves of the call, and what it answers
pub record Settled : Type 0 where
  pub call : BuiltinCall
  pub step : BuiltinStep

abbrev pub settled : BuiltinCall → BuiltinStep → Settled
settled c s = record { call = c; step = s }

-- the call has what it wanted
abbrev pub has : BuiltinCall → Value → Settled
has c v = settled (record c { pending = pending.Nothing; input = v }) step.Running

-- the call waits for an answer
abbrev pub waits : BuiltinCall → Pending → BuiltinStep → Settled
waits c p s = settled (record c { pending = p }) s

-- what a conversion asks for
abbrev pub settle_need : BuiltinCall → Conversion → Need → Settled
settle_need c conversion (need.Call f) = waits c (pending.Result conversion) (step.CallOut f (value.Object conversion.object) [])
settle_need c conversion (need.Getter g) = waits c (pending.Method conversion) (step.CallOut (value.Object g) (value.Object conversion.object) [])
settle_need c conversion (need.Binding id) = waits c (pending.Method conversion) (step.ReadOut id (Text (name_tried conversion.tried conversion.hint)))
settle_need c conversion need.Skip = settled c (step.Throws TypeError)
settle_need c conversion need.Fails = settled c (step.Throws TypeError)
settle_need c conversion (need.Leaves x) = settled c (step.Leaves x)

abbrev pub settle_attempt : BuiltinCall → Attempt → Settled
settle_attempt c attempt = settle_need c attempt.conversion attempt.need

-- a primitive, converted as the hint says (7.1.3 and 7.1.12)
abbrev pub settle_number : BuiltinCall → Result ℤ Exit → Settled
settle_number c (Ok n) = has c (value.Number n)
settle_number c (Err x) = settled c (step.Leaves (exit_number x))

abbrev pub settle_primitive : BuiltinCall → Hint → Value → Settled
settle_primitive c hint.Text v = has c (value.Text (text_of v))
settle_primitive c hint.Number v = settle_number c (number_of v)

-- ToString and ToNumber of a value
abbrev pub settle_conversion : Edition → Heap → BuiltinCall → Hint → Value → Settled
settle_conversion edition heap c hint (value.Object id) = settle_attempt c (next_method edition heap (begun id hint))
settle_conversion edition heap c hint v = settle_primitive c hint v

-- a read of a property
abbrev pub settle_read : BuiltinCall → Value → Key → Read → Settled
settle_read c base k (read.Have v) = has c v
settle_read c base k (read.Getter g) = waits c pending.Answer (step.CallOut (value.Object g) base [])
settle_read c base k (read.Binding id) = waits c pending.Answer (step.ReadOut id k)
settle_read c base k read.NoObject = settled c (step.Throws TypeError)
settle_read c base k (read.Leaves x) = settled c (step.Leaves x)

-- what a turn wants
abbrev pub settle : Edition → Heap → BuiltinCall → Want → Settled
settle edition heap c want.Again = waits c pending.Nothing step.Running
settle edition heap c (want.Text v) = settle_conversion edition heap c hint.Text v
settle edition heap c (want.Number v) = settle_conversion edition heap c hint.Number v
settle edition heap c (want.Get base k) = settle_read c base k (read_value edition heap base k)
settle edition heap c (want.Call f this args) = waits c pending.Answer (step.CallOut f this args)
settle edition heap c (want.Resume kind) = settled c (step.Resume kind)
settle edition heap c want.Unknown = settled c step.Unknown
settle edition heap c (want.Done v) = settled c (step.Done v)
settle edition heap c (want.Throws e) = settled c (step.Throws e)
settle edition heap c (want.Leaves x) = settled c (step.Leaves x)

-- what a conversion's method gave: a primitive is converted further, and after an object the next method is tried
abbrev pub receive_result : Edition → Heap → BuiltinCall → Conversion → Settled
receive_result edition heap c conversion =
    if is_object c.input then settle_attempt c (next_method edition heap conversion) else settle_primitive c conversion.hint c.input
