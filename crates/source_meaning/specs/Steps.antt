-- How a step is said.
use Rattle.std.specs.Prelude.{List, None, Option, Some, ℕ, ◌∷◌}
use Rattle.runs.specs.Run.{Goes, Leaves, Step}
use Rattle.shared_meaning.specs.Ending.{Exit, Finish}
use Rattle.es_outside.specs.declared.events.Event.{Event}
use Rattle.es_outside.specs.declared.events.Site.{Site}
use Rattle.es_outside.specs.declared.host.Reply.{Reply}
use Rattle.es_value.specs.declared.value.Value.{Value}
use Rattle.es_value.specs.declared.value.Value.TheVariants as value
use Rattle.es_heap.specs.Heaps.{Heap, next_id}
use Rattle.es_realm.specs.Errors.{with_error}
use Rattle.es_realm.specs.declared.errors.ErrorKind.{ErrorKind}
use Rattle.es_operations.specs.Steps.{operation}
use Rattle.es6_ast.specs.declared.tree.Expression.{Expression}
use Rattle.source_meaning.specs.State.{Begin, Call, Calls, Completion, Configuration, Control, Environment, Frame, Gives, Hand, Refer, Reference, Refers, State, Throws, Turn, Work}

abbrev pub Next : Type 0
Next = Step Configuration Event Reply Finish Exit

-- ---- the running context

abbrev pub with_frames : List Frame → State → State
with_frames fs st = record st { context = record st.context { frames = fs } }

-- work of the node that acts
abbrev pub pushed : Work → State → State
pushed w st = with_frames (record { place = st.context.place; work = w } ∷ st.context.frames) st

abbrev pub at_place : Site → State → State
at_place site st = record st { context = record st.context { place = site } }

-- a node that begins here acts
abbrev pub at_node : ℕ → State → State
at_node at st = at_place (record { «module» = st.context.home; at = at }) st

abbrev pub within : Environment → State → State
within e st = record st { context = record st.context { environment = e } }

abbrev pub with_heap : Heap → State → State
with_heap heap st = record st { heap = heap }

-- ---- steps

abbrev pub with_control : Control → State → Configuration
with_control control st = record { state = st; control = control }

abbrev pub controls : Control → State → Next
controls control st = Goes (with_control control st)

abbrev pub hands : Completion → State → Next
hands completion st = controls (Hand completion) st

abbrev pub gives : Value → State → Next
gives v st = hands (Gives v) st

abbrev pub refers_to : Reference → State → Next
refers_to r st = hands (Refers r) st

-- an expression is evaluated for this work, or a reference to what it names
abbrev pub begins : Work → Expression → State → Next
begins w x st = controls (Begin x) (pushed w st)

abbrev pub refers : Work → Expression → State → Next
refers w x st = controls (Refer x) (pushed w st)

-- an operation is begun, whose result is handed to the top frame, or to this work
abbrev pub turns : ℕ → Value → List Value → State → Next
turns n base operands st = controls (Turn (operation n base operands)) st

abbrev pub operates : Work → ℕ → Value → List Value → State → Next
operates w n base operands st = turns n base operands (pushed w st)

abbrev pub calls : Work → Call → State → Next
calls w c st = controls (Calls c) (pushed w st)

abbrev pub due : Value → Value → List Value → Option Value → Call
due f receiver args target = record { function = f; receiver = receiver; args = args; target = target }

-- a new error is thrown
abbrev pub raises : ErrorKind → State → Next
raises kind st = hands (Throws (value.Object (next_id st.heap))) (with_heap (with_error st.heap kind) st)

-- an exit of the profile
abbrev pub leaves : ℕ → State → Next
leaves n st = Leaves (record { number = n; site = st.context.place })

-- no accepted program comes here
abbrev pub impossible : State → Next
impossible st = leaves 0 st

abbrev pub with_some : {A : Type 0} → Option A → State → (A → Next) → Next
with_some None st f = impossible st
with_some (Some x) st f = f x
