-- What the machine is handed for what scripts don't have, and how a step is said.
use Rattle.std.specs.Prelude.{Bool, List, None, Option, Some, [], length, option_map, ℕ, ◌++◌, ◌∷◌}
use Rattle.runs.specs.Run.{Goes, Leaves, Step}
use Rattle.shared_meaning.specs.Ending.{Exit, Finish}
use Rattle.es_outside.specs.declared.events.Event.{Event}
use Rattle.es_outside.specs.declared.events.Site.{Site}
use Rattle.es_outside.specs.declared.host.Reply.{Reply}
use Rattle.es_value.specs.declared.value.ObjId.{ObjId}
use Rattle.es_value.specs.declared.value.Value.{Value}
use Rattle.es_value.specs.declared.value.Value.TheVariants as value
use Rattle.es_heap.specs.Heaps.{Heap, next_id}
use Rattle.es_heap.specs.declared.key.Key.{Key}
use Rattle.es_realm.specs.Errors.{with_error}
use Rattle.es_realm.specs.declared.edition.Edition.{Edition}
use Rattle.es_realm.specs.declared.errors.ErrorKind.{ErrorKind}
use Rattle.es_calls.specs.declared.call.Resumption.{Resumption}
use Rattle.es_operations.specs.Steps.{operation}
use Rattle.core_ast.specs.declared.parts.CoreHead.{CoreHead}
use Rattle.core_ast.specs.declared.parts.FunctionId.{FunctionId}
use Rattle.core_ast.specs.declared.parts.ScopedName.{ScopedName}
use Rattle.core_ast.specs.declared.parts.Var.{Var}
use Rattle.core_ast.specs.declared.tree.CoreExpr.{CoreExpr}
use Rattle.core_ast.specs.declared.tree.CoreLink.{CoreLink}
use Rattle.core_ast.specs.declared.tree.CoreStat.{CoreStat}
use Rattle.core_ast.specs.declared.whole.CoreFunction.{CoreFunction}
use Rattle.core_meaning.specs.State.{Begin, Binding, Call, Calls, Closure, Completion, Configuration, Control, CoreValue, Current, Environment, Extra, Frame, Go, Hand, Has, Operation, Part, Run, Sorts, State, Strict, Throws, Turn, User}

abbrev pub Next : Sorts → Type 0 → Type 0
Next s S = Step (Configuration s S) Event Reply Finish Exit

-- a value, and what its making leaves
pub record Given (s : Sorts) (S : Type 0) : Type 0 where
  pub value : CoreValue s.Mark
  pub state : State s S

-- what the context of a call keeps besides, what its record has besides, and what entering leaves
pub record Entered (s : Sorts) (S : Type 0) : Type 0 where
  pub own : s.Own
  pub names : List (Binding s.Mark)
  pub state : State s S

-- The one parameter of the machine.
pub record Rows (s : Sorts) (S : Type 0) : Type 0 where
  pub edition : Edition
  -- what `this` is
  pub this : State s S → CoreValue s.Mark
  -- what a written name of a property refers to
  pub named : Value → List ℕ → Current s.Mark
  -- the closure of a function
  pub closure : FunctionId → CoreFunction → State s S → Given s S
  -- what the context and the record of a call have besides
  pub entered : Closure s.Own → CoreFunction → Call → State s S → Entered s S
  -- runs a function once its record is there
  pub body : CoreFunction → State s S → Next s S
  -- the bindings of names at the entry of their scope
  pub scoped : List ScopedName → List (Binding s.Mark)
  -- the exit at a name that nothing binds; where there is none it is a ReferenceError
  pub unbound : Var → Option ℕ
  -- heads, operations and statements that scripts don't have
  pub head : CoreHead → List CoreLink → State s S → Next s S
  pub act : Strict s.Mark → State s S → Next s S
  pub stat : CoreStat → State s S → Next s S
  -- what is handed to pending work
  pub work : s.Work → Completion s.Mark → State s S → Next s S
  -- a method of generators is called, and a namespace object is asked for a name, or only whether it has it
  pub resume : Resumption → Value → Value → State s S → Next s S
  pub read_out : Bool → ObjId → Key → State s S → Next s S

-- ---- the top context

abbrev pub with_frames : {s : Sorts} {S : Type 0} → List (Frame s.Mark s.Work) → State s S → State s S
with_frames fs st = record st { context = record st.context { frames = fs } }

abbrev pub pushed : {s : Sorts} {S : Type 0} → Frame s.Mark s.Work → State s S → State s S
pushed f st = with_frames (f ∷ st.context.frames) st

abbrev pub within : {s : Sorts} {S : Type 0} → Environment → State s S → State s S
within e st = record st { context = record st.context { environment = e } }

abbrev pub with_heap : {s : Sorts} {S : Type 0} → Heap → State s S → State s S
with_heap heap st = record st { heap = heap }

-- a new record, which is the innermost of the scope
abbrev pub with_record : {s : Sorts} {S : Type 0} → List (Binding s.Mark) → State s S → State s S
with_record bindings st =
    within (length st.records ∷ st.context.environment) (record st { records = st.records ++ bindings ∷ [] })

-- ---- where a step stands: the innermost call under way has a site, or the context was made by one

abbrev pub site_in : {M W : Type 0} → Frame M W → Option Site
site_in (Part p) = p.site
site_in (Operation site c) = site
site_in f = None

abbrev pub or_else : {A : Type 0} → Option A → A → A
or_else None x = x
or_else (Some x) y = x

abbrev pub nearest : {M W : Type 0} → List (Frame M W) → Site → Site
nearest [] site = site
nearest (f ∷ fs) site = or_else (site_in f) (nearest fs site)

abbrev pub place_of : {s : Sorts} {S : Type 0} → State s S → Site
place_of st = nearest st.context.frames st.context.site

-- ---- steps

abbrev pub with_control : {s : Sorts} {S : Type 0} → Control s.Mark → State s S → Configuration s S
with_control control st = record { state = st; control = control }

abbrev pub controls : {s : Sorts} {S : Type 0} → Control s.Mark → State s S → Next s S
controls control st = Goes (with_control control st)

abbrev pub hands : {s : Sorts} {S : Type 0} → Completion s.Mark → State s S → Next s S
hands completion st = controls (Hand completion) st

abbrev pub goes : {s : Sorts} {S : Type 0} → Current s.Mark → List CoreLink → State s S → Next s S
goes current links st = controls (Go current links) st

-- the value goes on along the links
abbrev pub has : {s : Sorts} {S : Type 0} → Value → List CoreLink → State s S → Next s S
has v links st = goes (Has (User v)) links st

abbrev pub begins : {s : Sorts} {S : Type 0} → Frame s.Mark s.Work → CoreExpr → State s S → Next s S
begins frame x st = controls (Begin x) (pushed frame st)

abbrev pub runs : {s : Sorts} {S : Type 0} → Frame s.Mark s.Work → List CoreStat → State s S → Next s S
runs frame stats st = controls (Run stats) (pushed frame st)

abbrev pub calls : {s : Sorts} {S : Type 0} → Frame s.Mark s.Work → Call → State s S → Next s S
calls frame c st = controls (Calls c) (pushed frame st)

-- an operation is begun, whose result goes to the frame
abbrev pub operates : {s : Sorts} {S : Type 0} → Frame s.Mark s.Work → ℕ → Value → List Value → State s S → Next s S
operates frame n base operands st = controls (Turn None (operation n base operands)) (pushed frame st)

-- a new error is thrown
abbrev pub raises : {s : Sorts} {S : Type 0} → ErrorKind → State s S → Next s S
raises kind st = hands (Throws (value.Object (next_id st.heap))) (with_heap (with_error st.heap kind) st)

abbrev pub leaves : {s : Sorts} {S : Type 0} → ℕ → State s S → Next s S
leaves n st = Leaves (record { number = n; site = place_of st })

-- no lawful core comes here
abbrev pub unlawful : {s : Sorts} {S : Type 0} → State s S → Next s S
unlawful st = leaves 0 st

-- ---- values of the program

abbrev pub with_user : {s : Sorts} {S : Type 0} → CoreValue s.Mark → State s S → (Value → Next s S) → Next s S
with_user (User v) st f = f v
with_user (Extra m) st f = unlawful st

abbrev pub with_option : {s : Sorts} {S A : Type 0} → Option A → State s S → (A → Next s S) → Next s S
with_option None st f = unlawful st
with_option (Some x) st f = f x

abbrev pub cons_user : {M : Type 0} → CoreValue M → Option (List Value) → Option (List Value)
cons_user (Extra m) vs = None
cons_user (User v) vs = option_map (λ vs. v ∷ vs) vs

abbrev pub users : {M : Type 0} → List (CoreValue M) → Option (List Value)
users [] = Some []
users (x ∷ xs) = cons_user x (users xs)
