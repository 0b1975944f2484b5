-- Generators (ECMA-262, 6th edition, 14.4 and 25.3), with contexts that are saved, and from the states on with a step.
use Rattle.std.specs.Ordering.{int_eq}
use Rattle.std.specs.Prelude.{Bool, List, None, Option, Some, [], codes, false, if◌then◌else◌, length, nat_eq, pos, slice_get, slice_set, true, ℕ, ℤ, ◌++◌, ◌∷◌}
use Rattle.es_value.specs.declared.value.ObjId.{ObjId}
use Rattle.es_value.specs.declared.value.Value.{Value}
use Rattle.es_value.specs.declared.value.Value.TheVariants as value
use Rattle.es_heap.specs.Heaps.{next_id, object_at}
use Rattle.es_heap.specs.declared.class.Class.{Class}
use Rattle.es_heap.specs.declared.class.Class.TheVariants as class
use Rattle.es_realm.specs.Names.{generator_prototype}
use Rattle.es_realm.specs.declared.errors.ErrorKind.TheVariants.{TypeError}
use Rattle.es_operators.specs.Primitives.{truth_of}
use Rattle.es_calls.specs.Making.{result_heap}
use Rattle.es_calls.specs.declared.call.Resumption.{Resumption}
use Rattle.es_calls.specs.declared.call.Resumption.TheVariants as resumption
use Rattle.es_operations.specs.Making.{made_generator}
use Rattle.es_operations.specs.Numbers as number
use Rattle.core_ast.specs.Lawful.{is_generator}
use Rattle.core_ast.specs.declared.parts.FunctionId.{FunctionId}
use Rattle.core_ast.specs.declared.parts.Var.{Var}
use Rattle.core_ast.specs.declared.tree.CoreExpr.{CoreExpr}
use Rattle.core_ast.specs.declared.tree.CoreLink.{CoreLink}
use Rattle.core_ast.specs.declared.tree.CoreStat.{CoreStat}
use Rattle.core_ast.specs.declared.whole.Core.{Core}
use Rattle.core_ast.specs.declared.whole.CoreFunction.{CoreFunction}
use Rattle.core_ast.specs.declared.whole.Resumption.{Resumption as Names}
use Rattle.core_meaning.specs.Calls.{binding}
use Rattle.core_meaning.specs.Classes.{closure_at}
use Rattle.core_meaning.specs.Expressions.{function_at, with_current}
use Rattle.core_meaning.specs.Marks.{Arguments, AtStart, AtYield, Completed, CoreNext, CoreState, CoreStrict, CoreWork, DelegateDone, DelegateStart, DelegateTurn, DelegateValue, Delegates, Executing, Generator, Instantiates, Resumed, Resumes, Starts, Stepping, Steps, YieldValue, YieldsAt, YieldsIn, with_store, Mark, Own}
use Rattle.core_meaning.specs.Names.{initialized}
use Rattle.core_meaning.specs.Rows.{begins, controls, hands, has, operates, pushed, raises, runs, unlawful, with_heap, with_option, with_record, within}
use Rattle.core_meaning.specs.State.{After, Binding, Closure, Completion, Context, CoreValue, Done, Environment, Extra, Frame, Gives, Returns, Run, Throws, User, Work}

abbrev pub with_generators : List Generator → CoreState → CoreState
with_generators gs st = with_store (record st.store { generators = gs }) st

abbrev pub with_generator : ℕ → Generator → CoreState → CoreState
with_generator n g st = with_generators (slice_set st.store.generators n g) st

-- ---- a call (14.4.11): behind the parameters the generator is made, with what the body needs saved

-- from the states on the body makes it itself
abbrev pub body_by : CoreFunction → CoreState → Option Names → CoreNext
body_by f st None = runs (Work (Instantiates f.body)) f.setup st
body_by f st (Some names) = controls (Run (f.setup ++ f.body)) st

abbrev pub run_body : CoreFunction → CoreState → CoreNext
run_body f st = if is_generator f.kind then body_by f st f.resumption else controls (Run (f.setup ++ f.body)) st

-- 9.1.14: the prototype is that of the function
abbrev pub reads_prototype : CoreWork → CoreState → CoreNext
reads_prototype w st =
    operates (Work w) number.prototype_of_number st.context.own.callee (value.Object generator_prototype ∷ []) st

-- the object of the next generator
abbrev pub new_generator : ObjId → Context Mark Own CoreWork → CoreState → CoreState
new_generator proto saved st =
    with_generators (st.store.generators ++ AtStart saved ∷ [])
    (with_heap (made_generator st.heap proto (length st.store.generators)) st)

abbrev pub saved_with : List (Frame Mark CoreWork) → CoreState → Context Mark Own CoreWork
saved_with frames st = record st.context { frames = frames }

abbrev pub generator_made : List CoreStat → CoreState → Value → CoreNext
generator_made stats st (value.Object proto) =
    hands (Returns (User (value.Object (next_id st.heap)))) (new_generator proto (saved_with (Work (Starts stats) ∷ []) st) st)
generator_made stats st v = unlawful st

-- the same as an expression of the body: its step is what is saved
abbrev pub waiting : Closure Own → CoreState → Context Mark Own CoreWork
waiting c st = saved_with (Work (Steps c.function st.context.environment) ∷ []) st

abbrev pub step_made : List CoreLink → CoreState → Value → CoreNext
step_made links st (value.Object proto) = with_option (closure_at st st.context.own.callee) st
    (λ c. has (value.Object (next_id st.heap)) links (new_generator proto (waiting c st) st))
step_made links st v = unlawful st

-- ---- resuming (25.3.3.2 to 25.3.3.4): one that runs is a TypeError; at its start and behind its end it doesn't run

abbrev pub results : Value → Bool → CoreState → CoreNext
results v over st =
    hands (Gives (User (value.Object (next_id st.heap)))) (with_heap (result_heap st.heap v over) st)

abbrev pub completed : Resumption → Value → CoreState → CoreNext
completed resumption.Next v st = results value.Undefined true st
completed resumption.Return v st = results v true st
completed resumption.Throw v st = hands (Throws v) st

abbrev pub continues : ℕ → Context Mark Own CoreWork → Resumption → Value → CoreState → CoreNext
continues n saved kind v st = hands (Gives (Extra (Resumed kind v))) (record (with_generator n Executing (pushed (Work (Resumes n)) st)) {
  callers = (pushed (Work (Resumes n)) st).context ∷ st.callers;
  context = saved;
})

abbrev pub from_start : ℕ → Context Mark Own CoreWork → Resumption → Value → CoreState → CoreNext
from_start n saved resumption.Next v st = continues n saved resumption.Next v st
from_start n saved kind v st = completed kind v (with_generator n Completed st)

abbrev pub resume_by : ℕ → Resumption → Value → CoreState → Generator → CoreNext
resume_by n kind v st (AtStart saved) = from_start n saved kind v st
resume_by n kind v st (AtYield saved) = continues n saved kind v st
resume_by n kind v st Executing = raises TypeError st
resume_by n kind v st Completed = completed kind v st

abbrev pub resume_class : Resumption → Value → CoreState → Class → CoreNext
resume_class kind v st (class.Generator n) = with_option (slice_get st.store.generators n) st (resume_by n kind v st)
resume_class kind v st k = raises TypeError st

abbrev pub resume : Resumption → Value → Value → CoreState → CoreNext
resume kind (value.Object id) v st = resume_class kind v st (object_at st.heap id).class
resume kind receiver v st = raises TypeError st

-- the caller of a generator gets what this one ends with
abbrev pub resumed : ℕ → CoreState → Completion Mark → CoreNext
resumed n st (Gives (User v)) = results v true (with_generator n Completed st)
resumed n st completion = hands completion (with_generator n Completed st)

-- ---- yielding (25.3.3.5): the context is saved with this frame on top, and its caller goes on

abbrev pub yield_to : Frame Mark CoreWork → Bool → Value → CoreState → Context Mark Own CoreWork → List (Context Mark Own CoreWork) → List (Frame Mark CoreWork) → CoreNext
yield_to frame wraps v st k ks (Work (Resumes n) ∷ fs) =
    let out = record (with_generator n (AtYield (saved_with (frame ∷ st.context.frames) st)) st) {
      context = record k { frames = fs };
      callers = ks;
    } in
    if wraps then results v false out else hands (Gives (User v)) out
yield_to frame wraps v st k ks fs = unlawful st

abbrev pub yield_from : Frame Mark CoreWork → Bool → Value → CoreState → List (Context Mark Own CoreWork) → CoreNext
yield_from frame wraps v st [] = unlawful st
yield_from frame wraps v st (k ∷ ks) = yield_to frame wraps v st k ks k.frames

abbrev pub yields : Frame Mark CoreWork → Bool → Value → CoreState → CoreNext
yields frame wraps v st = yield_from frame wraps v st st.callers

-- what a resumption is at a yield (25.3.3.5, 14.4.14)
abbrev pub arrives : List CoreLink → CoreState → Resumption → Value → CoreNext
arrives links st resumption.Next v = has v links st
arrives links st resumption.Return v = hands (Returns (User v)) st
arrives links st resumption.Throw v = hands (Throws v) st

abbrev pub with_resumed : CoreValue Mark → CoreState → (Resumption → Value → CoreNext) → CoreNext
with_resumed (Extra (Resumed kind v)) st f = f kind v
with_resumed v st f = unlawful st

abbrev pub starts : List CoreStat → CoreState → CoreNext
starts stats st = controls (Run stats) st

-- `yield` in an expression
abbrev pub yield : CoreStrict → CoreState → CoreNext
yield p st = with_current p.current st (λ v. yields (Work (YieldsIn p.links)) true v st)

-- ---- `yield*` (14.4.14): inner results are handed on as they are

abbrev pub delegate : CoreStrict → CoreState → CoreNext
delegate p st = with_current p.current st (λ v. operates (Work (DelegateStart p.links)) number.get_iterator_number v [] st)

abbrev pub delegate_number : Resumption → ℕ
delegate_number resumption.Next = number.delegate_next_number
delegate_number resumption.Return = number.delegate_return_number
delegate_number resumption.Throw = number.delegate_throw_number

abbrev pub delegate_turn : Value → List CoreLink → CoreState → Resumption → Value → CoreNext
delegate_turn iterator links st kind v =
    operates (Work (DelegateTurn iterator kind v links)) (delegate_number kind) iterator (v ∷ []) st

-- an iterator without `return` gives undefined, and the generator returns
abbrev pub delegate_turned : Value → Resumption → Value → List CoreLink → CoreState → Value → CoreNext
delegate_turned iterator kind v links st (value.Object result) =
    operates (Work (DelegateDone iterator kind (value.Object result) links)) number.get_number (value.Object result)
    (value.Text (codes "done") ∷ []) st
delegate_turned iterator kind v links st r = hands (Returns (User v)) st

abbrev pub delegate_done : Value → Resumption → Value → List CoreLink → CoreState → Value → CoreNext
delegate_done iterator kind result links st v =
    if truth_of v
    then operates (Work (DelegateValue kind links)) number.get_number result (value.Text (codes "value") ∷ []) st
    else yields (Work (Delegates iterator links)) false result st

abbrev pub delegate_value : Resumption → List CoreLink → CoreState → Value → CoreNext
delegate_value resumption.Return links st v = hands (Returns (User v)) st
delegate_value kind links st v = has v links st

-- DelegateStep as a primitive: the iterator, the kind, and what is handed in
abbrev pub kind_of : ℤ → Resumption
kind_of n = if int_eq n (pos 0) then resumption.Next else if int_eq n (pos 1) then resumption.Throw else resumption.Return

abbrev pub delegate_step : CoreStrict → CoreState → List (CoreValue Mark) → CoreNext
delegate_step p st (User (value.Number n) ∷ User v ∷ []) = with_current p.current st
    (λ iterator. operates (After p.links) (delegate_number (kind_of n)) iterator (v ∷ []) st)
delegate_step p st vs = unlawful st

-- ---- yield statements, which keep what they are resumed with in names

abbrev pub yield_stat : CoreExpr → Option Var → Var → CoreState → CoreNext
yield_stat x kind result st = begins (Work (YieldValue kind result)) x st

abbrev pub wraps : Option Var → Bool
wraps None = true
wraps (Some kind) = false

abbrev pub yield_given : Option Var → Var → CoreState → Value → CoreNext
yield_given kind result st v = yields (Work (YieldsAt kind result)) (wraps kind) v st

abbrev pub kind_value : Resumption → Value
kind_value resumption.Next = value.Number (pos 0)
kind_value resumption.Throw = value.Number (pos 1)
kind_value resumption.Return = value.Number (pos 2)

abbrev pub stores : Var → Value → CoreState → CoreState
stores x v st = initialized x (User v) st

abbrev pub yield_arrives : Var → CoreState → Resumption → Value → CoreNext
yield_arrives result st resumption.Next v = hands Done (stores result v st)
yield_arrives result st resumption.Return v = hands (Returns (User v)) st
yield_arrives result st resumption.Throw v = hands (Throws v) st

abbrev pub yield_resumed : Option Var → Var → CoreState → Resumption → Value → CoreNext
yield_resumed None result st kind v = yield_arrives result st kind v
yield_resumed (Some x) result st kind v = hands Done (stores result v (stores x (kind_value kind) st))

-- ---- steps: each turn has a record with what it is resumed with, and gives how it ends, and a value

abbrev pub names_of_turn : Option Names → Resumption → Value → List (Binding Mark)
names_of_turn None kind v = []
names_of_turn (Some names) kind v = binding names.kind (User (kind_value kind)) ∷ binding names.value (User v) ∷ []

abbrev pub step_turn : Core → FunctionId → Environment → CoreState → Resumption → Value → CoreNext
step_turn core f e st kind v = with_option (function_at core f) st (λ function.
    controls (Run function.step) (with_record (names_of_turn function.resumption kind v) (within e (pushed (Work (Stepping f e)) st))))

-- 0 a value, 1 a result object, 2 a return
abbrev pub step_ended : FunctionId → Environment → CoreState → ℤ → Value → CoreNext
step_ended f e st (pos n) v =
    if nat_eq n 2 then hands (Returns (User v)) (within e st)
    else yields (Work (Steps f e)) (nat_eq n 0) v (within e st)
step_ended f e st n v = unlawful st

abbrev pub stepped_out : FunctionId → Environment → CoreState → Completion Mark → CoreNext
stepped_out f e st (Returns (Extra (Arguments (value.Number n ∷ v ∷ [])))) = step_ended f e st n v
stepped_out f e st (Throws v) = hands (Throws v) st
stepped_out f e st completion = unlawful st
