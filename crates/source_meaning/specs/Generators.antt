-- Generators (ECMA-262, 6th edition, 14.4 and 25.3), with contexts that are saved.
use Rattle.std.specs.Prelude.{Bool, List, [], codes, false, if◌then◌else◌, length, slice_get, slice_set, true, ℕ, ◌++◌, ◌∷◌}
use Rattle.es_value.specs.declared.value.ObjId.{ObjId}
use Rattle.es_value.specs.declared.value.Value.{Value}
use Rattle.es_value.specs.declared.value.Value.TheVariants as value
use Rattle.es_heap.specs.Heaps.{next_id, object_at}
use Rattle.es_heap.specs.declared.class.Class.{Class as ObjectClass}
use Rattle.es_heap.specs.declared.class.Class.TheVariants as class
use Rattle.es_realm.specs.declared.errors.ErrorKind.TheVariants.{TypeError}
use Rattle.es_operators.specs.Primitives.{truth_of}
use Rattle.es_calls.specs.Making.{result_heap}
use Rattle.es_calls.specs.declared.call.Resumption.{Resumption}
use Rattle.es_calls.specs.declared.call.Resumption.TheVariants as resumption
use Rattle.es_operations.specs.Making.{made_generator}
use Rattle.es_operations.specs.Numbers as number
use Rattle.es6_ast.specs.declared.tree.Statement.{Statement}
use Rattle.source_meaning.specs.State.{AtStart, AtYield, Completed, Completion, Context, DelegateDone, DelegateIterator, DelegateResult, DelegateValue, Delegated, Executing, Frame, Generates, Generator, GeneratorStart, Gives, Resumes, Returns, Run, State, Throws, Work}
use Rattle.source_meaning.specs.Steps.{Next, controls, gives, hands, impossible, operates, pushed, raises, with_frames, with_heap, with_some}

abbrev pub with_generators : List Generator → State → State
with_generators gs st = record st { generators = gs }

abbrev pub with_generator : ℕ → Generator → State → State
with_generator n g st = with_generators (slice_set st.generators n g) st

-- the context, with this work on top
abbrev pub saved_with : Work → State → Context
saved_with w st = (pushed w st).context

-- ---- a call (14.4.11, 25.3.3.1): behind the parameters the object is made, and the body waits

abbrev pub made_with : ObjId → Context → State → State
made_with proto saved st =
    with_generators (st.generators ++ AtStart saved ∷ []) (with_heap (made_generator st.heap proto (length st.generators)) st)

abbrev pub generator_made : List Statement → State → Value → Next
generator_made body st (value.Object proto) =
    hands (Returns (value.Object (next_id st.heap))) (made_with proto (saved_with (GeneratorStart body) (with_frames [] st)) st)
generator_made body st v = impossible st

-- ---- resuming (25.3.3.2 to 25.3.3.4): one that runs is a TypeError; at its start and behind its end it doesn't run

abbrev pub results : Value → Bool → State → Next
results v over st = gives (value.Object (next_id st.heap)) (with_heap (result_heap st.heap v over) st)

abbrev pub completed : Resumption → Value → State → Next
completed resumption.Next v st = results value.Undefined true st
completed resumption.Return v st = results v true st
completed resumption.Throw v st = hands (Throws v) st

abbrev pub continues : ℕ → Context → Resumption → Value → State → Next
continues n saved kind v st =
    let waiting = (pushed (Generates n) st).context in
    hands (Resumes kind v) (record (with_generator n Executing st) { callers = waiting ∷ st.callers; context = saved })

abbrev pub from_start : ℕ → Context → Resumption → Value → State → Next
from_start n saved resumption.Next v st = continues n saved resumption.Next v st
from_start n saved kind v st = completed kind v (with_generator n Completed st)

abbrev pub resume_by : ℕ → Resumption → Value → State → Generator → Next
resume_by n kind v st (AtStart saved) = from_start n saved kind v st
resume_by n kind v st (AtYield saved) = continues n saved kind v st
resume_by n kind v st Executing = raises TypeError st
resume_by n kind v st Completed = completed kind v st

abbrev pub resume_class : Resumption → Value → State → ObjectClass → Next
resume_class kind v st (class.Generator n) = with_some (slice_get st.generators n) st (resume_by n kind v st)
resume_class kind v st k = raises TypeError st

abbrev pub resume : Resumption → Value → Value → State → Next
resume kind (value.Object id) v st = resume_class kind v st (object_at st.heap id).class
resume kind receiver v st = raises TypeError st

-- what a generator ends with is handed to its caller
abbrev pub generated : ℕ → State → Completion → Next
generated n st (Gives v) = results v true (with_generator n Completed st)
generated n st completion = hands completion (with_generator n Completed st)

-- ---- GeneratorYield (25.3.3.5): the context is saved with this work on top, and its caller goes on

abbrev pub handed_out : Bool → Value → State → Next
handed_out wraps v st = if wraps then results v false st else gives v st

abbrev pub yield_by : Work → Bool → Value → State → Context → List Context → List Frame → Work → Next
yield_by w wraps v st k ks fs (Generates n) =
    handed_out wraps v (record (with_generator n (AtYield (saved_with w st)) st) {
      context = record k { frames = fs };
      callers = ks;
    })
yield_by w wraps v st k ks fs other = impossible st

abbrev pub yield_to : Work → Bool → Value → State → Context → List Context → List Frame → Next
yield_to w wraps v st k ks [] = impossible st
yield_to w wraps v st k ks (f ∷ fs) = yield_by w wraps v st k ks fs f.work

abbrev pub yield_from : Work → Bool → Value → State → List Context → Next
yield_from w wraps v st [] = impossible st
yield_from w wraps v st (k ∷ ks) = yield_to w wraps v st k ks k.frames

-- a result object is made of the value, but by `yield*`
abbrev pub yields : Work → Bool → Value → State → Next
yields w wraps v st = yield_from w wraps v st st.callers

-- what a resumption is at a yield
abbrev pub arrives : State → Resumption → Value → Next
arrives st resumption.Next v = gives v st
arrives st resumption.Return v = hands (Returns v) st
arrives st resumption.Throw v = hands (Throws v) st

abbrev pub starts : List Statement → State → Next
starts body st = controls (Run body) st

-- ---- `yield*` (14.4.14): inner results are handed on as they are

abbrev pub delegate : State → Value → Next
delegate st v = operates DelegateIterator number.get_iterator_number v [] st

abbrev pub delegate_number : Resumption → ℕ
delegate_number resumption.Next = number.delegate_next_number
delegate_number resumption.Return = number.delegate_return_number
delegate_number resumption.Throw = number.delegate_throw_number

abbrev pub delegate_turn : Value → State → Resumption → Value → Next
delegate_turn iterator st kind v =
    operates (DelegateResult iterator kind v) (delegate_number kind) iterator (v ∷ []) st

-- an iterator without `return` gives undefined, and the generator returns
abbrev pub delegate_given : Value → Resumption → Value → State → Value → Next
delegate_given iterator kind v st (value.Object result) =
    operates (DelegateDone iterator kind (value.Object result)) number.get_number (value.Object result)
    (value.Text (codes "done") ∷ []) st
delegate_given iterator kind v st other = hands (Returns v) st

abbrev pub delegate_done : Value → Resumption → Value → State → Value → Next
delegate_done iterator kind result st v =
    if truth_of v
    then operates (DelegateValue kind) number.get_number result (value.Text (codes "value") ∷ []) st
    else yields (Delegated iterator) false result st

abbrev pub delegate_value : Resumption → State → Value → Next
delegate_value resumption.Return st v = hands (Returns v) st
delegate_value kind st v = gives v st
