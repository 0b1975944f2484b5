-- A generator that is taken out of the state, and resumed.
use Rattle.std.proofs.Common.{◌≡◌, ℕ, List, Some, sym, ap, ◌∙◌, slice_set}
use Rattle.std.specs.List.{slice_get}
use Rattle.es_calls.specs.declared.call.Resumption.{Resumption}
use Rattle.es_heap.specs.declared.class.Class.TheVariants as class
use Rattle.es_value.specs.declared.value.Value.{Value}
use Rattle.source_calls.specs.Resumptions.{resume_taken}
use Rattle.source_calls.proofs.Tables.{put_back, taken_some}
use Rattle.source_meaning.specs.Generators.{resume_by, resume_class}
use Rattle.source_meaning.specs.State.{Work}
use Rattle.source_meaning.specs.Steps.{with_some}
use Rattle.source_moves.specs.Seen.{generator_of, state_of}
use Rattle.source_state.specs.declared.state.Generator.{Generator}
use Rattle.source_state.specs.declared.state.State.{State}

-- another stands there while it is resumed
pub resumed_some : {W : Type 0} (seen : W → Work) (n : ℕ) (kind : Resumption) (v : Value) (st : State W) (g x : Generator W) (gs : List (Generator W)) → Some g ≡ slice_get st.generators n → gs ≡ slice_set st.generators n x → resume_class kind v (state_of seen st) (class.Generator n) ≡ resume_taken n kind v (generator_of seen g) (state_of seen (record st { generators = gs }))
resumed_some seen n kind v st g x gs e put =
    let s = state_of seen st in
    let back = put_back (generator_of seen) st.generators n g x (sym e) in
    rw put (ap (λ o. with_some o s (resume_by n kind v s)) (taken_some (generator_of seen) st.generators n g (sym e))
    ∙ ap (λ gens. resume_by n kind v (record s { generators = gens }) (generator_of seen g)) (sym back))
