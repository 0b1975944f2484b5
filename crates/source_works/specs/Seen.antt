-- The work of the definitions that pending work in code is, by what holds it.
use Rattle.source_state.specs.declared.work.Work.{Work}
use Rattle.source_takers.specs.Takers.{work_of}
use Rattle.source_takers.specs.declared.takers.Taker.{Taker}
use Rattle.source_works.specs.declared.pending.Pending.{Pending}

abbrev pub seen_of : {H : Type 0} → (H → Taker) → Pending H → Work
seen_of held p = work_of (held p.held)
