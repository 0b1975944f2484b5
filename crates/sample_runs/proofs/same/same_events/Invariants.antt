use Rattle.sample_runs.proofs.Alike.{AreAlike}
use Rattle.sample_runs.specs.Same.{IsSameEvent}
use Rattle.sample_runs.proofs.same.same_events.Given as goal

abbrev pub invariant-loop-at : goal.invariant-loop-at
invariant-loop-at g l = AreAlike (λ e f. IsSameEvent l.map.segments l.lines (g.P.Places.sites l.places) e f) l.script l.source l.at
