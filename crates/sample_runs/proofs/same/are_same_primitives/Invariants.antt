use Rattle.std.proofs.Common.{◌≡◌}
use Rattle.sample_runs.proofs.Alike.{AreAlike}
use Rattle.sample_runs.proofs.same.are_same_primitives.Given as goal

abbrev pub invariant-loop-at : goal.invariant-loop-at
invariant-loop-at l = AreAlike (λ x y. x ≡ y) l.a l.b l.at
