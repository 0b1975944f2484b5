use Rattle.std.proofs.Common.{◌≡◌, ◌++◌, drop}
use Rattle.lower_walk.proofs.copies.copied_targets.Given as goal

abbrev pub invariant-loop-target : goal.invariant-loop-target
invariant-loop-target l = l.copies ++ drop l.target-index l.targets ≡ l.targets
