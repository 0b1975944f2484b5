use Rattle.std.proofs.Common.{◌≡◌, length}
use Rattle.core_state.specs.Bodies.{bodies}
use Rattle.core_state.proofs.stats.first_of.Given as goal

abbrev pub invariant-loop-case : goal.invariant-loop-case
invariant-loop-case l = bodies l.cases ≡ bodies l.rest

abbrev pub decreases-loop-case : goal.decreases-loop-case
decreases-loop-case l = length l.rest
