use Rattle.std.proofs.Common.{◌≡◌, length}
use Rattle.source_statements.specs.Cases.{next_tested}
use Rattle.source_statements.proofs.switches.next_tested.Given as goal

abbrev pub invariant-loop-case : goal.invariant-loop-case
invariant-loop-case l = next_tested l.fn.cases ≡ next_tested l.rest

abbrev pub decreases-loop-case : goal.decreases-loop-case
decreases-loop-case l = length l.rest
