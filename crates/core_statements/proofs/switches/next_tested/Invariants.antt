use Rattle.std.proofs.Common.{◌≡◌, drop}
use Rattle.core_statements.specs.Cases.{next_tested}
use Rattle.core_statements.proofs.switches.next_tested.Given as goal

abbrev pub invariant-loop-at : goal.invariant-loop-at
invariant-loop-at l = next_tested (drop l.at l.nodes) ≡ next_tested l.nodes
