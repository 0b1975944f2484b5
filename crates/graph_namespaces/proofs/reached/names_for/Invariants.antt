use Rattle.std.proofs.Common.{◌-◌}
use Rattle.graph_namespaces.proofs.Asking.{AsksTo}
use Rattle.graph_namespaces.proofs.reached.names_for.Given as goal

abbrev pub invariant-loop-at : goal.invariant-loop-at
invariant-loop-at l = AsksTo l.known l.index l.at l.reached.keys l.names

abbrev pub decreases-loop-at : goal.decreases-loop-at
decreases-loop-at l = 9223372036854775808 - l.at
