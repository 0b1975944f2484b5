use Rattle.std.proofs.Common.{◌≡◌, ◌-◌, ◌≤◌, length, take}
use Rattle.graph_namespaces.proofs.hosts.names_of.Given as goal

abbrev pub invariant-loop-index : goal.invariant-loop-index
invariant-loop-index l = (l.names ≡ take l.index l.hosts) × (l.index ≤ length l.hosts)

abbrev pub decreases-loop-index : goal.decreases-loop-index
decreases-loop-index l = length l.hosts - l.index
