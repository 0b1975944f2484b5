use Rattle.std.proofs.Common.{take}
use Rattle.graph_namespaces.specs.Asked.{KeepsKeys}
use Rattle.graph_namespaces.proofs.reached.add_stars.Given as goal

abbrev pub invariant-loop-home : goal.invariant-loop-home
invariant-loop-home l = KeepsKeys (take l.home-index l.stars) l.initial.reached.keys l.reached.keys
