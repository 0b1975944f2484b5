use Rattle.module_order.proofs.Walks.{Walks, to_do}
use Rattle.module_order.proofs.order.evaluation_order.Given as goal

abbrev pub invariant-loop-frame : goal.invariant-loop-frame
invariant-loop-frame l = Walks l.graph l.entry l.walk

abbrev pub decreases-loop-frame : goal.decreases-loop-frame
decreases-loop-frame l = to_do l.graph l.walk
