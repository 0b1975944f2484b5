use Rattle.graph_namespaces.proofs.Sharing.{AskTo}
use Rattle.graph_namespaces.proofs.asked.asked_of.Given as goal

abbrev pub invariant-loop-index : goal.invariant-loop-index
invariant-loop-index l = AskTo l.known l.index l.asked
