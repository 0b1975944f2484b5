use Rattle.std.proofs.Common.{◌≡◌, ℕ, List, drop, length}
use Rattle.module_endings.specs.declared.summary.Summary.{Summary}
use Rattle.module_endings.specs.Ends.{AreOutcomes, all_wants}
use Rattle.graph_namespaces.proofs.Sharing.{SharedTo}
use Rattle.graph_namespaces.proofs.namespaces.shared_out.Given as goal

abbrev pub invariant-loop-index : goal.invariant-loop-index
invariant-loop-index l =
    (length l.rest ≡ length (all_wants (drop l.index l.asked)))
    × ((modules : List Summary) (hosts : List (List ℕ)) → AreOutcomes modules hosts (all_wants l.asked) l.outcomes → SharedTo modules hosts l.count l.index l.asked l.rest l.all)
