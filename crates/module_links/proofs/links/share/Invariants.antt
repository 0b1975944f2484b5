use Rattle.std.proofs.Common.{◌≡◌, ℕ, List, drop, length}
use Rattle.module_endings.specs.Ends.{AreOutcomes, all_wants}
use Rattle.module_links.specs.Links.{AreLinked, IsLinkable, graph_of}
use Rattle.module_links.proofs.links.share.Given as goal

abbrev pub invariant-loop-index : goal.invariant-loop-index
invariant-loop-index l =
    (length l.rest ≡ length (all_wants (drop l.index l.known.summaries)))
    × ((hosts : List (List ℕ)) → IsLinkable (graph_of l.modules) → AreOutcomes l.known.summaries hosts (all_wants l.known.summaries) l.outcomes
    → AreOutcomes l.known.summaries hosts (all_wants (drop l.index l.known.summaries)) l.rest × AreLinked (graph_of l.modules) hosts l.index l.all)
