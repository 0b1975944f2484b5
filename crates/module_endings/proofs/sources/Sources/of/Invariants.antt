use Rattle.std.proofs.Common.{◌≡◌, ℕ, ◌≤◌, List, drop, length}
use Rattle.module_endings.specs.Ends.{first_source}
use Rattle.module_endings.specs.Indexes.{source_in}
use Rattle.module_endings.proofs.sources.Sources.of.Given as goal

abbrev pub invariant-loop-left : goal.invariant-loop-left
invariant-loop-left l = (l.left ≤ length l.exports) × ((name : List ℕ) → source_in l.sources name ≡ first_source (drop l.left l.exports) name)

abbrev pub decreases-loop-left : goal.decreases-loop-left
decreases-loop-left l = l.left
