use Rattle.std.proofs.Common.{◌≡◌, ℕ, ◌≤◌, List, drop, length}
use Rattle.module_resolution.specs.Summaries.{requested_home}
use Rattle.module_summaries.specs.Homes.{home_in}
use Rattle.module_summaries.proofs.homes.Homes.of.Given as goal

abbrev pub invariant-loop-left : goal.invariant-loop-left
invariant-loop-left l = (l.left ≤ length l.requests) × ((from : List ℕ) → home_in l.homes from ≡ requested_home (drop l.left l.requests) from)

abbrev pub decreases-loop-left : goal.decreases-loop-left
decreases-loop-left l = l.left
