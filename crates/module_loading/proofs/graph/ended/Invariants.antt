use Rattle.std.proofs.Common.{◌≡◌, ◌≤◌, ◌++◌, length, reverse}
use Rattle.module_loading.specs.Requests.{renumbered, zipped}
use Rattle.module_loading.proofs.graph.ended.Given as goal

abbrev pub invariant-loop-made : goal.invariant-loop-made
invariant-loop-made g l =
    (length l.modules ≤ length l.fn.loading.paths)
    × (zipped (renumbered g.R.ReadsModules.requests g.R.ReadsModules.requested l.fn.loading.paths) l.modules l.fn.loading.paths ++ reverse l.back.items
    ≡ zipped (renumbered g.R.ReadsModules.requests g.R.ReadsModules.requested l.fn.loading.paths) l.fn.loading.modules l.fn.loading.paths)

abbrev pub decreases-loop-made : goal.decreases-loop-made
decreases-loop-made g l = length l.modules
