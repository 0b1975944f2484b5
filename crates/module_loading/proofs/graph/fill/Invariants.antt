use Rattle.std.proofs.Common.{◌≡◌, ◌-◌, ◌≤◌, length}
use Rattle.module_loading.specs.States.{Arrives}
use Rattle.module_loading.proofs.graph.fill.Given as goal

abbrev pub invariant-loop : goal.invariant-loop
invariant-loop g l =
    (g.W.FindsFiles.files l.files ≡ g.W.FindsFiles.files l.fn.files) × (g.W.FindsFiles.faults l.fn.files ≤ g.W.FindsFiles.faults l.files)
    × g.W.FindsFiles.stays l.fn.files l.files × Arrives g.R.ReadsModules.reads g.R.ReadsModules.requests g.R.ReadsModules.shows g.R.ReadsModules.refuses g.S.SuppliesModules.hands_out (g.W.FindsFiles.files l.fn.files) l.entry l.fn.supply l.loading l.supply

abbrev pub decreases-loop : goal.decreases-loop
decreases-loop g l = 1024 - length l.loading.modules
