use Rattle.std.proofs.Common.{◌≡◌, ◌++◌, ℕ, List, length}
use Rattle.rebuild.specs.Files.{AreReadOf, File, kept_in, with_files}
use Rattle.rebuild.proofs.shelf.keep_all.Given as goal

abbrev pub invariant-loop-source : goal.invariant-loop-source
invariant-loop-source g l =
    AreReadOf g.R.ReadsModules.reads l.sources l.modules
    × ((done : List File) × (l.sources ++ done ≡ l.initial.sources) × ((path : List ℕ) → kept_in l.kept path ≡ with_files done (kept_in l.initial.kept) path))

abbrev pub decreases-loop-source : goal.decreases-loop-source
decreases-loop-source g l = length l.sources
