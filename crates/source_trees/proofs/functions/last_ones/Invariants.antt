use Rattle.std.proofs.Common.{◌≡◌, ◌++◌, drop}
use Rattle.source_meaning.specs.Trees.{last_ones}
use Rattle.source_trees.proofs.functions.last_ones.Given as goal

abbrev pub invariant-loop-at : goal.invariant-loop-at
invariant-loop-at l = l.last ++ last_ones (drop l.at l.functions) ≡ last_ones l.functions
