use Rattle.std.proofs.Common.{◌≡◌, drop}
use Rattle.source_meaning.specs.Trees.{are_simple}
use Rattle.source_trees.proofs.parameters.are_simple.Given as goal

abbrev pub invariant-loop-parameter : goal.invariant-loop-parameter
invariant-loop-parameter l = are_simple (drop l.parameter-index l.parameters) ≡ are_simple l.parameters
