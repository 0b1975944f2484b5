use Rattle.std.proofs.Common.{◌≡◌, ◌+◌, drop}
use Rattle.source_meaning.specs.Trees.{expected_count}
use Rattle.source_trees.proofs.parameters.expected_count.Given as goal

abbrev pub invariant-loop-parameter : goal.invariant-loop-parameter
invariant-loop-parameter l = l.count + expected_count (drop l.parameter-index l.parameters) ≡ expected_count l.parameters
