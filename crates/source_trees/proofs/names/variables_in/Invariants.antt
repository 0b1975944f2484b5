use Rattle.std.proofs.Common.{◌≡◌, ◌++◌, length}
use Rattle.source_meaning.specs.Trees.{variables_in}
use Rattle.source_trees.proofs.names.variables_in.Given as goal

abbrev pub invariant-statements : goal.invariant-statements
invariant-statements l = l.names ++ variables_in l.rest ≡ variables_in l.statements

abbrev pub decreases-statements : goal.decreases-statements
decreases-statements l = length l.rest
