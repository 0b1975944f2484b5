use Rattle.std.proofs.Common.{◌≡◌, ◌++◌, length}
use Rattle.source_meaning.specs.Trees.{functions_in}
use Rattle.source_trees.proofs.functions.functions_in.Given as goal

abbrev pub invariant-statements : goal.invariant-statements
invariant-statements l = l.functions ++ functions_in l.rest ≡ functions_in l.statements

abbrev pub decreases-statements : goal.decreases-statements
decreases-statements l = length l.rest
