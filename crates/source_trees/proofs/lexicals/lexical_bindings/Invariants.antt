use Rattle.std.proofs.Common.{◌≡◌, ◌++◌, length, map}
use Rattle.source_meaning.specs.Environments.{unbound}
use Rattle.source_meaning.specs.Trees.{lexicals_in}
use Rattle.source_trees.proofs.lexicals.lexical_bindings.Given as goal

abbrev pub invariant-statements : goal.invariant-statements
invariant-statements l = l.bindings ++ map unbound (lexicals_in l.rest) ≡ map unbound (lexicals_in l.statements)

abbrev pub decreases-statements : goal.decreases-statements
decreases-statements l = length l.rest
