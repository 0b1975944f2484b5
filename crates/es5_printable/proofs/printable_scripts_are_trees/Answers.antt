use Rattle.es5_printable.proofs.Trees.{printable_tree}
use Rattle.es5_printable.proofs.printable_scripts_are_trees.Goals as goal

pub returns : goal.returns
returns c = printable_tree
