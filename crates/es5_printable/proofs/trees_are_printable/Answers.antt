use Rattle.es5_printable.proofs.Printed.{tree_printable}
use Rattle.es5_printable.proofs.trees_are_printable.Goals as goal

pub returns : goal.returns
returns c = tree_printable
