use Rattle.cells_keep_runs.proofs.Carried.{untouched}
use Rattle.cells_keep_runs.proofs.untouched_operations_keep_the_relation.Goals as goal

pub returns : goal.returns
returns c = untouched
