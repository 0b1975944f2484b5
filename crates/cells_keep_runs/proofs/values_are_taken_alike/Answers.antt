use Rattle.cells_keep_runs.proofs.Taken.{values_taken}
use Rattle.cells_keep_runs.proofs.values_are_taken_alike.Goals as goal

pub returns : goal.returns
returns c = values_taken
