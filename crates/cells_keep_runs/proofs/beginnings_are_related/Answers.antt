use Rattle.cells_keep_runs.proofs.Started.{beginnings}
use Rattle.cells_keep_runs.proofs.beginnings_are_related.Goals as goal

pub returns : goal.returns
returns c = beginnings
