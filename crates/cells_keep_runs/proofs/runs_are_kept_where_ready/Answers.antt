use Rattle.cells_keep_runs.proofs.Kept.{runs_kept}
use Rattle.cells_keep_runs.proofs.runs_are_kept_where_ready.Goals as goal

pub returns : goal.returns
returns c = runs_kept
