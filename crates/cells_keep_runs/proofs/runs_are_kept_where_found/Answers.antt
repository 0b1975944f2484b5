use Rattle.cells_keep_runs.proofs.KeptFound.{kept_where_found}
use Rattle.cells_keep_runs.proofs.runs_are_kept_where_found.Goals as goal

pub returns : goal.returns
returns c = kept_where_found
