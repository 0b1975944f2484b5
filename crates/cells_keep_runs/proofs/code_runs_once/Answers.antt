use Rattle.cells_keep_runs.proofs.Counting.{steps_fit}
use Rattle.cells_keep_runs.proofs.Recounted.{records_counted}
use Rattle.cells_keep_runs.proofs.Declares.{declares_measures}
use Rattle.cells_keep_runs.proofs.code_runs_once.Goals as goal

pub returns : goal.returns
returns c = record { others = steps_fit; records = records_counted; declares = declares_measures }
