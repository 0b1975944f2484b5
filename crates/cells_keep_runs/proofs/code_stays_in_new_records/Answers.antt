use Rattle.runs.specs.Laws.{spanned}
use Rattle.cells_keep_runs.proofs.Recorded.{records_stay}
use Rattle.cells_keep_runs.proofs.code_stays_in_new_records.Goals as goal

pub returns : goal.returns
returns g c = λ env stats env2 expr env3 links env4 handler place.
    records_stay (spanned env stats) (spanned env2 expr) (spanned env3 links) (spanned env4 handler) place
