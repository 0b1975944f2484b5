use Rattle.runs.specs.Laws.{spanned}
use Rattle.cells_keep_runs.proofs.Staying.{steps_stay}
use Rattle.cells_keep_runs.proofs.code_stays_where_it_may_stand.Goals as goal

pub returns : goal.returns
returns g c = λ env stats env2 expr env3 links env4 handler place core s plain stands.
    steps_stay (spanned env stats) (spanned env2 expr) (spanned env3 links) (spanned env4 handler) place core s plain stands
