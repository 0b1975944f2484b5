use Rattle.cells_keep_runs.proofs.Callings.{calls_go_on}
use Rattle.cells_keep_runs.proofs.calls_go_on.Goals as goal

pub returns : goal.returns
returns c = calls_go_on
