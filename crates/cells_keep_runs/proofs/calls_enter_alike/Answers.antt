use Rattle.cells_keep_runs.proofs.Called.{calls_enter}
use Rattle.cells_keep_runs.proofs.calls_enter_alike.Goals as goal

pub returns : goal.returns
returns c = calls_enter
