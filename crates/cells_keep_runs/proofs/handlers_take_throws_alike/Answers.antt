use Rattle.cells_keep_runs.proofs.Handled.{handlers_take}
use Rattle.cells_keep_runs.proofs.handlers_take_throws_alike.Goals as goal

pub returns : goal.returns
returns c = handlers_take
