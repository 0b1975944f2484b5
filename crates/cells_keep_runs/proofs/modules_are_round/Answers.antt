use Rattle.cells_keep_runs.proofs.Outset.{modules_round}
use Rattle.cells_keep_runs.proofs.modules_are_round.Goals as goal

pub returns : goal.returns
returns c = modules_round
