use Rattle.cells_keep_runs.proofs.Copies.{rounds_go_on}
use Rattle.cells_keep_runs.proofs.rounds_go_on.Goals as goal

pub returns : goal.returns
returns c = rounds_go_on
