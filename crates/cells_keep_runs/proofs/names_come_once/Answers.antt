use Rattle.cells_keep_runs.proofs.Entering.{names_once}
use Rattle.cells_keep_runs.proofs.names_come_once.Goals as goal

pub returns : goal.returns
returns c = names_once
