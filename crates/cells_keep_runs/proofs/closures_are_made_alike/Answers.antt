use Rattle.cells_keep_runs.proofs.Closed.{closures_made}
use Rattle.cells_keep_runs.proofs.closures_are_made_alike.Goals as goal

pub returns : goal.returns
returns c = closures_made
