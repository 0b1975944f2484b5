use Rattle.cells_keep_runs.proofs.Turned.{turns_alike}
use Rattle.cells_keep_runs.proofs.turns_are_alike.Goals as goal

pub returns : goal.returns
returns c = turns_alike
