use Rattle.cells_keep_runs.proofs.Turned.{other_calls_alike}
use Rattle.cells_keep_runs.proofs.other_calls_are_alike.Goals as goal

pub returns : goal.returns
returns c = other_calls_alike
