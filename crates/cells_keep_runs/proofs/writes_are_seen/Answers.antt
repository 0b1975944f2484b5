use Rattle.cells_keep_runs.proofs.Places.{first, hidden_by_none, seen}
use Rattle.cells_keep_runs.proofs.writes_are_seen.Goals as goal

pub returns : goal.returns
returns g c = record { write = seen; more = hidden_by_none; first = first }
