use Rattle.cells_keep_runs.proofs.Standings.{new_records_away}
use Rattle.cells_keep_runs.proofs.new_records_are_away.Goals as goal

pub returns : goal.returns
returns c = new_records_away
