use Rattle.cells_keep_runs.proofs.Found.{names_found_on}
use Rattle.cells_keep_runs.proofs.names_are_found_on.Goals as goal

pub returns : goal.returns
returns c = names_found_on
