use Rattle.cells_keep_runs.proofs.Passed.{places}
use Rattle.cells_keep_runs.proofs.places_are_kept.Goals as goal

pub returns : goal.returns
returns c = places
