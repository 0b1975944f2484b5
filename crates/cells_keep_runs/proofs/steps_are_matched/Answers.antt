use Rattle.cells_keep_runs.proofs.Matched.{steps_matched}
use Rattle.cells_keep_runs.proofs.steps_are_matched.Goals as goal

pub returns : goal.returns
returns c = steps_matched
