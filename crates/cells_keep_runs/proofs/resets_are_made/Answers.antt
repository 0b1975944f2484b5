use Rattle.cells_keep_runs.proofs.Ways.{resets}
use Rattle.cells_keep_runs.proofs.resets_are_made.Goals as goal

pub returns : goal.returns
returns c = λ core. resets core
