use Rattle.cells_keep_runs.proofs.Ways.{copy_made}
use Rattle.cells_keep_runs.proofs.copies_have_their_own.Goals as goal

pub returns : goal.returns
returns c = λ core. copy_made core
