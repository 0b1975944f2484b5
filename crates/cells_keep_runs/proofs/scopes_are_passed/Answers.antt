use Rattle.cells_keep_runs.proofs.Passed.{ended, entered, left, taken}
use Rattle.cells_keep_runs.proofs.scopes_are_passed.Goals as goal

pub returns : goal.returns
returns c = record { entered = entered; ended = ended; left = left; copied = taken }
