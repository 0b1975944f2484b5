use Rattle.cells_keep_runs.proofs.KeptFound.{code_goes_on}
use Rattle.cells_keep_runs.proofs.Readying.{fitting_ready}
use Rattle.cells_keep_runs.proofs.fitting_code_is_ready.Goals as goal

pub returns : goal.returns
returns c = record { course = code_goes_on; ready = fitting_ready }
