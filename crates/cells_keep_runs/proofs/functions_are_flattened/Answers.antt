use Rattle.cells_keep_runs.proofs.FunctionKinds.{functions_flattened, kinds_stay}
use Rattle.cells_keep_runs.proofs.functions_are_flattened.Goals as goal

pub returns : goal.returns
returns c = record { flattened = functions_flattened; kinds = kinds_stay }
