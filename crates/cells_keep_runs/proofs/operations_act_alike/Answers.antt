use Rattle.cells_keep_runs.proofs.Acted.{operations_act}
use Rattle.cells_keep_runs.proofs.Going.{operations_go}
use Rattle.cells_keep_runs.proofs.operations_act_alike.Goals as goal

pub returns : goal.returns
returns c = record { acted = operations_act; gone = operations_go }
