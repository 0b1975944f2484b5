use Rattle.cells_keep_runs.proofs.Turned.{contexts_end, lists_run_out}
use Rattle.cells_keep_runs.proofs.contexts_end_alike.Goals as goal

pub returns : goal.returns
returns c = record { contexts = contexts_end; lists = lists_run_out }
