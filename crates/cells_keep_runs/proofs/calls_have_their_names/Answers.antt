use Rattle.cells_keep_runs.proofs.Named.{calls_have_names}
use Rattle.cells_keep_runs.proofs.calls_have_their_names.Goals as goal

pub returns : goal.returns
returns c = calls_have_names
