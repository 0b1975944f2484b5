use Rattle.cells_keep_runs.proofs.Shapes.{begun_and_linked}
use Rattle.cells_keep_runs.proofs.expressions_are_begun_and_linked.Goals as goal

pub returns : goal.returns
returns c = begun_and_linked
