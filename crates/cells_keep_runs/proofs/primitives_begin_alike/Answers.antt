use Rattle.cells_keep_runs.proofs.Going.{primitives_begin}
use Rattle.cells_keep_runs.proofs.primitives_begin_alike.Goals as goal

pub returns : goal.returns
returns c = primitives_begin
