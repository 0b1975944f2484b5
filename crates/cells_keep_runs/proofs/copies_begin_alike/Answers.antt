use Rattle.cells_keep_runs.proofs.Copied.{copies_begin}
use Rattle.cells_keep_runs.proofs.copies_begin_alike.Goals as goal

pub returns : goal.returns
returns c = copies_begin
