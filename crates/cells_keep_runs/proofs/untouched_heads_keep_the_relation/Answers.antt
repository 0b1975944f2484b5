use Rattle.cells_keep_runs.proofs.Begun.{heads_begin}
use Rattle.cells_keep_runs.proofs.untouched_heads_keep_the_relation.Goals as goal

pub returns : goal.returns
returns c = heads_begin
