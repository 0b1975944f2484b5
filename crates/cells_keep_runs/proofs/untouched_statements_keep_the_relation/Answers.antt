use Rattle.cells_keep_runs.proofs.Statements.{statements_begin}
use Rattle.cells_keep_runs.proofs.untouched_statements_keep_the_relation.Goals as goal

pub returns : goal.returns
returns c = statements_begin
