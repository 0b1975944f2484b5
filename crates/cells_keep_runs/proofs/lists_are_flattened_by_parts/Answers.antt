use Rattle.cells_keep_runs.proofs.Shapes.{by_parts, statements_become}
use Rattle.cells_keep_runs.proofs.lists_are_flattened_by_parts.Goals as goal

pub returns : goal.returns
returns c = record { parts = by_parts; one = statements_become }
