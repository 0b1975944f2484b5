use Rattle.cells_keep_runs.proofs.Given.{links_take, plain_take, statements_take}
use Rattle.cells_keep_runs.proofs.values_keep_the_relation.Goals as goal

pub returns : goal.returns
returns c = record { links = links_take; plain = plain_take; statements = statements_take }
