use Rattle.cells_keep_runs.proofs.Links.{links_go}
use Rattle.cells_keep_runs.proofs.untouched_links_keep_the_relation.Goals as goal

pub returns : goal.returns
returns c = links_go
