use Rattle.cells_keep_runs.proofs.Ended.{abrupt_ends_alike, cells_passed, ends_alike, scopes_passed}
use Rattle.cells_keep_runs.proofs.statements_end_alike.Goals as goal

pub returns : goal.returns
returns c = record { ended = ends_alike; abrupt = abrupt_ends_alike; cells = cells_passed; scopes = scopes_passed }
