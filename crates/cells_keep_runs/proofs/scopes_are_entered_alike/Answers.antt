use Rattle.cells_keep_runs.proofs.Entered.{scopes_entered}
use Rattle.cells_keep_runs.proofs.scopes_are_entered_alike.Goals as goal

pub returns : goal.returns
returns c = scopes_entered
