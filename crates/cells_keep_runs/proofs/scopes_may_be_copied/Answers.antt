use Rattle.cells_keep_runs.proofs.Copying.{copies_copied, copyable_stays, scopes_copied}
use Rattle.cells_keep_runs.proofs.scopes_may_be_copied.Goals as goal

pub returns : goal.returns
returns c = record { entered = scopes_copied; copied = copies_copied; more = copyable_stays }
