use Rattle.cells_keep_runs.proofs.Entries.{calls_remembered}
use Rattle.cells_keep_runs.proofs.Handled.{parameters_remembered}
use Rattle.cells_keep_runs.proofs.Renewed.{scopes_remembered}
use Rattle.cells_keep_runs.proofs.Writes.{shared_written, unshared_written}
use Rattle.cells_keep_runs.proofs.names_are_where_they_should_be.Goals as goal

pub returns : goal.returns
returns c = record { unshared = unshared_written; shared = shared_written; scopes = scopes_remembered; calls = calls_remembered; handlers = parameters_remembered }
