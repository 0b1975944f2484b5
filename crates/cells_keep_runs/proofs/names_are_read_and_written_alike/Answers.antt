use Rattle.cells_keep_runs.proofs.Seen.{names_read, names_written}
use Rattle.cells_keep_runs.proofs.names_are_read_and_written_alike.Goals as goal

pub returns : goal.returns
returns c = record { read = names_read; written = names_written }
