use Rattle.cells_keep_runs.proofs.Linked.{cells_take, copies_dropped, copies_go_on, links_end, references_read}
use Rattle.cells_keep_runs.proofs.links_end_alike.Goals as goal

pub returns : goal.returns
returns c = record { ended = links_end; dropped = copies_dropped; followed = copies_go_on; read = references_read; taken = cells_take }
