use Rattle.cells_keep_runs.proofs.Opened.{begins}
use Rattle.cells_keep_runs.proofs.begins_open_cells.Goals as goal

pub returns : goal.returns
returns c = λ core owners cell x st h. begins core owners cell x st h
