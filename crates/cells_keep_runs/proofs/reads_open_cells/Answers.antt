use Rattle.cells_keep_runs.proofs.Ways.{read_cell}
use Rattle.cells_keep_runs.proofs.reads_open_cells.Goals as goal

pub returns : goal.returns
returns c = λ core. read_cell core
