use Rattle.std.proofs.Common.{refl}
use Rattle.cells_keep_runs.proofs.Ways.{begin_write, fill_cell, leave_write}
use Rattle.cells_keep_runs.proofs.writes_fill_cells.Goals as goal

pub returns : goal.returns
returns c = record {
  begin = λ core. begin_write core;
  fill = λ core st n links v. (_, fill_cell core st n links v, refl);
  leave = λ core st n links d h. (_, leave_write core st n links d h, refl);
}
