use Rattle.std.proofs.Common.{◌≡◌, drop}
use Rattle.shared_cells.specs.Cells.{all_marks}
use Rattle.shared_cells.proofs.tables.marks.Given as goal

abbrev pub invariant-loop-list : goal.invariant-loop-list
invariant-loop-list l = all_marks (drop l.list-index l.lists) l.table ≡ all_marks l.lists l.initial.table
