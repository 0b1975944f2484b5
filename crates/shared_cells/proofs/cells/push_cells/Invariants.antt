use Rattle.std.proofs.Common.{◌≡◌, ◌++◌, drop}
use Rattle.shared_cells.specs.Cells.{cells_of}
use Rattle.shared_cells.proofs.cells.push_cells.Given as goal

abbrev pub invariant-loop-name : goal.invariant-loop-name
invariant-loop-name l = l.out ++ cells_of l.marks (drop l.name-index l.names) ≡ l.initial.out ++ cells_of l.marks l.names
