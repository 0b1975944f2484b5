use Rattle.std.proofs.Common.{◌≡◌, ◌++◌, drop}
use Rattle.shared_cells.specs.Cells.{all_cells}
use Rattle.shared_cells.proofs.cells.all_cells.Given as goal

abbrev pub invariant-loop-part : goal.invariant-loop-part
invariant-loop-part l = l.names ++ all_cells l.marks (drop l.part-index l.parts) ≡ all_cells l.marks l.parts
