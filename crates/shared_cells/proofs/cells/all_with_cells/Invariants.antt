use Rattle.std.proofs.Common.{◌≡◌, [], length}
use Rattle.shared_cells.specs.Cells.{all_with_cells}
use Rattle.shared_cells.proofs.cells.all_with_cells.Given as goal

abbrev pub invariant-loop-part : goal.invariant-loop-part
invariant-loop-part l = all_with_cells l.marks l.foreign l.number l.left.items l.made ≡ all_with_cells l.marks l.foreign 0 l.fn.parts []

abbrev pub decreases-loop-part : goal.decreases-loop-part
decreases-loop-part l = length l.left.items
