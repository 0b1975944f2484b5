use Rattle.std.proofs.Common.{◌≡◌, ◌++◌, length}
use Rattle.shared_cells.proofs.cells.in_turn.Given as goal

abbrev pub invariant-loop-part : goal.invariant-loop-part
invariant-loop-part l = l.back ++ l.left.items ≡ l.fn.parts

abbrev pub decreases-loop-part : goal.decreases-loop-part
decreases-loop-part l = length l.back
