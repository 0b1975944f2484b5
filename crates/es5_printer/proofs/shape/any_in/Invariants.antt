use Rattle.std.proofs.Common.{◌≡◌, ◌||◌, drop, map}
use Rattle.es5_printer.specs.Pieces.{any_in, operand_shown}
use Rattle.es5_printer.proofs.shape.any_in.Given as goal

abbrev pub invariant-loop-operand : goal.invariant-loop-operand
invariant-loop-operand l = (l.found || any_in (map operand_shown (drop l.operand-index l.operands))) ≡ any_in (map operand_shown l.operands)
