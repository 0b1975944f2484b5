use Rattle.std.proofs.Common.{◌≡◌, length}
use Rattle.source_meaning.specs.Expressions.{operands_on}
use Rattle.source_moves.specs.Seen.{state_of}
use Rattle.source_expressions.proofs.binary.operands_on.Given as goal

abbrev pub invariant-loop-operand : goal.invariant-loop-operand
invariant-loop-operand g l = operands_on l.rest (state_of g.W.PendingWork.seen l.st) l.value ≡ operands_on l.fn.operands (state_of g.W.PendingWork.seen l.fn.st) l.value

abbrev pub decreases-loop-operand : goal.decreases-loop-operand
decreases-loop-operand g l = length l.rest
