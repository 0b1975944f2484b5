use Rattle.std.proofs.Common.{◌≡◌, map, drop}
use Rattle.lower_walk.specs.Handed.{done_at}
use Rattle.module_lowering.specs.Lowering.{along}
use Rattle.module_lowering.specs.Lowered.{operand_lowered}
use Rattle.lower_expressions.proofs.expressions.Expressions.binary.Given as goal

abbrev pub invariant-loop-operand : goal.invariant-loop-operand
invariant-loop-operand g l =
    done_at l.self.here.around (along (map operand_lowered (drop l.operand-index l.rest)) l.value) l.state ≡ done_at l.self.here.around (along (map operand_lowered l.rest) l.initial.value) l.initial.state
