use Rattle.std.proofs.Common.{◌≡◌, map, drop}
use Rattle.lower_walk.specs.Handed.{done_at}
use Rattle.module_lowering.specs.Expressions.{next_of}
use Rattle.module_lowering.specs.Lowering.{along_by}
use Rattle.module_lowering.specs.Lowered.{expression_lowered}
use Rattle.lower_expressions.proofs.expressions.Expressions.sequence.Given as goal

abbrev pub invariant-loop-expression : goal.invariant-loop-expression
invariant-loop-expression g l =
    done_at l.self.here.around (along_by next_of (map expression_lowered (drop l.expression-index l.rest)) l.value) l.state ≡ done_at l.self.here.around (along_by next_of (map expression_lowered l.rest) l.initial.value) l.initial.state
