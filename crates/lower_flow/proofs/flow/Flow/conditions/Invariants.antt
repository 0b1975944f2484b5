use Rattle.std.proofs.Common.{◌≡◌, map, drop}
use Rattle.lower_walk.specs.Handed.{done_at}
use Rattle.module_lowering.specs.Lowering.{each_by, each_by_onto}
use Rattle.module_lowering.specs.Lowered.{condition_lowered}
use Rattle.lower_flow.proofs.flow.Flow.conditions.Given as goal

abbrev pub invariant-loop-condition : goal.invariant-loop-condition
invariant-loop-condition g l =
    done_at l.self.here.around (each_by_onto (λ c. c.lowered) l.made (map condition_lowered (drop l.condition-index l.conditions))) l.state
    ≡ done_at l.self.here.around (each_by (λ c. c.lowered) (map condition_lowered l.conditions)) l.initial.state
