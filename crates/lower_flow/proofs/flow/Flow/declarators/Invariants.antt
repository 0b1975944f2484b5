use Rattle.std.proofs.Common.{◌≡◌, map, drop}
use Rattle.lower_walk.specs.Handed.{done_at}
use Rattle.module_lowering.specs.Lowering.{all_by_onto}
use Rattle.module_lowering.specs.Lowered.{part_lowered}
use Rattle.module_lowering.specs.Statements.{declarator, declarators}
use Rattle.lower_flow.proofs.flow.Flow.declarators.Given as goal

abbrev pub invariant-loop-part : goal.invariant-loop-part
invariant-loop-part g l =
    done_at l.self.here.around (all_by_onto (λ p. declarator l.role p.pattern p.default) l.made (map part_lowered (drop l.part-index l.parts))) l.state
    ≡ done_at l.self.here.around (declarators l.role (map part_lowered l.parts)) l.initial.state
