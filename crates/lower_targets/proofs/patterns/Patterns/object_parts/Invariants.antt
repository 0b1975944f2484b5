use Rattle.std.proofs.Common.{◌≡◌, map, drop}
use Rattle.lower_walk.specs.Handed.{done_at}
use Rattle.module_lowering.specs.Lowering.{each_by, each_by_onto}
use Rattle.module_lowering.specs.Lowered.{object_part_lowered}
use Rattle.lower_targets.proofs.patterns.Patterns.object_parts.Given as goal

abbrev pub invariant-loop-part : goal.invariant-loop-part
invariant-loop-part g l =
    done_at l.self.here.around (each_by_onto (λ p. p.lowered l.role l.value) l.made.items (map object_part_lowered (drop l.part-index l.parts))) l.state ≡ done_at l.self.here.around (each_by (λ p. p.lowered l.role l.value) (map object_part_lowered l.parts)) l.initial.state
