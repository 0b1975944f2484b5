use Rattle.std.proofs.Common.{◌≡◌, map, drop}
use Rattle.lower_walk.specs.Handed.{done_at}
use Rattle.module_lowering.specs.Lowering.{each_by, each_by_onto}
use Rattle.module_lowering.specs.Lowered.{template_part_lowered}
use Rattle.lower_walk.proofs.lower_items.templates.part_values.Given as goal

abbrev pub invariant-loop-part : goal.invariant-loop-part
invariant-loop-part g l =
    done_at l.here.around (each_by_onto (λ p. p.value) l.values (map template_part_lowered (drop l.part-index l.parts))) l.state ≡ done_at l.here.around (each_by (λ p. p.value) (map template_part_lowered l.parts)) l.initial.state
