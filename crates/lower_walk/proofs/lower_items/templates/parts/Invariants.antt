use Rattle.std.proofs.Common.{◌≡◌, map, drop}
use Rattle.lower_walk.specs.Handed.{done_at}
use Rattle.module_lowering.specs.Expressions.{part_of}
use Rattle.module_lowering.specs.Lowering.{each_by, each_by_onto}
use Rattle.module_lowering.specs.Lowered.{template_part_lowered}
use Rattle.lower_walk.proofs.lower_items.templates.parts.Given as goal

abbrev pub invariant-loop-one : goal.invariant-loop-one
invariant-loop-one g l =
    done_at l.here.around (each_by_onto part_of l.made.items (map template_part_lowered (drop l.one-index l.written))) l.state ≡ done_at l.here.around (each_by part_of (map template_part_lowered l.written)) l.initial.state
