use Rattle.std.proofs.Common.{◌≡◌, map, drop}
use Rattle.lower_walk.specs.Handed.{done_at}
use Rattle.module_lowering.specs.Lowering.{each, each_onto}
use Rattle.module_lowering.specs.Lowered.{element_lowered}
use Rattle.lower_walk.proofs.lower_items.lists.lower_element_list.Given as goal

abbrev pub invariant-loop-one : goal.invariant-loop-one
invariant-loop-one g l =
    done_at l.here.around (each_onto l.parts.items (map element_lowered (drop l.one-index l.elements))) l.state ≡ done_at l.here.around (each (map element_lowered l.elements)) l.initial.state
