use Rattle.std.proofs.Common.{◌≡◌, map, drop}
use Rattle.lower_walk.specs.Handed.{done_at}
use Rattle.module_lowering.specs.Lowering.{each, each_onto}
use Rattle.module_lowering.specs.Lowered.{property_lowered}
use Rattle.lower_walk.proofs.lower_items.members.lower_properties.Given as goal

abbrev pub invariant-loop-one : goal.invariant-loop-one
invariant-loop-one g l =
    done_at l.here.around (each_onto l.members.items (map property_lowered (drop l.one-index l.properties))) l.state ≡ done_at l.here.around (each (map property_lowered l.properties)) l.initial.state
