use Rattle.std.proofs.Common.{◌≡◌, map, drop}
use Rattle.lower_walk.specs.Handed.{done_at}
use Rattle.module_lowering.specs.Classes.{constructor_of}
use Rattle.module_lowering.specs.Lowered.{class_member_lowered}
use Rattle.lower_functions.proofs.walk.Walk.constructor_of.Given as goal

abbrev pub invariant-loop-member : goal.invariant-loop-member
invariant-loop-member g l =
    done_at l.self.here.around (constructor_of l.derived (map class_member_lowered (drop l.member-index l.members))) l.state
    ≡ done_at l.self.here.around (constructor_of l.derived (map class_member_lowered l.members)) l.initial.state
