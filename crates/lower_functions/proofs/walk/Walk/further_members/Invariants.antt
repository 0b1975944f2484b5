use Rattle.std.proofs.Common.{◌≡◌, map, drop}
use Rattle.lower_walk.specs.Handed.{done_at}
use Rattle.module_lowering.specs.Classes.{further_member}
use Rattle.module_lowering.specs.Lowered.{class_member_lowered}
use Rattle.module_lowering.specs.Lowering.{all_by, all_by_onto}
use Rattle.lower_functions.proofs.walk.Walk.further_members.Given as goal

abbrev pub invariant-loop-member : goal.invariant-loop-member
invariant-loop-member g l =
    done_at l.self.here.around (all_by_onto further_member l.made.items (map class_member_lowered (drop l.member-index l.members))) l.state
    ≡ done_at l.self.here.around (all_by further_member (map class_member_lowered l.members)) l.initial.state
