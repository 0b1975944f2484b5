use Rattle.std.proofs.Common.{◌≡◌, length}
use Rattle.source_state.specs.Members.{other_members}
use Rattle.source_state.proofs.members.first_of.Given as goal

abbrev pub invariant-loop-member : goal.invariant-loop-member
invariant-loop-member l = other_members l.fn.members ≡ other_members l.rest

abbrev pub decreases-loop-member : goal.decreases-loop-member
decreases-loop-member l = length l.rest
