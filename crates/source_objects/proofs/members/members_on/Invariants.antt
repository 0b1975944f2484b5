use Rattle.std.proofs.Common.{◌≡◌, length}
use Rattle.source_meaning.specs.Classes.{members_on}
use Rattle.source_moves.specs.Seen.{state_of}
use Rattle.source_objects.proofs.members.members_on.Given as goal

abbrev pub invariant-loop-member : goal.invariant-loop-member
invariant-loop-member g l = members_on l.defining l.left (state_of g.W.PendingWork.seen l.st) ≡ members_on l.fn.defining l.fn.members (state_of g.W.PendingWork.seen l.fn.st)

abbrev pub decreases-loop-member : goal.decreases-loop-member
decreases-loop-member g l = length l.left
