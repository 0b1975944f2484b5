use Rattle.std.proofs.Common.{◌≡◌, length}
use Rattle.source_meaning.specs.Lists.{list_on}
use Rattle.source_moves.specs.Seen.{state_of}
use Rattle.source_lists.proofs.collecting.list_on.Given as goal

abbrev pub invariant-loop-part : goal.invariant-loop-part
invariant-loop-part g l = list_on l.list l.left (state_of g.W.PendingWork.seen l.st) ≡ list_on l.fn.list l.fn.parts (state_of g.W.PendingWork.seen l.fn.st)

abbrev pub decreases-loop-part : goal.decreases-loop-part
decreases-loop-part g l = length l.left
