use Rattle.std.proofs.Common.{◌≡◌, length}
use Rattle.source_meaning.specs.Objects.{properties_on}
use Rattle.source_moves.specs.Seen.{state_of}
use Rattle.source_objects.proofs.literals.properties_on.Given as goal

abbrev pub invariant-loop-property : goal.invariant-loop-property
invariant-loop-property g l = properties_on l.object l.left (state_of g.W.PendingWork.seen l.st) ≡ properties_on l.object l.fn.properties (state_of g.W.PendingWork.seen l.fn.st)

abbrev pub decreases-loop-property : goal.decreases-loop-property
decreases-loop-property g l = length l.left
