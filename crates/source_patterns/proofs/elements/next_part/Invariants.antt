use Rattle.std.proofs.Common.{◌≡◌, length}
use Rattle.source_patterns.specs.ArrayParts.{parts_from}
use Rattle.source_patterns.proofs.elements.next_part.Given as goal

abbrev pub invariant-loop-part : goal.invariant-loop-part
invariant-loop-part l = parts_from l.done l.fn.parts ≡ parts_from l.done l.rest

abbrev pub decreases-loop-part : goal.decreases-loop-part
decreases-loop-part l = length l.rest
