use Rattle.std.proofs.Common.{◌≡◌, ◌++◌, length}
use Rattle.std.specs.List.{flat_map}
use Rattle.lowering_rules.specs.reference_rules.Objects.{defining}
use Rattle.lower_objects.proofs.objects.literal.Given as goal

abbrev pub invariant-loop-member : goal.invariant-loop-member
invariant-loop-member l = l.links ++ flat_map defining l.left.items ≡ flat_map defining l.fn.members.items

abbrev pub decreases-loop-member : goal.decreases-loop-member
decreases-loop-member l = length l.left.items
