use Rattle.std.proofs.Common.{◌≡◌, ◌++◌, length, map}
use Rattle.lowering_rules.specs.reference_rules.Objects.{putting}
use Rattle.lower_objects.proofs.objects.all_put.Given as goal

abbrev pub invariant-loop-member : goal.invariant-loop-member
invariant-loop-member l = l.links ++ map (putting l.kept) l.left.items ≡ map (putting l.kept) l.fn.members.items

abbrev pub decreases-loop-member : goal.decreases-loop-member
decreases-loop-member l = length l.left.items
