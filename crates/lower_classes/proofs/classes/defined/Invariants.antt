use Rattle.std.proofs.Common.{◌≡◌, ◌++◌, length}
use Rattle.std.specs.List.{flat_map}
use Rattle.lowering_rules.specs.Classes.{defined, member}
use Rattle.lower_classes.proofs.classes.defined.Given as goal

abbrev pub invariant-loop-member : goal.invariant-loop-member
invariant-loop-member l =
    l.out ++ flat_map (member l.names) l.left.items ≡ defined l.names l.fn.heritage l.fn.function l.fn.members.items

abbrev pub decreases-loop-member : goal.decreases-loop-member
decreases-loop-member l = length l.left.items
