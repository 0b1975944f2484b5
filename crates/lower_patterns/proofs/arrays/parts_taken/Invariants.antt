use Rattle.std.proofs.Common.{◌≡◌, ◌++◌, length}
use Rattle.std.specs.List.{flat_map}
use Rattle.lowering_rules.specs.Patterns.{array_part}
use Rattle.lower_patterns.proofs.arrays.parts_taken.Given as goal

abbrev pub invariant-loop-part : goal.invariant-loop-part
invariant-loop-part l = l.out ++ flat_map (array_part l.names) l.left.items ≡ flat_map (array_part l.names) l.fn.parts.items

abbrev pub decreases-loop-part : goal.decreases-loop-part
decreases-loop-part l = length l.left.items
