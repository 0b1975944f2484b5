use Rattle.std.proofs.Common.{◌≡◌, ◌++◌, length}
use Rattle.std.specs.List.{flat_map}
use Rattle.lowering_rules.specs.Patterns.{object_part, object_pattern}
use Rattle.lower_patterns.proofs.objects.lower_object_pattern.Given as goal

abbrev pub invariant-loop-part : goal.invariant-loop-part
invariant-loop-part l =
    l.out ++ flat_map (object_part l.subject l.value) l.left.items ≡ object_pattern l.subject l.value l.fn.parts.items

abbrev pub decreases-loop-part : goal.decreases-loop-part
decreases-loop-part l = length l.left.items
