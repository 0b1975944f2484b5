use Rattle.std.proofs.Common.{◌≡◌, ◌++◌, length}
use Rattle.std.specs.List.{flat_map}
use Rattle.lowering_rules.specs.reference_rules.References.{single}
use Rattle.lower_references.proofs.calls.singles.Given as goal

abbrev pub invariant-loop-part : goal.invariant-loop-part
invariant-loop-part l = l.out ++ flat_map single l.left.items ≡ flat_map single l.fn.parts.items

abbrev pub decreases-loop-part : goal.decreases-loop-part
decreases-loop-part l = length l.left.items
