use Rattle.std.proofs.Common.{◌≡◌, drop, map}
use Rattle.scope_rules.specs.Marks.{array_part_marked, have_expression, object_part_marked}
use Rattle.scope_heads.proofs.parameters.+patterns.Given as goal

abbrev pub invariant-array_parts_have-loop-part : goal.invariant-array_parts_have-loop-part
invariant-array_parts_have-loop-part l = have_expression (map array_part_marked (drop l.part-index l.parts)) ≡ have_expression (map array_part_marked l.parts)

abbrev pub invariant-object_parts_have-loop-part : goal.invariant-object_parts_have-loop-part
invariant-object_parts_have-loop-part l = have_expression (map object_part_marked (drop l.part-index l.parts)) ≡ have_expression (map object_part_marked l.parts)
