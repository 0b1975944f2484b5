use Rattle.std.proofs.Common.{◌≡◌, ◌++◌, drop, map}
use Rattle.es6_static_semantics.specs.Findings.{joined}
use Rattle.module_lowering.specs.Lowered.{array_part_lowered, object_part_lowered}
use Rattle.lower_listed.proofs.patterns.+patterns.Given as goal

abbrev pub invariant-push_array_parts-loop-part : goal.invariant-push_array_parts-loop-part
invariant-push_array_parts-loop-part l = l.out ++ joined (λ p. p.names) (map array_part_lowered (drop l.part-index l.parts)) ≡ l.initial.out ++ joined (λ p. p.names) (map array_part_lowered l.parts)

abbrev pub invariant-push_object_parts-loop-part : goal.invariant-push_object_parts-loop-part
invariant-push_object_parts-loop-part l = l.out ++ joined (λ p. p.names) (map object_part_lowered (drop l.part-index l.parts)) ≡ l.initial.out ++ joined (λ p. p.names) (map object_part_lowered l.parts)
