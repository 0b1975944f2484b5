use Rattle.std.proofs.Common.{◌≡◌, ◌++◌, drop, map}
use Rattle.es6_static_semantics.specs.Findings.{joined}
use Rattle.module_lowering.specs.Lowered.{array_part_lowered, object_part_lowered}
use Rattle.module_lowering.specs.Names.{places}
use Rattle.lower_listed.proofs.places.+places.Given as goal

abbrev pub invariant-push_array_places-loop-part : goal.invariant-push_array_places-loop-part
invariant-push_array_places-loop-part l = l.out ++ places (joined (λ p. p.names) (map array_part_lowered (drop l.part-index l.parts))) ≡ l.initial.out ++ places (joined (λ p. p.names) (map array_part_lowered l.parts))

abbrev pub invariant-push_object_places-loop-part : goal.invariant-push_object_places-loop-part
invariant-push_object_places-loop-part l = l.out ++ places (joined (λ p. p.names) (map object_part_lowered (drop l.part-index l.parts))) ≡ l.initial.out ++ places (joined (λ p. p.names) (map object_part_lowered l.parts))
