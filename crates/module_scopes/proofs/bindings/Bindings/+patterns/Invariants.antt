use Rattle.std.proofs.Common.{◌≡◌, ◌++◌, false, map, drop}
use Rattle.es6_static_semantics.specs.Outside.{knows, parts_names}
use Rattle.es6_static_semantics.specs.Outside.{array_part_found, object_part_found}
use Rattle.module_scopes.proofs.bindings.Bindings.+patterns.Given as goal

abbrev pub invariant-array_parts-loop-part : goal.invariant-array_parts-loop-part
invariant-array_parts-loop-part l = l.self ++ map (knows false) (parts_names (map array_part_found (drop l.part-index l.parts))) ≡ l.initial.self ++ map (knows false) (parts_names (map array_part_found l.parts))

abbrev pub invariant-object_parts-loop-part : goal.invariant-object_parts-loop-part
invariant-object_parts-loop-part l = l.self ++ map (knows false) (parts_names (map object_part_found (drop l.part-index l.parts))) ≡ l.initial.self ++ map (knows false) (parts_names (map object_part_found l.parts))
