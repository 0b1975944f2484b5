use Rattle.std.proofs.Common.{◌≡◌, ◌++◌, false, map, drop}
use Rattle.es6_static_semantics.specs.Outside.{knows, parts_names}
use Rattle.es6_static_semantics.specs.Outside.{part_found}
use Rattle.module_scopes.proofs.bindings.Bindings.parts.Given as goal

abbrev pub invariant-loop-part : goal.invariant-loop-part
invariant-loop-part l = l.self ++ map (knows false) (parts_names (map part_found (drop l.part-index l.parts))) ≡ l.initial.self ++ map (knows false) (parts_names (map part_found l.parts))
