use Rattle.std.proofs.Common.{◌≡◌, ◌++◌, false, map, drop}
use Rattle.es6_static_semantics.specs.Outside.{knows, parts_names}
use Rattle.es6_static_semantics.specs.Outside.{parameter_found}
use Rattle.module_scopes.proofs.bindings.Bindings.parameters.Given as goal

abbrev pub invariant-loop-parameter : goal.invariant-loop-parameter
invariant-loop-parameter l = l.self ++ map (knows false) (parts_names (map parameter_found (drop l.parameter-index l.parameters))) ≡ l.initial.self ++ map (knows false) (parts_names (map parameter_found l.parameters))
