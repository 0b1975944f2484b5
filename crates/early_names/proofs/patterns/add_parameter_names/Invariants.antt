use Rattle.std.proofs.Common.{◌≡◌, ◌++◌, drop, map}
use Rattle.es6_static_semantics.specs.Early.{parameter_names, parameter_found}
use Rattle.early_names.proofs.patterns.add_parameter_names.Given as goal

abbrev pub invariant-loop-parameter : goal.invariant-loop-parameter
invariant-loop-parameter l = l.names.items ++ parameter_names (map parameter_found (drop l.parameter-index l.parameters)) ≡ l.initial.names.items ++ parameter_names (map parameter_found l.parameters)
