use Rattle.std.proofs.Common.{◌≡◌, drop, map}
use Rattle.es6_static_semantics.specs.Early.{are_plain, parameter_found}
use Rattle.early_names.proofs.patterns.are_plain.Given as goal

abbrev pub invariant-loop-parameter : goal.invariant-loop-parameter
invariant-loop-parameter l = are_plain (map parameter_found (drop l.parameter-index l.parameters)) ≡ are_plain (map parameter_found l.parameters)
