use Rattle.std.proofs.Common.{◌≡◌, ◌++◌, drop, map}
use Rattle.module_lowering.specs.Functions.{parameter_names}
use Rattle.module_lowering.specs.Lowered.{parameter_lowered}
use Rattle.lower_listed.proofs.patterns.parameters_names.Given as goal

abbrev pub invariant-loop-parameter : goal.invariant-loop-parameter
invariant-loop-parameter l = l.names ++ parameter_names (map parameter_lowered (drop l.parameter-index l.parameters)) ≡ parameter_names (map parameter_lowered l.parameters)
