use Rattle.std.proofs.Common.{◌≡◌, map, drop}
use Rattle.lower_walk.specs.Handed.{done_at}
use Rattle.module_lowering.specs.Functions.{no_parameters, parameter_added}
use Rattle.module_lowering.specs.Lowered.{parameter_lowered}
use Rattle.module_lowering.specs.Lowering.{along_by}
use Rattle.lower_functions.proofs.walk.Walk.parameters.Given as goal

abbrev pub invariant-loop-parameter : goal.invariant-loop-parameter
invariant-loop-parameter g l =
    done_at l.self.here.around (along_by parameter_added (map parameter_lowered (drop l.parameter-index l.parameters)) l.made) l.state
    ≡ done_at l.self.here.around (along_by parameter_added (map parameter_lowered l.parameters) no_parameters) l.initial.state
