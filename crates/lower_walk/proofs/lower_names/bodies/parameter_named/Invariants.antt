use Rattle.std.proofs.Common.{◌≡◌, drop, map}
use Rattle.module_lowering.specs.Names.{parameter_named}
use Rattle.lower_walk.proofs.lower_names.bodies.parameter_named.Given as goal

abbrev pub invariant-loop-parameter : goal.invariant-loop-parameter
invariant-loop-parameter g l =
    parameter_named l.name (map g.N.ListsName.identifier (drop l.parameter-index l.parameters))
    ≡ parameter_named l.name (map g.N.ListsName.identifier l.parameters)
