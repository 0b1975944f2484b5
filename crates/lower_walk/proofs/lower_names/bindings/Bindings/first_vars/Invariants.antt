use Rattle.std.proofs.Common.{◌≡◌, ◌++◌, drop, map}
use Rattle.std.specs.List.{filter}
use Rattle.module_lowering.specs.Bindings.{declared_var, declares_first}
use Rattle.lower_walk.proofs.lower_names.bindings.Bindings.first_vars.Given as goal

abbrev pub invariant-loop-at : goal.invariant-loop-at
invariant-loop-at l =
    l.vars ++ map (declared_var l.self l.context) (filter (declares_first l.self l.context) (drop l.at-index l.ats))
    ≡ map (declared_var l.self l.context) (filter (declares_first l.self l.context) l.ats)
