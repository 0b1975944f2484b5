use Rattle.std.proofs.Common.{◌≡◌, ◌++◌, drop, map}
use Rattle.module_lowering.specs.Bindings.{scoped_name}
use Rattle.lower_walk.proofs.lower_names.bindings.Bindings.scoped_names.Given as goal

abbrev pub invariant-loop-at : goal.invariant-loop-at
invariant-loop-at l =
    l.names ++ map (scoped_name l.self l.context) (drop l.at-index l.ats) ≡ map (scoped_name l.self l.context) l.ats
