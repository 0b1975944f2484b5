use Rattle.std.proofs.Common.{◌≡◌, ◌++◌, drop}
use Rattle.emission_rules.specs.Functions.{late_parameters}
use Rattle.emit5.proofs.declarations.push_late.Given as goal

abbrev pub invariant-loop-var : goal.invariant-loop-var
invariant-loop-var l =
    l.out ++ late_parameters l.scene l.at (drop l.var-index l.vars)
    ≡ l.initial.out ++ late_parameters l.scene l.first l.vars
