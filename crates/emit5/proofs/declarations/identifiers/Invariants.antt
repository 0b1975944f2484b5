use Rattle.std.proofs.Common.{◌≡◌, ◌++◌, drop}
use Rattle.emission_rules.specs.Functions.{identifiers}
use Rattle.emit5.proofs.declarations.identifiers.Given as goal

abbrev pub invariant-loop-var : goal.invariant-loop-var
invariant-loop-var l = l.made ++ identifiers l.scene (drop l.var-index l.vars) ≡ identifiers l.scene l.vars
