use Rattle.std.proofs.Common.{◌≡◌, ◌++◌, drop}
use Rattle.emission_rules.specs.Functions.{names_only}
use Rattle.emit5.proofs.declarations.push_names.Given as goal

abbrev pub invariant-loop-var : goal.invariant-loop-var
invariant-loop-var l = l.out ++ names_only l.scene (drop l.var-index l.vars) ≡ l.initial.out ++ names_only l.scene l.vars
