use Rattle.std.proofs.Common.{◌≡◌, ◌++◌, drop}
use Rattle.emission_rules.specs.Functions.{expressions}
use Rattle.emit5.proofs.declarations.names.Given as goal

abbrev pub invariant-loop-var : goal.invariant-loop-var
invariant-loop-var l = l.made ++ expressions l.scene (drop l.var-index l.vars) ≡ expressions l.scene l.vars
