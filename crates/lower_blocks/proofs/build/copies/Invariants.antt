use Rattle.std.proofs.Common.{◌≡◌, ◌++◌, drop}
use Rattle.pass_rules.specs.Scopes.{copies}
use Rattle.lower_blocks.proofs.build.copies.Given as goal

abbrev pub invariant-loop-var : goal.invariant-loop-var
invariant-loop-var l = l.links ++ copies l.owners (drop l.var-index l.vars) ≡ copies l.owners l.vars
