use Rattle.std.proofs.Common.{◌≡◌, ◌++◌, drop, map}
use Rattle.pass_rules.specs.Scopes.{local}
use Rattle.lower_blocks.proofs.pass.add_locals.Given as goal

abbrev pub invariant-loop-name : goal.invariant-loop-name
invariant-loop-name l = l.names ++ map local (drop l.name-index l.scoped) ≡ l.initial.names ++ map local l.scoped
