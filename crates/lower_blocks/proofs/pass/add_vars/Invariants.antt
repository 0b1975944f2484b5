use Rattle.std.proofs.Common.{◌≡◌, ◌++◌, drop}
use Rattle.pass_rules.specs.Scopes.{vars}
use Rattle.lower_blocks.proofs.pass.add_vars.Given as goal

abbrev pub invariant-loop-name : goal.invariant-loop-name
invariant-loop-name l = l.locals ++ vars (drop l.name-index l.scoped) ≡ l.initial.locals ++ vars l.scoped
