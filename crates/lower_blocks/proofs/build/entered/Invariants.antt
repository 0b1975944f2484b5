use Rattle.std.proofs.Common.{◌≡◌, drop}
use Rattle.pass_rules.specs.Scopes.{entered}
use Rattle.lower_blocks.proofs.build.entered.Given as goal

abbrev pub invariant-loop-name : goal.invariant-loop-name
invariant-loop-name l = entered (drop l.name-index l.names) l.out ≡ entered l.names l.initial.out
