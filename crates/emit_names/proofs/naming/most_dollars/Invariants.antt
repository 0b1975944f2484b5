use Rattle.std.proofs.Common.{◌≡◌, drop}
use Rattle.emission_rules.specs.Naming.{most_dollars}
use Rattle.emit_names.proofs.naming.most_dollars.Given as goal

abbrev pub invariant-loop-name : goal.invariant-loop-name
invariant-loop-name l = most_dollars l.most (drop l.name-index l.names) ≡ most_dollars l.best l.names
