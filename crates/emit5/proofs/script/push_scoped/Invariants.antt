use Rattle.std.proofs.Common.{◌≡◌, ◌++◌, drop}
use Rattle.emission_rules.specs.Functions.{scoped_names}
use Rattle.emit5.proofs.script.push_scoped.Given as goal

abbrev pub invariant-loop-name : goal.invariant-loop-name
invariant-loop-name l = l.out ++ scoped_names l.scene (drop l.name-index l.names) ≡ l.initial.out ++ scoped_names l.scene l.names
