use Rattle.std.proofs.Common.{◌≡◌, drop}
use Rattle.emission_rules.specs.Naming.{with_names}
use Rattle.emit_names.proofs.naming.take_names.Given as goal

abbrev pub invariant-loop-name : goal.invariant-loop-name
invariant-loop-name l = with_names l.taken (drop l.name-index l.names) ≡ with_names l.initial.taken l.names
