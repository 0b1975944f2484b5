use Rattle.std.proofs.Common.{◌≡◌, ◌++◌, drop}
use Rattle.emission_rules.specs.Naming.{names_from}
use Rattle.emit_names.proofs.naming.names_of.Given as goal

abbrev pub invariant-loop-hint : goal.invariant-loop-hint
invariant-loop-hint l = l.names ++ names_from l.sign l.taken l.number (drop l.hint-index l.hints) ≡ names_from l.sign l.initial.taken 0 l.hints
