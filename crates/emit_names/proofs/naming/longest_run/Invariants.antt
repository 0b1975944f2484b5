use Rattle.std.proofs.Common.{◌≡◌, ◌≤◌, drop}
use Rattle.emission_rules.specs.Naming.{longest_run}
use Rattle.emit_names.proofs.naming.longest_run.Given as goal

abbrev pub invariant-loop-byte : goal.invariant-loop-byte
invariant-loop-byte l = record { rest : longest_run l.longest l.run (drop l.byte-index l.name) ≡ longest_run l.best 0 l.name; within : l.run ≤ l.byte-index }
