use Rattle.std.proofs.Common.{◌≡◌, ◌≤◌, drop}
use Rattle.first_script.specs.Suffix.{trailing_dollars}
use Rattle.first_script.proofs.suffix.dollars_at_end.Given as goal

abbrev pub invariant-loop-byte : goal.invariant-loop-byte
invariant-loop-byte l = record { rest : trailing_dollars l.run (drop l.byte-index l.name) ≡ trailing_dollars 0 l.name; within : l.run ≤ l.byte-index }
