use Rattle.std.proofs.Common.{◌≡◌, ◌++◌, drop}
use Rattle.emit_expressions.proofs.leaves.widened.Given as goal

abbrev pub invariant-loop-byte : goal.invariant-loop-byte
invariant-loop-byte l = l.units.items ++ drop l.byte-index l.bytes ≡ l.bytes
