use Rattle.std.proofs.Common.{◌≡◌, drop}
use Rattle.core_meaning.specs.Statements.{from_default}
use Rattle.core_statements.proofs.switches.from_default.Given as goal

abbrev pub invariant-loop-at : goal.invariant-loop-at
invariant-loop-at l = from_default (drop l.at l.nodes) ≡ from_default l.nodes
