use Rattle.std.proofs.Common.{◌≡◌, length}
use Rattle.source_meaning.specs.Statements.{from_default}
use Rattle.source_statements.proofs.switches.from_default.Given as goal

abbrev pub invariant-loop-case : goal.invariant-loop-case
invariant-loop-case l = from_default l.fn.cases ≡ from_default l.rest

abbrev pub decreases-loop-case : goal.decreases-loop-case
decreases-loop-case l = length l.rest
