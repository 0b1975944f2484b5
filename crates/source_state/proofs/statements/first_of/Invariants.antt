use Rattle.std.proofs.Common.{◌≡◌, length}
use Rattle.source_state.specs.Bodies.{case_statements}
use Rattle.source_state.proofs.statements.first_of.Given as goal

abbrev pub invariant-loop-case : goal.invariant-loop-case
invariant-loop-case l = case_statements l.fn.cases ≡ case_statements l.rest

abbrev pub decreases-loop-case : goal.decreases-loop-case
decreases-loop-case l = length l.rest
