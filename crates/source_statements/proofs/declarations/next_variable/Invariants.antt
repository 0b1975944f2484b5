use Rattle.std.proofs.Common.{◌≡◌, length}
use Rattle.source_statements.specs.Variables.{variables_from}
use Rattle.source_statements.proofs.declarations.next_variable.Given as goal

abbrev pub invariant-loop-part : goal.invariant-loop-part
invariant-loop-part l = variables_from l.kind l.fn.parts ≡ variables_from l.kind l.rest

abbrev pub decreases-loop-part : goal.decreases-loop-part
decreases-loop-part l = length l.rest
