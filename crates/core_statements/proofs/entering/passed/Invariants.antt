use Rattle.std.proofs.Common.{◌≡◌, ◌++◌, drop}
use Rattle.core_meaning.specs.Calls.{passed}
use Rattle.core_statements.proofs.entering.passed.Given as goal

abbrev pub invariant-loop-at : goal.invariant-loop-at
invariant-loop-at g l = l.names ++ passed (drop l.at l.parameters) (drop l.at l.args) ≡ passed l.parameters l.args
