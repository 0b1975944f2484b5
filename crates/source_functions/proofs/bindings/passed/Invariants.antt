use Rattle.std.proofs.Common.{◌≡◌, ◌++◌, drop}
use Rattle.source_meaning.specs.Functions.{passed}
use Rattle.source_functions.proofs.bindings.passed.Given as goal

abbrev pub invariant-loop-at : goal.invariant-loop-at
invariant-loop-at l = l.bindings ++ passed (drop l.at l.names) (drop l.at l.args) ≡ passed l.names l.args
