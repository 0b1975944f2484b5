use Rattle.std.proofs.Common.{◌≡◌, ◌++◌, drop}
use Rattle.source_meaning.specs.Trees.{function_names}
use Rattle.source_trees.proofs.functions.function_names.Given as goal

abbrev pub invariant-loop-function : goal.invariant-loop-function
invariant-loop-function l = l.names ++ function_names (drop l.function-index l.functions) ≡ function_names l.functions
