use Rattle.std.proofs.Common.{◌≡◌, ◌++◌, drop}
use Rattle.pass_rules.specs.Scopes.{functions_flat}
use Rattle.lower_blocks.proofs.pass.flat_functions.Given as goal

abbrev pub invariant-loop-function : goal.invariant-loop-function
invariant-loop-function l = l.made ++ functions_flat l.owners l.holders l.all l.place (drop l.function-index l.functions) ≡ functions_flat l.owners l.holders l.all 0 l.functions
