use Rattle.std.proofs.Common.{◌≡◌, [], drop}
use Rattle.pass_rules.specs.yield_rules.Yields.{all_functions}
use Rattle.gen_flatten.proofs.pass.all_functions.Given as goal

abbrev pub invariant-loop-function : goal.invariant-loop-function
invariant-loop-function l = all_functions (drop l.function-index l.functions) l.made l.fresh ≡ all_functions l.functions [] l.initial.fresh
