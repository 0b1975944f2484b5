use Rattle.std.proofs.Common.{◌≡◌, [], length}
use Rattle.pass_rules.specs.state_rules.States.{all_functions}
use Rattle.gen_states.proofs.pass.all_functions.Given as goal

abbrev pub invariant-loop-function : goal.invariant-loop-function
invariant-loop-function l = all_functions l.left.items l.made l.fresh ≡ all_functions l.fn.functions [] l.fn.fresh

abbrev pub decreases-loop-function : goal.decreases-loop-function
decreases-loop-function l = length l.left.items
