use Rattle.std.proofs.Common.{◌≡◌, ◌++◌, length}
use Rattle.gen_states.proofs.pass.in_turn.Given as goal

abbrev pub invariant-loop-function : goal.invariant-loop-function
invariant-loop-function l = l.back ++ l.left.items ≡ l.fn.functions

abbrev pub decreases-loop-function : goal.decreases-loop-function
decreases-loop-function l = length l.back
