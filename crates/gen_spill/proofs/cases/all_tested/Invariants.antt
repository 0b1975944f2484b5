use Rattle.std.proofs.Common.{◌≡◌, [], length}
use Rattle.pass_rules.specs.yield_rules.Yields.{all_tested}
use Rattle.gen_spill.proofs.cases.all_tested.Given as goal

abbrev pub invariant-loop-case : goal.invariant-loop-case
invariant-loop-case l = all_tested l.place l.left.items l.out ≡ all_tested l.place l.fn.cases.items []

abbrev pub decreases-loop-case : goal.decreases-loop-case
decreases-loop-case l = length l.left.items
