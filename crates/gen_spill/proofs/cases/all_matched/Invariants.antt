use Rattle.std.proofs.Common.{◌≡◌, length}
use Rattle.pass_rules.specs.yield_rules.Yields.{all_matched, no_match}
use Rattle.gen_spill.proofs.cases.all_matched.Given as goal

abbrev pub invariant-loop-case : goal.invariant-loop-case
invariant-loop-case l = all_matched l.place l.i l.left.items l.made ≡ all_matched l.place 0 l.fn.cases.items no_match

abbrev pub decreases-loop-case : goal.decreases-loop-case
decreases-loop-case l = length l.left.items
