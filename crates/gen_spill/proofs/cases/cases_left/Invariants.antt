use Rattle.std.proofs.Common.{◌≡◌, ◌++◌, length}
use Rattle.pass_rules.specs.yield_rules.Yields.{cases_before, cases_left}
use Rattle.gen_spill.proofs.cases.cases_left.Given as goal

abbrev pub invariant-loop-case : goal.invariant-loop-case
invariant-loop-case l = (l.made ++ cases_left l.left.items ≡ cases_left l.fn.cases.items) × (cases_before l.left.items l.out ≡ cases_before l.fn.cases.items l.initial.out)

abbrev pub decreases-loop-case : goal.decreases-loop-case
decreases-loop-case l = length l.left.items
