use Rattle.std.proofs.Common.{◌≡◌, drop}
use Rattle.pass_rules.specs.yield_rules.Yields.{any_case_has}
use Rattle.gen_spill.proofs.cases.any_case_has.Given as goal

abbrev pub invariant-loop-case : goal.invariant-loop-case
invariant-loop-case l = any_case_has l.cases ≡ any_case_has (drop l.case-index l.cases)
