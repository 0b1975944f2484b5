use Rattle.std.proofs.Common.{◌≡◌, ◌++◌, map, drop}
use Rattle.es6_static_semantics.specs.Findings.{joined}
use Rattle.lower_listed.specs.Hoisted.{hoisted_of}
use Rattle.module_lowering.specs.Lowered.{case_lowered}
use Rattle.lower_flow.proofs.choices.cases_functions.Given as goal

abbrev pub invariant-loop-case : goal.invariant-loop-case
invariant-loop-case l =
    map hoisted_of l.functions ++ joined (λ c. c.body.functions) (map case_lowered (drop l.case-index l.cases))
    ≡ joined (λ c. c.body.functions) (map case_lowered l.cases)
