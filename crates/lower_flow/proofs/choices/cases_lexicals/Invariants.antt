use Rattle.std.proofs.Common.{◌≡◌, ◌++◌, map, drop}
use Rattle.es6_static_semantics.specs.Findings.{joined}
use Rattle.module_lowering.specs.Lowered.{case_lowered}
use Rattle.lower_flow.proofs.choices.cases_lexicals.Given as goal

abbrev pub invariant-loop-case : goal.invariant-loop-case
invariant-loop-case l =
    l.places ++ joined (λ c. c.body.lexicals) (map case_lowered (drop l.case-index l.cases))
    ≡ joined (λ c. c.body.lexicals) (map case_lowered l.cases)
