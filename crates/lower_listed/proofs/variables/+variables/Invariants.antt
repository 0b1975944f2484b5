use Rattle.std.proofs.Common.{◌≡◌, ◌++◌, drop, map}
use Rattle.es6_static_semantics.specs.Findings.{joined}
use Rattle.module_lowering.specs.Lowered.{case_lowered, condition_lowered, statement_lowered}
use Rattle.lower_listed.proofs.variables.+variables.Given as goal

abbrev pub invariant-push_all-loop-statement : goal.invariant-push_all-loop-statement
invariant-push_all-loop-statement l = l.out ++ joined (λ s. s.listed.variables) (map statement_lowered (drop l.statement-index l.statements)) ≡ l.initial.out ++ joined (λ s. s.listed.variables) (map statement_lowered l.statements)

abbrev pub invariant-push_conditions-loop-condition : goal.invariant-push_conditions-loop-condition
invariant-push_conditions-loop-condition l = l.out ++ joined (λ k. k.variables) (map condition_lowered (drop l.condition-index l.conditions)) ≡ l.initial.out ++ joined (λ k. k.variables) (map condition_lowered l.conditions)

abbrev pub invariant-push_cases-loop-case : goal.invariant-push_cases-loop-case
invariant-push_cases-loop-case l = l.out ++ joined (λ k. k.body.variables) (map case_lowered (drop l.case-index l.cases)) ≡ l.initial.out ++ joined (λ k. k.body.variables) (map case_lowered l.cases)
