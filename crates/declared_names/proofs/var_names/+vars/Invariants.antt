use Rattle.std.proofs.Common.{◌≡◌, ◌++◌, drop, map}
use Rattle.es6_static_semantics.specs.Findings.{joined}
use Rattle.es6_static_semantics.specs.Early.{block_vars, case_found, condition_found, statement_found}
use Rattle.declared_names.proofs.var_names.+vars.Given as goal

abbrev pub invariant-add_all-loop-statement : goal.invariant-add_all-loop-statement
invariant-add_all-loop-statement l = l.names.items ++ block_vars (map statement_found (drop l.statement-index l.statements)) ≡ l.initial.names.items ++ block_vars (map statement_found l.statements)

abbrev pub invariant-add_conditions-loop-condition : goal.invariant-add_conditions-loop-condition
invariant-add_conditions-loop-condition l = l.names.items ++ joined (λ k. k.vars) (map condition_found (drop l.condition-index l.conditions)) ≡ l.initial.names.items ++ joined (λ k. k.vars) (map condition_found l.conditions)

abbrev pub invariant-add_cases-loop-case : goal.invariant-add_cases-loop-case
invariant-add_cases-loop-case l = l.names.items ++ block_vars (joined (λ k. k.body) (map case_found (drop l.case-index l.cases))) ≡ l.initial.names.items ++ block_vars (joined (λ k. k.body) (map case_found l.cases))
