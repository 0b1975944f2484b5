use Rattle.std.proofs.Common.{◌≡◌, ◌++◌, false, map, drop}
use Rattle.es6_static_semantics.specs.Findings.{joined}
use Rattle.es6_static_semantics.specs.Outside.{block_vars, knows, statement_found}
use Rattle.es6_static_semantics.specs.Outside.{case_found, condition_found}
use Rattle.module_scopes.proofs.bindings.Bindings.+variables.Given as goal

abbrev pub invariant-variables-loop-statement : goal.invariant-variables-loop-statement
invariant-variables-loop-statement l = l.self ++ map (knows false) (block_vars (map statement_found (drop l.statement-index l.statements))) ≡ l.initial.self ++ map (knows false) (block_vars (map statement_found l.statements))

abbrev pub invariant-variables_in_conditions-loop-condition : goal.invariant-variables_in_conditions-loop-condition
invariant-variables_in_conditions-loop-condition l = l.self ++ map (knows false) (joined (λ k. k.vars) (map condition_found (drop l.condition-index l.conditions))) ≡ l.initial.self ++ map (knows false) (joined (λ k. k.vars) (map condition_found l.conditions))

abbrev pub invariant-variables_in_cases-loop-case : goal.invariant-variables_in_cases-loop-case
invariant-variables_in_cases-loop-case l = l.self ++ map (knows false) (block_vars (joined (λ k. k.body) (map case_found (drop l.case-index l.cases)))) ≡ l.initial.self ++ map (knows false) (block_vars (joined (λ k. k.body) (map case_found l.cases)))
