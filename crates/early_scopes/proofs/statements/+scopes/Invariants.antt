use Rattle.std.proofs.Common.{◌≡◌, ◌++◌, drop, map}
use Rattle.early_findings.specs.Pairs.{least_with}
use Rattle.es6_static_semantics.specs.Findings.{joined}
use Rattle.es6_static_semantics.specs.Early.{block_vars, case_found, condition_found, statement_found, statements_scopes}
use Rattle.early_scopes.proofs.statements.+scopes.Given as goal

abbrev pub invariant-statements-loop-statement : goal.invariant-statements-loop-statement
invariant-statements-loop-statement l = record {
  scopes : least_with l.finder (statements_scopes (map statement_found (drop l.statement-index l.statements))) ≡ least_with l.initial.finder (statements_scopes (map statement_found l.statements));
  vars : l.vars ++ block_vars (map statement_found (drop l.statement-index l.statements)) ≡ l.initial.vars ++ block_vars (map statement_found l.statements);
}

abbrev pub invariant-conditions-loop-condition : goal.invariant-conditions-loop-condition
invariant-conditions-loop-condition l = record {
  scopes : least_with l.finder (joined (λ k. k.scopes) (map condition_found (drop l.condition-index l.conditions))) ≡ least_with l.initial.finder (joined (λ k. k.scopes) (map condition_found l.conditions));
  vars : l.vars ++ joined (λ k. k.vars) (map condition_found (drop l.condition-index l.conditions)) ≡ l.initial.vars ++ joined (λ k. k.vars) (map condition_found l.conditions);
}

abbrev pub invariant-clauses-loop-case : goal.invariant-clauses-loop-case
invariant-clauses-loop-case l = record {
  scopes : least_with l.finder (statements_scopes (joined (λ k. k.body) (map case_found (drop l.case-index l.cases)))) ≡ least_with l.initial.finder (statements_scopes (joined (λ k. k.body) (map case_found l.cases)));
  vars : l.vars ++ block_vars (joined (λ k. k.body) (map case_found (drop l.case-index l.cases))) ≡ l.initial.vars ++ block_vars (joined (λ k. k.body) (map case_found l.cases));
}
