use Rattle.std.proofs.Common.{◌≡◌, ◌++◌, drop, map}
use Rattle.early_findings.specs.Pairs.{least_with}
use Rattle.es6_static_semantics.specs.Findings.{joined}
use Rattle.es6_static_semantics.specs.Early.{statement_found, statements_scopes}
use Rattle.early_scopes.proofs.bodies.body_statements.Given as goal

abbrev pub invariant-loop-statement : goal.invariant-loop-statement
invariant-loop-statement l = record {
  scopes : least_with l.finder (statements_scopes (map statement_found (drop l.statement-index l.statements))) ≡ least_with l.initial.finder (statements_scopes (map statement_found l.statements));
  vars : l.vars ++ joined (λ s. s.functions ++ s.vars) (map statement_found (drop l.statement-index l.statements)) ≡ l.initial.vars ++ joined (λ s. s.functions ++ s.vars) (map statement_found l.statements);
}
