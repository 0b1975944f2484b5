use Rattle.std.proofs.Common.{◌≡◌, ◌++◌, drop, map}
use Rattle.es6_static_semantics.specs.Findings.{joined}
use Rattle.es6_static_semantics.specs.Early.{statement_found}
use Rattle.early_names.proofs.declared.add_body_lexical.Given as goal

abbrev pub invariant-loop-statement : goal.invariant-loop-statement
invariant-loop-statement l = l.names.items ++ joined (λ s. s.lexical) (map statement_found (drop l.statement-index l.statements)) ≡ l.initial.names.items ++ joined (λ s. s.lexical) (map statement_found l.statements)
