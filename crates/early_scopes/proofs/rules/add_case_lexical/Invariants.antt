use Rattle.std.proofs.Common.{◌≡◌, ◌++◌, ◌∷◌, [], drop, map}
use Rattle.es6_static_semantics.specs.Findings.{joined}
use Rattle.es6_static_semantics.specs.Early.{block_lexical, case_found}
use Rattle.early_scopes.proofs.rules.add_case_lexical.Given as goal

abbrev pub invariant-loop-case : goal.invariant-loop-case
invariant-loop-case l = l.names.items ++ block_lexical (joined (λ k. k.body) (map case_found (drop l.case-index l.cases))) ≡ l.initial.names.items ++ block_lexical (joined (λ k. k.body) (map case_found l.cases))
