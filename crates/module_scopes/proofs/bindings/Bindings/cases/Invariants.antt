use Rattle.std.proofs.Common.{◌≡◌, ◌++◌, false, map, drop}
use Rattle.es6_static_semantics.specs.Findings.{joined}
use Rattle.es6_static_semantics.specs.Outside.{block_names, knows}
use Rattle.es6_static_semantics.specs.Outside.{case_found}
use Rattle.module_scopes.proofs.bindings.Bindings.cases.Given as goal

abbrev pub invariant-loop-case : goal.invariant-loop-case
invariant-loop-case l = l.self ++ map (knows false) (block_names (joined (λ k. k.body) (map case_found (drop l.case-index l.cases)))) ≡ l.initial.self ++ map (knows false) (block_names (joined (λ k. k.body) (map case_found l.cases)))
