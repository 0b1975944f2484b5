use Rattle.std.proofs.Common.{◌≡◌, [], ◌∷◌, ◌++◌, map, drop}
use Rattle.es6_static_semantics.specs.Findings.{joined}
use Rattle.es6_static_semantics.specs.Outside.{knows}
use Rattle.module_scopes.proofs.bindings.Bindings.listed.Given as goal

abbrev pub invariant-loop-name : goal.invariant-loop-name
invariant-loop-name l = l.self ++ map (knows l.is_host) (joined (λ n. n.local ∷ []) (drop l.name-index l.names)) ≡ l.initial.self ++ map (knows l.is_host) (joined (λ n. n.local ∷ []) l.names)
