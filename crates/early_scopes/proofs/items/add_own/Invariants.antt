use Rattle.std.proofs.Common.{◌≡◌, ◌++◌, ◌∷◌, [], drop, map}
use Rattle.es6_static_semantics.specs.Findings.{joined}
use Rattle.early_scopes.proofs.items.add_own.Given as goal

abbrev pub invariant-loop-name : goal.invariant-loop-name
invariant-loop-name l = l.names.items ++ joined (λ n. n.local ∷ []) (drop l.name-index l.exports) ≡ l.initial.names.items ++ joined (λ n. n.local ∷ []) l.exports
