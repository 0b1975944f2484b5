use Rattle.std.proofs.Common.{◌≡◌, ◌++◌, ◌∷◌, [], drop, map}
use Rattle.es6_static_semantics.specs.Findings.{joined}
use Rattle.early_scopes.proofs.items.add_exports.Given as goal

abbrev pub invariant-loop-name : goal.invariant-loop-name
invariant-loop-name l = l.names.items ++ joined (λ n. n.exported ∷ []) (drop l.name-index l.exports) ≡ l.initial.names.items ++ joined (λ n. n.exported ∷ []) l.exports
