use Rattle.std.proofs.Common.{◌≡◌, ◌++◌, ◌∷◌, [], drop, map}
use Rattle.es6_static_semantics.specs.Findings.{joined}
use Rattle.es6_static_semantics.specs.Early.{item_found}
use Rattle.early_scopes.proofs.items.add_lexical.Given as goal

abbrev pub invariant-loop-item : goal.invariant-loop-item
invariant-loop-item l = l.names.items ++ joined (λ x. x.lexical) (map item_found (drop l.item-index l.items)) ≡ l.initial.names.items ++ joined (λ x. x.lexical) (map item_found l.items)
