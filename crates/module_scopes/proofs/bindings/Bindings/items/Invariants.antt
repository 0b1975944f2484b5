use Rattle.std.proofs.Common.{◌≡◌, ◌++◌, map, drop}
use Rattle.es6_static_semantics.specs.Findings.{joined}
use Rattle.es6_static_semantics.specs.Outside.{item_found}
use Rattle.module_scopes.proofs.bindings.Bindings.items.Given as goal

abbrev pub invariant-loop-item : goal.invariant-loop-item
invariant-loop-item l = l.self ++ joined (λ x. x.known) (map item_found (drop l.item-index l.items)) ≡ l.initial.self ++ joined (λ x. x.known) (map item_found l.items)
