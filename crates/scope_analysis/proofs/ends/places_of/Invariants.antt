use Rattle.std.proofs.Common.{◌≡◌, ◌++◌, drop}
use Rattle.es6_static_semantics.specs.Findings.{joined}
use Rattle.scope_analysis.specs.Ends.{item_places}
use Rattle.scope_analysis.proofs.ends.places_of.Given as goal

abbrev pub invariant-loop-item : goal.invariant-loop-item
invariant-loop-item l = l.places.items ++ joined item_places (drop l.item-index l.items) ≡ joined item_places l.items
