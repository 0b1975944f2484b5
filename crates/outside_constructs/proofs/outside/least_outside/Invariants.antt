use Rattle.std.proofs.Common.{◌≡◌, None, false, map, drop}
use Rattle.early_findings.specs.Pairs.{least_with}
use Rattle.es6_static_semantics.specs.Findings.{joined}
use Rattle.es6_static_semantics.specs.Outside.{Scope, item_found}
use Rattle.outside_constructs.proofs.outside.least_outside.Given as goal

abbrev pub invariant-loop-item : goal.invariant-loop-item
invariant-loop-item l =
    let scope : Scope = record { known = joined (λ y. y.known) (map item_found l.items); in_object = false } in
    record {
      least : least_with l.walk.finder (joined (λ x. x.pairs scope) (map item_found (drop l.item-index l.items))) ≡ least_with None (joined (λ x. x.pairs scope) (map item_found l.items));
      environment : l.walk.environment ≡ scope;
    }
