use Rattle.std.proofs.Common.{◌≡◌, [], None, drop, map}
use Rattle.es6_static_semantics.specs.Findings.{joined}
use Rattle.es6_static_semantics.specs.Early.{item_found}
use Rattle.early_findings.specs.Pairs.{least_with}
use Rattle.early_errors.proofs.errors.items_walked.Given as goal

abbrev pub invariant-loop-item : goal.invariant-loop-item
invariant-loop-item l = record {
  labels : l.walk.labels ≡ [];
  pairs : least_with l.walk.finder (joined (λ x. x.pairs) (map item_found (drop l.item-index l.items))) ≡ least_with None (joined (λ x. x.pairs) (map item_found l.items));
}
