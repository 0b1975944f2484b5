use Rattle.std.proofs.Common.{◌≡◌, ◌++◌, drop, map}
use Rattle.early_findings.specs.Pairs.{least_with}
use Rattle.es6_static_semantics.specs.Findings.{joined}
use Rattle.es6_static_semantics.specs.Early.{item_found}
use Rattle.early_scopes.proofs.modules.items.Given as goal

abbrev pub invariant-loop-item : goal.invariant-loop-item
invariant-loop-item l = record {
  scopes : least_with l.finder (joined (λ x. x.scopes) (map item_found (drop l.item-index l.items))) ≡ least_with l.initial.finder (joined (λ x. x.scopes) (map item_found l.items));
  vars : l.vars ++ joined (λ x. x.vars) (map item_found (drop l.item-index l.items)) ≡ l.initial.vars ++ joined (λ x. x.vars) (map item_found l.items);
  exported : l.exported.items ++ joined (λ x. x.exported) (map item_found (drop l.item-index l.items)) ≡ l.initial.exported.items ++ joined (λ x. x.exported) (map item_found l.items);
}
