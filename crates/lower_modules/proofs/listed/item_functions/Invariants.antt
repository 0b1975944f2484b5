use Rattle.std.proofs.Common.{◌≡◌, ◌++◌, drop, map}
use Rattle.es6_static_semantics.specs.Findings.{joined}
use Rattle.lower_listed.specs.Hoisted.{hoisted_of}
use Rattle.module_lowering.specs.Modules.{item_listed}
use Rattle.lower_modules.proofs.listed.item_functions.Given as goal

abbrev pub invariant-loop-item : goal.invariant-loop-item
invariant-loop-item l =
    map hoisted_of l.out ++ joined (λ x. x.functions) (map item_listed (drop l.item-index l.items)) ≡ joined (λ x. x.functions) (map item_listed l.items)
