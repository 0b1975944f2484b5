use Rattle.std.proofs.Common.{◌≡◌, map, drop}
use Rattle.lower_walk.specs.Handed.{done_at}
use Rattle.module_lowering.specs.Lowering.{all_by, all_by_onto}
use Rattle.module_lowering.specs.Modules.{item_listed}
use Rattle.lower_modules.proofs.statements.lower_items.Given as goal

abbrev pub invariant-loop-item : goal.invariant-loop-item
invariant-loop-item g l =
    done_at l.here.around (all_by_onto (λ x. x.statements) l.made (map item_listed (drop l.item-index l.items))) l.state
    ≡ done_at l.here.around (all_by (λ x. x.statements) (map item_listed l.items)) l.initial.state
