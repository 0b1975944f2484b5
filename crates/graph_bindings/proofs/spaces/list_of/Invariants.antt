use Rattle.std.proofs.Common.{◌≡◌, ◌++◌, drop}
use Rattle.es6_static_semantics.specs.Findings.{joined}
use Rattle.module_lowering.specs.Modules.{item_spaces}
use Rattle.graph_bindings.proofs.spaces.list_of.Given as goal

abbrev pub invariant-loop-item : goal.invariant-loop-item
invariant-loop-item l =
    l.spaces ++ joined (item_spaces l.loaded.requests) (drop l.item-index l.loaded.tree.items)
    ≡ joined (item_spaces l.loaded.requests) l.loaded.tree.items
