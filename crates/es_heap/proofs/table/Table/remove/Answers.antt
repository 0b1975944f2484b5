use Rattle.std.proofs.Common.{◌≡◌, None}
use Rattle.std.specs.Map.{lookup}
use Rattle.indexmap.specs.IndexMap.{swap_remove_entry}
use Rattle.es_heap.specs.Keys.{same_key}
use Rattle.es_heap.proofs.TableLemmas.{IndicesBelow-lowered}
use Rattle.es_heap.proofs.table.Table.remove.Goals as goal

pub invariant_of-self : goal.invariant_of-self
invariant_of-self c =
    let none : lookup (same_key c.args.key.now) (swap_remove_entry (same_key c.args.key.now) c.self.inside.map.entries) ≡ None =
    rw (← c.swap_remove.ensures.entries) c.swap_remove.ensures.updates.1 in
    rw c.swap_remove.ensures.entries
    (IndicesBelow-lowered c.self.inside.top c.lowered-self-inside.result c.args.key.now c.self.inside.map.entries c.lowered-self-inside.ensures none c.self.invariant)
