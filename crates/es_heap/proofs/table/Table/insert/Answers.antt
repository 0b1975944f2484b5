use Rattle.es_heap.proofs.TableLemmas.{IndicesBelow-insert, IndicesBelow-weaker}
use Rattle.es_heap.proofs.table.Table.insert.Goals as goal

pub invariant_of-self-2 : goal.invariant_of-self-2
invariant_of-self-2 c = rw c.in_ok-insert.ensures.entries (IndicesBelow-insert c.raised-top.result c.self.inside.map.entries c.args.key c.args.property (IndicesBelow-weaker c.self.inside.top c.raised-top.result _ c.raised-top.ensures.grows c.self.invariant) c.raised-top.ensures.above)
