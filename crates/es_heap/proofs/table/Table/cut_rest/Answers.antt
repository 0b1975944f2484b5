use Rattle.std.proofs.Common.{◌≡◌, sym, rules}
use Rattle.indexmap.proofs.CallerLemmas.{filter-RetainsPairs}
use Rattle.es_heap.specs.Tables.{cut_at}
use Rattle.es_heap.proofs.TableLemmas.{cut_end-above, cut_at-above, IndicesBelow-cut}
use Rattle.es_heap.proofs.table.Table.cut_rest.Goals as goal

pub returns-then-length-self-clause-end : goal.returns-then-length-self-clause-end
returns-then-length-self-clause-end c = rw (← c.self.view_is) (sym (cut_end-above c.self.inside.top c.args.length c.self.inside.map.entries c.if-length-self.true c.self.invariant))

pub returns-then-length-self-clause-table : goal.returns-then-length-self-clause-table
returns-then-length-self-clause-table c = rw (← c.self.view_is) (sym (cut_at-above c.self.inside.top c.args.length c.self.inside.map.entries c.if-length-self.true c.self.invariant))

pub invariant_of-self : goal.invariant_of-self
invariant_of-self c =
    let kept : c.retain.new.self.entries ≡ cut_at c.end_of_cut-end.result c.self.inside.map.entries = filter-RetainsPairs _ _ _ (λ k v b w g call. search rules) _ _ c.retain.ensures.filtered in
    rw kept (IndicesBelow-cut c.end_of_cut-end.result c.self.inside.map.entries)

pub returns-clause-table : goal.returns-clause-table
returns-clause-table c = rw (← c.self.view_is) (filter-RetainsPairs _ _ _ (λ k v b w g call. search rules) _ _ c.retain.ensures.filtered)
