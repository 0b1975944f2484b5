use Rattle.es_heap.proofs.TableLemmas.{popped_map}
use Rattle.es_heap.proofs.table.Table.cut_last.Goals as goal

pub invariant_of-self : goal.invariant_of-self
invariant_of-self c = (popped_map c.args.length c.self.inside.top c.in-Some.left c.self.inside.map c.pop.new.self c.pop.result c.pop.ensures.entries c.pop.ensures.found.1 c.pop.ensures.updates c.in-Some.ensures c.self.invariant).1

pub returns-in-Some : goal.returns-in-Some
returns-in-Some c = rw (← c.self.view_is) (popped_map c.args.length c.self.inside.top c.in-Some.left c.self.inside.map c.pop.new.self c.pop.result c.pop.ensures.entries c.pop.ensures.found.1 c.pop.ensures.updates c.in-Some.ensures c.self.invariant).0
