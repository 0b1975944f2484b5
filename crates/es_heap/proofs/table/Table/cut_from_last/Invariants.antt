use Rattle.es_heap.specs.Tables.{CutsAs}
use Rattle.es_heap.proofs.table.Table.cut_from_last.Given as goal

abbrev pub invariant-loop : goal.invariant-loop
invariant-loop l = CutsAs l.length l.fn.self l.self
