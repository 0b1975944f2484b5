use Rattle.std.proofs.Common.{◌≡◌, map}
use Rattle.std.specs.Map.Iter.{deref_pair}
use Rattle.es_heap.specs.Tables.{cut_end}
use Rattle.es_heap.proofs.table.end_of_cut.Given as goal

abbrev pub invariant-loop-key : goal.invariant-loop-key
invariant-loop-key l = l.end ≡ cut_end l.length (map deref_pair l.yielded)
