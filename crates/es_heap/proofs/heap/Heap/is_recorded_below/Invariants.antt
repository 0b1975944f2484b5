use Rattle.std.proofs.Common.{◌≡◌, false, take}
use Rattle.std.specs.List.{list_any}
use Rattle.es_heap.specs.Heaps.{records_from}
use Rattle.es_heap.proofs.heap.Heap.is_recorded_below.Given as goal

abbrev pub invariant-loop-place : goal.invariant-loop-place
invariant-loop-place l = list_any (records_from l.fn.id l.key) (take l.place l.self) ≡ false
