use Rattle.std.proofs.Common.{◌≡◌, ◌-◌, length}
use Rattle.es_heap.specs.Heaps.{find, find_within}
use Rattle.es_heap.proofs.heap.Heap.find.Given as goal

abbrev pub invariant-loop : goal.invariant-loop
invariant-loop l = find_within (length l.self - l.counter) l.self l.place l.key ≡ find l.self l.fn.id l.key
