use Rattle.std.proofs.Common.{◌≡◌, ◌<◌, ◌-◌, ◌+◌, ◌∙◌, sym, ap, arith, length}
use Rattle.es_heap.specs.Heaps.{find_within}
use Rattle.es_heap.proofs.HeapLemmas.{find_within_found, find_within_up}
use Rattle.es_heap.proofs.heap.Heap.find.Goals as goal

pub returns-in-Some : goal.returns-in-Some
returns-in-Some c =
    let more : 0 < length c.args.self.now - c.loop.counter = omega arith in
    sym (find_within_found c.args.self.now c.loop.place c.args.key.now _ c.in-Some.property.now more (sym c.in-Some.ensures)) ∙ c.loop.invariant

pub loop-preserved : goal.loop-preserved
loop-preserved c =
    let more : 0 < length c.args.self.now - c.loop.counter = omega arith in
    let less : length c.args.self.now - (c.loop.counter + 1) ≡ length c.args.self.now - c.loop.counter - 1 = omega arith in
    let walk = find_within_up c.args.self.now c.loop.place c.args.key.now (length c.args.self.now - c.loop.counter) c.in_ok-place-in-None.place more (sym c.in-None.ensures) (sym c.in_ok-place-in-None.ensures.value) in
    ap (λ n. find_within n c.args.self.now c.in_ok-place-in-None.place c.args.key.now) less ∙ sym walk ∙ c.loop.invariant
