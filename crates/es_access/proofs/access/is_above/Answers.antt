use Rattle.std.proofs.Common.{◌≡◌, ◌<◌, ◌+◌, ◌-◌, ◌∙◌, sym, ap, arith, length}
use Rattle.es_heap.specs.Heaps.{object_at}
use Rattle.es_access.specs.Access.{on_chain}
use Rattle.es_access.proofs.Walks.{on_chain_up}
use Rattle.es_access.proofs.access.is_above.Goals as goal

pub loop-preserved : goal.loop-preserved
loop-preserved c =
    let more : 0 < length c.args.heap.now - c.loop.counter = omega arith in
    let less : length c.args.heap.now - (c.loop.counter + 1) ≡ length c.args.heap.now - c.loop.counter - 1 = omega arith in
    ap (λ p. on_chain (length c.args.heap.now - (c.loop.counter + 1)) c.args.heap.now p c.args.target) c.proto-place-in-loop.ensures.value
    ∙ ap (λ n. on_chain n c.args.heap.now (object_at c.args.heap.now c.in-Some.up).proto c.args.target) less
    ∙ sym (on_chain_up c.args.heap.now c.args.target (length c.args.heap.now - c.loop.counter) c.in-Some.up more c.if-up-target.false)
    ∙ ap (λ p. on_chain (length c.args.heap.now - c.loop.counter) c.args.heap.now p c.args.target) (sym c.in-Some.is)
    ∙ c.loop.invariant
