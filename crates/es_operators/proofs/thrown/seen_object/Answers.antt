use Rattle.std.proofs.Common.{◌≡◌, ◌<◌, ◌+◌, ◌-◌, ◌∙◌, sym, ap, arith, length}
use Rattle.es_heap.specs.Heaps.{object_at}
use Rattle.es_operators.specs.Seen.{seen_within}
use Rattle.es_operators.proofs.SeenLemmas.{seen_here, seen_up}
use Rattle.es_operators.proofs.thrown.seen_object.Goals as goal

pub returns-in-Some-kind_at : goal.returns-in-Some-kind_at
returns-in-Some-kind_at c =
    let more : 0 < length c.args.heap.now - c.loop.counter = omega arith in
    sym (seen_here c.args.heap.now (length c.args.heap.now - c.loop.counter) c.in-Some.up c.in-Some-kind_at.kind more (sym c.kind_at.ensures ∙ c.in-Some-kind_at.is))
    ∙ ap (λ p. seen_within (length c.args.heap.now - c.loop.counter) c.args.heap.now p) (sym c.in-Some.is)
    ∙ c.loop.invariant

pub loop-preserved : goal.loop-preserved
loop-preserved c =
    let more : 0 < length c.args.heap.now - c.loop.counter = omega arith in
    let less : length c.args.heap.now - (c.loop.counter + 1) ≡ length c.args.heap.now - c.loop.counter - 1 = omega arith in
    ap (λ p. seen_within (length c.args.heap.now - (c.loop.counter + 1)) c.args.heap.now p) c.proto-place-in-loop.ensures.value
    ∙ ap (λ n. seen_within n c.args.heap.now (object_at c.args.heap.now c.in-Some.up).proto) less
    ∙ sym (seen_up c.args.heap.now (length c.args.heap.now - c.loop.counter) c.in-Some.up more (sym c.kind_at.ensures ∙ c.in_default-kind_at.is))
    ∙ ap (λ p. seen_within (length c.args.heap.now - c.loop.counter) c.args.heap.now p) (sym c.in-Some.is)
    ∙ c.loop.invariant
