use Rattle.std.proofs.Common.{◌≡◌, ◌<◌, ◌-◌, ◌+◌, ◌∙◌, ◌||◌, sym, ap, arith, length}
use Rattle.es_realm.specs.Look.{walk_within}
use Rattle.es_realm.proofs.LookLemmas.{walk_stops, walk_goes_up}
use Rattle.es_realm.proofs.look.walk.Goals as goal

pub returns-in-Stops : goal.returns-in-Stops
returns-in-Stops c =
    let more : 0 < length c.args.heap.now - c.loop.counter = omega arith in
    sym (walk_stops c.args.edition c.args.heap.now c.loop.place c.args.key.now c.loop.past (length c.args.heap.now - c.loop.counter) c.in-Stops.found more (sym c.in-Stops.ensures))
    ∙ c.loop.invariant

pub loop-preserved : goal.loop-preserved
loop-preserved c =
    let more : 0 < length c.args.heap.now - c.loop.counter = omega arith in
    let less : length c.args.heap.now - (c.loop.counter + 1) ≡ length c.args.heap.now - c.loop.counter - 1 = omega arith in
    let up = walk_goes_up c.args.edition c.args.heap.now c.loop.place c.args.key.now c.loop.past (length c.args.heap.now - c.loop.counter) c.in-Above.up more (sym c.in-Above.ensures) in
    ap (λ n. walk_within n c.args.edition c.args.heap.now c.in-Above.up c.args.key.now (c.loop.past || c.passes_unrecorded-past.result)) less
    ∙ ap (λ b. walk_within (length c.args.heap.now - c.loop.counter - 1) c.args.edition c.args.heap.now c.in-Above.up c.args.key.now (c.loop.past || b)) c.passes_unrecorded-past.ensures
    ∙ sym up ∙ c.loop.invariant
