use Rattle.std.proofs.Common.{◌≡◌, ◌<◌, ◌-◌, ◌+◌, ◌∙◌, ◌||◌, sym, ap, arith, length}
use Rattle.es_operators.specs.Functions.{instance_within, is_parent_step, met_at}
use Rattle.es_operators.proofs.InstanceLemmas.{instance_met, instance_goes_up}
use Rattle.es_operators.proofs.functions.instance_walk.Goals as goal

pub returns-in-Some-met_at : goal.returns-in-Some-met_at
returns-in-Some-met_at c =
    let more : 0 < length c.args.heap.now - c.loop.counter = omega arith in
    sym (instance_met c.args.heap.now c.loop.place c.args.target c.loop.past c.in-Some.up c.in-Some.ensures.value (length c.args.heap.now - c.loop.counter) c.in-Some-met_at.found more
    (ap (λ b. met_at c.loop.place c.in-Some.up c.args.target (c.loop.past || b)) (sym c.is_parent_step-past.ensures) ∙ sym c.met_at.ensures ∙ c.in-Some-met_at.is))
    ∙ c.loop.invariant

pub loop-preserved : goal.loop-preserved
loop-preserved c =
    let more : 0 < length c.args.heap.now - c.loop.counter = omega arith in
    let less : length c.args.heap.now - (c.loop.counter + 1) ≡ length c.args.heap.now - c.loop.counter - 1 = omega arith in
    let up = instance_goes_up c.args.heap.now c.loop.place c.args.target c.loop.past c.in-Some.up c.in-Some.ensures.value (length c.args.heap.now - c.loop.counter) more
    (ap (λ b. met_at c.loop.place c.in-Some.up c.args.target (c.loop.past || b)) (sym c.is_parent_step-past.ensures) ∙ sym c.met_at.ensures ∙ c.in_default-met_at.is) in
    ap (λ n. instance_within n c.args.heap.now c.in-Some.up c.args.target (c.loop.past || c.is_parent_step-past.result)) less
    ∙ ap (λ b. instance_within (length c.args.heap.now - c.loop.counter - 1) c.args.heap.now c.in-Some.up c.args.target (c.loop.past || b)) c.is_parent_step-past.ensures
    ∙ sym up ∙ c.loop.invariant
