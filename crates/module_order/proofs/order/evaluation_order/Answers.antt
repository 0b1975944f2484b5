use Rattle.std.proofs.Common.{◌<◌, sym, subst}
use Rattle.module_order.specs.declared.walk.Walk.{Walk}
use Rattle.module_order.specs.Steps.{entered}
use Rattle.module_order.proofs.Walks.{Walks, begun-walks, next-less, next-walks, to_do}
use Rattle.module_order.proofs.order.evaluation_order.Goals as goal

pub loop-frame-init : goal.loop-frame-init
loop-frame-init c =
    let graph = c.args.graph.now in
    let entry = c.args.entry in
    subst (λ (w : Walk). Walks graph entry w) (sym c.in_ok-enter.ensures)
    (subst (λ (w : Walk). Walks graph entry (entered entry w)) (sym c.in_ok-walk.ensures) (begun-walks graph entry))

pub loop-frame-smaller : goal.loop-frame-smaller
loop-frame-smaller c =
    let graph = c.args.graph.now in
    let walk = c.loop-frame.walk in
    subst (λ (w : Walk). to_do graph w < to_do graph walk) (sym c.in_ok-go_on.ensures)
    (next-less graph c.args.entry walk c.pop.new.self c.in-Some.frame c.in-Some.ensures c.loop-frame.invariant)

pub loop-frame-preserved : goal.loop-frame-preserved
loop-frame-preserved c =
    let graph = c.args.graph.now in
    let entry = c.args.entry in
    subst (λ (w : Walk). Walks graph entry w) (sym c.in_ok-go_on.ensures)
    (next-walks graph entry c.loop-frame.walk c.pop.new.self c.in-Some.frame c.in-Some.ensures c.loop-frame.invariant)
