use Rattle.std.proofs.Common.{List, ℕ, sym, subst, take, get_or}
use Rattle.std.proofs.lemmas.List.{take_more}
use Rattle.module_flows.specs.Steps.{Spreads}
use Rattle.module_flows.proofs.Spread.{spreads-then}
use Rattle.module_flows.proofs.flow.Flow.spread.Goals as goal

pub loop-node-preserved : goal.loop-node-preserved
loop-node-preserved c =
    let P : List ℕ → Type 0 = λ ns. Spreads ns c.args.value c.args.self.now c.raise.new.self in
    subst P (sym (take_more c.args.nodes.now c.loop-node.node-index 0 c.loop-node-test.true))
    (spreads-then (take c.loop-node.node-index c.args.nodes.now) (get_or c.args.nodes.now c.loop-node.node-index 0) c.args.value c.args.self.now c.loop-node.self c.raise.new.self
    c.loop-node.invariant c.in_ok-raise.ensures)
