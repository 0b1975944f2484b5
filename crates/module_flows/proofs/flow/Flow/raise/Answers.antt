use Rattle.std.proofs.Common.{sym, ◌∙◌, ap}
use Rattle.module_flows.specs.Flows.{found_at}
use Rattle.module_flows.proofs.Spread.{spreads-none, spreads-some}
use Rattle.module_flows.proofs.flow.Flow.raise.Goals as goal

pub returns-in-None : goal.returns-in-None
returns-in-None c =
    spreads-none c.args.self.now c.args.node c.args.value c.found_at.result (c.found_at.ensures ∙ ap (λ xs. found_at xs c.args.node) c.as_slice.ensures) (sym c.in-None.ensures)

pub returns-in_ok-push-in-Some : goal.returns-in_ok-push-in-Some
returns-in_ok-push-in-Some c =
    spreads-some c.args.self.now c.args.node c.args.value c.found_at.result c.in-Some.after c.set.new.self c.push.new.self c.requires
    (c.found_at.ensures ∙ ap (λ xs. found_at xs c.args.node) c.as_slice.ensures) (sym c.in-Some.ensures) c.set.ensures c.in_ok-push-in-Some.ensures.ok
