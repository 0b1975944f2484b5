use Rattle.std.proofs.Common.{List, ℕ, ◌<◌, length}
use Rattle.std.proofs.lemmas.List.Elements.{All-contains}
use Rattle.module_flows.specs.Flows.{users_of}
use Rattle.module_flows.proofs.Gets.{empty-stack}
use Rattle.module_flows.proofs.Kept.{all-users, holds-step, right-at_end}
use Rattle.module_flows.proofs.solve.reached.Goals as goal

pub loop-node-preserved : goal.loop-node-preserved
loop-node-preserved c =
    let node : ℕ = c.in-Some.node in
    let users : List (List ℕ) = c.args.users.now in
    holds-step users c.args.ends.now c.args.ends.now c.loop-node.flow c.flow_on.new.self c.pop.new.self node c.loop-node.invariant c.in-Some.ensures
    (λ n h. All-contains (λ x. x < length users) (users_of users node) n (all-users (λ x. x < length users) users node c.requires.users) h)
    c.in_ok-flow_on.ensures

pub returns : goal.returns
returns c = right-at_end c.args.users.now c.args.ends.now c.loop-node.flow c.loop-node.invariant (empty-stack c.pop.result c.loop-node.flow.todo c.pop.new.self c.pop.ensures c.in_default.not-Some)
