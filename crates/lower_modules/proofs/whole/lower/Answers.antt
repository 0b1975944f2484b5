use Rattle.graph_bindings.proofs.Counted.{scopes_as_many}
use Rattle.lower_modules.proofs.Laws.{core_made}
use Rattle.lower_modules.proofs.whole.lower.Goals as goal

pub known_of-requires : goal.known_of-requires
known_of-requires g c = scopes_as_many c.args.linked.graph.now c.args.linked.scopes.now c.requires.of_graph

pub start-requires : goal.start-requires
start-requires g c = scopes_as_many c.args.linked.graph.now c.args.linked.scopes.now c.requires.of_graph

pub returns : goal.returns
returns g c =
    core_made c.args.linked.graph.now c.args.linked.scopes.now c.as_slice.result.now c.args.linked.namespaces.now c.args.order _ _ _ _ _ _
    c.as_slice.ensures c.in_ok-known.ensures.wanted c.in_ok-known.ensures.count c.in_ok-known.ensures.bindings c.in_ok-state.ensures c.in_ok-parts.ensures
