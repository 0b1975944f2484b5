use Rattle.std.proofs.Common.{sym, ◌∙◌, arith}
use Rattle.graph_namespaces.proofs.Asking.{asks-all, asks-more}
use Rattle.graph_namespaces.proofs.reached.names_for.Goals as goal

pub loop-at-preserved : goal.loop-at-preserved
loop-at-preserved c =
    asks-more c.args.known.now c.args.index c.loop-at.at c.in-Some.number c.loop-at.reached.keys c.visit.new.reached.keys c.loop-at.names c.visit.new.names
    (sym c.get_index.ensures.key ∙ sym c.copied.ensures ∙ c.in-Some.is) c.loop-at.invariant c.in_ok-visit.ensures

pub returns : goal.returns
returns c = asks-all c.args.known.now c.args.index c.loop-at.at c.loop-at.reached.keys c.loop-at.names c.loop-at.invariant (omega arith)
