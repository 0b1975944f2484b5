use Rattle.graph_namespaces.proofs.Sharing.{asked-more}
use Rattle.graph_namespaces.proofs.asked.asked_of.Goals as goal

pub loop-index-preserved : goal.loop-index-preserved
loop-index-preserved c =
    asked-more c.args.known.now c.loop-index.index c.loop-index.asked c.push.new.self (record { exports = c.new.result; stars = c.new-in-loop-index.result; wants = c.in_ok-names_for.field-0 }) c.loop-index.invariant
    (record { no_exports = c.new.ensures; no_stars = c.new-in-loop-index.ensures; asks = c.in_ok-names_for.ensures }) c.in_ok-push.ensures.ok
