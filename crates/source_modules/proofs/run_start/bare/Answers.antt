use Rattle.source_modules.proofs.Starts.{bare_made}
use Rattle.source_modules.proofs.run_start.bare.Goals as goal

pub returns : goal.returns
returns g c =
    bare_made g.W.PendingWork.seen c.args.graph.now c.in_ok-heap.heap c.in_ok-records.records c.new.result c.new-2.result c.new-3.result c.new-4.result c.new-5.result c.in_ok-context.context c.new-6.result c.in_ok-due.due
    (cc c.in_ok-heap.ensures) (cc c.in_ok-records.ensures) (cc) (cc) (cc) (cc) (cc) c.in_ok-context.ensures (cc) (cc c.in_ok-due.ensures)
