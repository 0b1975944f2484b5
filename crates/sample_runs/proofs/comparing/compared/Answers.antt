use Rattle.sample_runs.proofs.Shown.{read_compared, unread_compared}
use Rattle.sample_runs.proofs.comparing.compared.Goals as goal

pub returns-in-Ok : goal.returns-in-Ok
returns-in-Ok g c =
    read_compared c.args.graph.now c.args.hosts.now c.args.script.now c.in-Ok.read.script c.in-Ok.read.lines c.compared_read.result c.in-Ok.ensures.0 c.in-Ok.ensures.1 c.compared_read.ensures

pub returns-in-Err : goal.returns-in-Err
returns-in-Err g c = unread_compared c.args.graph.now c.args.hosts.now c.args.script.now c.in-Err.unread c.unread_compared.result c.in-Err.ensures c.unread_compared.ensures
