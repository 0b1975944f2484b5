-- What begins is what was taken apart, at its place.
use Rattle.source_begins.proofs.BegunRows.{statement_steps}
use Rattle.source_moves.specs.Seen.{state_of}
use Rattle.source_begins.proofs.started.start_statement.Goals as goal

pub returns : goal.returns
returns g c = statement_steps g.W.PendingWork.seen c.start_open.result c.start_open.new.st c.args.labels c.args.statement.now c.span.result (state_of g.W.PendingWork.seen c.args.st.now) (state_of g.W.PendingWork.seen c.at_node.new.st) c.statement_node.result c.span.ensures c.statement_node.ensures c.at_node.ensures c.start_open.ensures
