-- What begins is what was taken apart, at its place.
use Rattle.source_begins.proofs.BegunRows.{expression_steps}
use Rattle.source_moves.specs.Seen.{state_of}
use Rattle.source_begins.proofs.begun.begin_expression.Goals as goal

pub returns : goal.returns
returns g c = expression_steps g.W.PendingWork.seen c.begin_open.result c.begin_open.new.st c.args.x c.get-x.result.now c.span.result (state_of g.W.PendingWork.seen c.args.st.now) (state_of g.W.PendingWork.seen c.at_node.new.st) c.expression_node.result c.get-x.ensures c.span.ensures c.expression_node.ensures c.at_node.ensures c.begin_open.ensures
