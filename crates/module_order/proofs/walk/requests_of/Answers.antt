use Rattle.std.proofs.Common.{[], ◌∙◌}
use Rattle.module_order.proofs.Gets.{default_read, item_read}
use Rattle.module_order.proofs.walk.requests_of.Goals as goal

pub returns-in-None : goal.returns-in-None
returns-in-None c = default_read c.args.graph.now c.args.number [] c.in-None.ensures

pub returns-in-Some : goal.returns-in-Some
returns-in-Some c = c.as_slice.ensures ∙ item_read c.args.graph.now c.args.number c.in-Some.requests.now [] c.in-Some.ensures
