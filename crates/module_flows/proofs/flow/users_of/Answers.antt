use Rattle.std.proofs.Common.{[]}
use Rattle.module_flows.proofs.Gets.{default_read}
use Rattle.module_flows.proofs.flow.users_of.Goals as goal

pub returns-in-None : goal.returns-in-None
returns-in-None c = default_read c.args.users.now c.args.node [] c.in-None.ensures
