use Rattle.module_flows.specs.declared.found.Found.TheVariants.{Nothing}
use Rattle.module_flows.proofs.Gets.{default_read}
use Rattle.module_flows.proofs.found.found_at.Goals as goal

pub returns-in-None : goal.returns-in-None
returns-in-None c = default_read c.args.found.now c.args.node Nothing c.in-None.ensures
