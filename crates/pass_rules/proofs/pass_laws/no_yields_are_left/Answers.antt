use Rattle.pass_rules.proofs.pass_laws.Machines.{machines_out}
use Rattle.pass_rules.proofs.pass_laws.no_yields_are_left.Goals as goal

pub returns : goal.returns
returns c = machines_out
