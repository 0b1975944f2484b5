use Rattle.es_outside.specs.HostList.{names}
use Rattle.commands.proofs.Outcomes.{no_name}
use Rattle.commands.proofs.ending.name_of.Goals as goal

pub returns-in-None : goal.returns-in-None
returns-in-None g c = no_name (names c.args.hosts.now) c.args.host c.in-None.ensures
