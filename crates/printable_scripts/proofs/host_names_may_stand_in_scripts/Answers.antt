use Rattle.printable_scripts.proofs.Hosts.{host_names_are_hosts}
use Rattle.printable_scripts.proofs.host_names_may_stand_in_scripts.Goals as goal

pub returns : goal.returns
returns c = host_names_are_hosts
