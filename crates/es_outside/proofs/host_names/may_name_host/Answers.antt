use Rattle.es_outside.specs.HostNames.{is_host_name}
use Rattle.es_outside.proofs.host_names.may_name_host.Goals as goal

pub returns : goal.returns
unfolding is_host_name
returns c = cc
