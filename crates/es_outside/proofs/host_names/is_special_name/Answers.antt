use Rattle.es_outside.specs.HostNames.{special_names}
use Rattle.es_outside.proofs.host_names.is_special_name.Goals as goal

pub returns : goal.returns
unfolding special_names
returns c = c.is_among.ensures
