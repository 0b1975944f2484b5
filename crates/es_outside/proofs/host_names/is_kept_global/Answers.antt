use Rattle.es_outside.specs.HostNames.{kept_globals}
use Rattle.es_outside.proofs.host_names.is_kept_global.Goals as goal

pub returns : goal.returns
unfolding kept_globals
returns c = c.is_among.ensures
