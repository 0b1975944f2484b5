use Rattle.es_outside.specs.HostNames.{known_globals}
use Rattle.es_outside.proofs.host_names.is_known_global.Goals as goal

pub returns : goal.returns
unfolding known_globals
returns c = c.is_among.ensures
