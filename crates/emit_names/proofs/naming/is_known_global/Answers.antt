use Rattle.es_outside.specs.HostNames.{known_globals}
use Rattle.emit_names.proofs.naming.is_known_global.Goals as goal

pub returns : goal.returns
unfolding known_globals
returns c = c.is_among.ensures
