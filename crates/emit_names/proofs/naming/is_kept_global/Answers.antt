use Rattle.es_outside.specs.HostNames.{kept_globals}
use Rattle.emit_names.proofs.naming.is_kept_global.Goals as goal

pub returns : goal.returns
unfolding kept_globals
returns c = c.is_among.ensures
