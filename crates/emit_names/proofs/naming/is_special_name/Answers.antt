use Rattle.es_outside.specs.HostNames.{special_names}
use Rattle.emit_names.proofs.naming.is_special_name.Goals as goal

pub returns : goal.returns
unfolding special_names
returns c = c.is_among.ensures
