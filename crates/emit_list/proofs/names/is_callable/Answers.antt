use Rattle.emission_rules.specs.Primitives.{helper_name}
use Rattle.emit_list.specs.Scripts.{callable, primitives}
use Rattle.emit_list.proofs.names.is_callable.Goals as goal

pub returns : goal.returns
unfolding callable primitives helper_name
returns c = c.is_among.ensures
