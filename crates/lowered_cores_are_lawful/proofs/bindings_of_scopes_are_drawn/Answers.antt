use Rattle.lowered_cores_are_lawful.proofs.Bound.{bound_is}
use Rattle.lowered_cores_are_lawful.proofs.bindings_of_scopes_are_drawn.Goals as goal

pub returns : goal.returns
returns c = bound_is
