use Rattle.first_forms.specs.Names.{unbindable_names}
use Rattle.first_forms.proofs.names.is_unbindable.Goals as goal

pub returns : goal.returns
unfolding unbindable_names
returns c = c.is_among.ensures
