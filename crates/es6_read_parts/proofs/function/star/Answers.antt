use Rattle.es6_read_parts.proofs.Stars.{star_is}
use Rattle.es6_read_parts.proofs.function.star.Goals as goal

pub returns : goal.returns
returns c = star_is _ _ _ c.take_mark.ensures
