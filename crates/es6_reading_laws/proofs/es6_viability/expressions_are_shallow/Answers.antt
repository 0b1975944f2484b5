use Rattle.es6_reading_laws.proofs.es6_viability.ShallowLaws.{expressions-are-shallow}
use Rattle.es6_reading_laws.proofs.es6_viability.expressions_are_shallow.Goals as goal

pub returns : goal.returns
returns c = expressions-are-shallow
