use Rattle.es6_reading_laws.proofs.es6_viability.ShallowLaws.{statements-are-shallow}
use Rattle.es6_reading_laws.proofs.es6_viability.statements_are_shallow.Goals as goal

pub returns : goal.returns
returns c = statements-are-shallow
