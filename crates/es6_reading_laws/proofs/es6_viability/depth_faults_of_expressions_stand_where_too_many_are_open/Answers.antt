use Rattle.es6_reading_laws.proofs.es6_viability.TooDeep.{expressions-are-too-deep}
use Rattle.es6_reading_laws.proofs.es6_viability.depth_faults_of_expressions_stand_where_too_many_are_open.Goals as goal

pub returns : goal.returns
returns c = expressions-are-too-deep
