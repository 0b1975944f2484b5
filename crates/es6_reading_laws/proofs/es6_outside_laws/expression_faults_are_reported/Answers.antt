use Rattle.es6_reading_laws.proofs.es6_outside_laws.Reported.{expressions-reported}
use Rattle.es6_reading_laws.proofs.es6_outside_laws.expression_faults_are_reported.Goals as goal

pub returns : goal.returns
returns c = expressions-reported
