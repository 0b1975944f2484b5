use Rattle.es6_reading_laws.proofs.es6_outside_laws.Reported.{faults-reported}
use Rattle.es6_reading_laws.proofs.es6_outside_laws.faults_are_reported.Goals as goal

pub returns : goal.returns
returns c = faults-reported
