use Rattle.es6_reading_laws.proofs.es6_outside_laws.Reported.{statements-reported}
use Rattle.es6_reading_laws.proofs.es6_outside_laws.statement_faults_are_reported.Goals as goal

pub returns : goal.returns
returns c = statements-reported
