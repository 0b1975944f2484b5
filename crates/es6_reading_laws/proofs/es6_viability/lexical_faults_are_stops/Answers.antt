use Rattle.es6_reading_laws.proofs.es6_viability.NoStop.{lexical-stops}
use Rattle.es6_reading_laws.proofs.es6_viability.lexical_faults_are_stops.Goals as goal

pub returns : goal.returns
returns c = lexical-stops
