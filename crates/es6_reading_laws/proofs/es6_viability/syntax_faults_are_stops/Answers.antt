use Rattle.es6_reading_laws.proofs.es6_viability.NoStop.{syntax-stops}
use Rattle.es6_reading_laws.proofs.es6_viability.syntax_faults_are_stops.Goals as goal

pub returns : goal.returns
returns c = syntax-stops
