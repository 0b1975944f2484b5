use Rattle.es6_reading_laws.proofs.es6_viability.NoStop.{first-stops}
use Rattle.es6_reading_laws.proofs.es6_viability.faults_stand_at_stops.Goals as goal

pub returns : goal.returns
returns c = first-stops
