use Rattle.es6_reading_laws.proofs.es6_viability.Placed.{depth-stops}
use Rattle.es6_reading_laws.proofs.es6_viability.depth_faults_are_stops.Goals as goal

pub returns : goal.returns
returns c = depth-stops
