use Rattle.es6_reading_laws.proofs.es6_viability.Placed.{depth-before-end}
use Rattle.es6_reading_laws.proofs.es6_viability.depth_faults_stand_before_the_end.Goals as goal

pub returns : goal.returns
returns c = depth-before-end
