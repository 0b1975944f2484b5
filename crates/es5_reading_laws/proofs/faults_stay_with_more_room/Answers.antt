use Rattle.es5_reading_laws.proofs.DeadFaults.{faults-stay}
use Rattle.es5_reading_laws.proofs.faults_stay_with_more_room.Goals as goal

pub returns : goal.returns
returns c = faults-stay
