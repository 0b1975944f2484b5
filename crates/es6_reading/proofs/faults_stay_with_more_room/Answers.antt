use Rattle.es6_reading.proofs.LocalReaders.{faults-stay}
use Rattle.es6_reading.proofs.faults_stay_with_more_room.Goals as goal

pub returns : goal.returns
returns c = faults-stay
