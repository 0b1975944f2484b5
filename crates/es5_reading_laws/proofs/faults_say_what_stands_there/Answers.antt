use Rattle.es5_reading_laws.proofs.DeadFaults.{faults-say}
use Rattle.es5_reading_laws.proofs.faults_say_what_stands_there.Goals as goal

pub returns : goal.returns
returns c = faults-say
