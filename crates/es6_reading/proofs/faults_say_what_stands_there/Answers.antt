use Rattle.es6_reading.proofs.PlacesOfModules.{says}
use Rattle.es6_reading.proofs.faults_say_what_stands_there.Goals as goal

pub returns : goal.returns
returns c = says
