use Rattle.es6_reading.proofs.PlacesOfModules.{places}
use Rattle.es6_reading.proofs.faults_stand_at_tokens.Goals as goal

pub returns : goal.returns
returns c = places
