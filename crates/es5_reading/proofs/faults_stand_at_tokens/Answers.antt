use Rattle.es5_reading.proofs.Places.{places}
use Rattle.es5_reading.proofs.faults_stand_at_tokens.Goals as goal

pub returns : goal.returns
returns c = places
