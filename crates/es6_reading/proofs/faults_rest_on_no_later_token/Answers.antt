use Rattle.es6_reading.proofs.LocalReaders.{local-faults}
use Rattle.es6_reading.proofs.faults_rest_on_no_later_token.Goals as goal

pub returns : goal.returns
returns c = local-faults
