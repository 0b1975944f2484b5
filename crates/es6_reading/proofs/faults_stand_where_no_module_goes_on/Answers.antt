use Rattle.es6_reading.proofs.LocalReaders.{dead-faults}
use Rattle.es6_reading.proofs.Completeness.{what-is-derived-is-read}
use Rattle.es6_reading.proofs.faults_stand_where_no_module_goes_on.Goals as goal

pub returns : goal.returns
returns c = dead-faults what-is-derived-is-read
