use Rattle.es5_reading.proofs.Filled.{complete}
use Rattle.es5_reading.proofs.Stays.{full-readings}
use Rattle.es5_reading_laws.proofs.DeadFaults.{dead-faults}
use Rattle.es5_reading_laws.proofs.faults_stand_where_no_script_goes_on.Goals as goal

pub returns : goal.returns
returns c = dead-faults (full-readings complete)
