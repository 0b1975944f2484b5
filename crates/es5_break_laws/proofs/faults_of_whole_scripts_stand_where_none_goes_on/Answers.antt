use Rattle.es5_reading.proofs.Filled.{complete}
use Rattle.es5_reading.proofs.Stays.{full-readings}
use Rattle.es5_reading_laws.proofs.DeadFaults.{faults-stay}
use Rattle.es5_break_laws.proofs.WholeScripts.{whole-dead}
use Rattle.es5_break_laws.proofs.faults_of_whole_scripts_stand_where_none_goes_on.Goals as goal

pub returns : goal.returns
returns c = whole-dead (full-readings complete) faults-stay
