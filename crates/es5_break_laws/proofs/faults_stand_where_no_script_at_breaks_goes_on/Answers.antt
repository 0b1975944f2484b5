use Rattle.es5_reading.proofs.Filled.{complete}
use Rattle.es5_reading.proofs.Stays.{full-readings}
use Rattle.es5_reading_laws.proofs.DeadFaults.{faults-stay}
use Rattle.es5_break_laws.proofs.AtBreaks.{dead-at-breaks}
use Rattle.es5_break_laws.proofs.faults_stand_where_no_script_at_breaks_goes_on.Goals as goal

pub returns : goal.returns
returns c = dead-at-breaks (full-readings complete) faults-stay
