use Rattle.es6_reading.proofs.Completeness.{what-is-derived-is-read}
use Rattle.es6_reading_laws.proofs.AtBreaks.{dead-at-breaks}
use Rattle.es6_reading_laws.proofs.faults_stand_where_no_module_at_breaks_goes_on.Goals as goal

pub returns : goal.returns
returns c = dead-at-breaks what-is-derived-is-read
