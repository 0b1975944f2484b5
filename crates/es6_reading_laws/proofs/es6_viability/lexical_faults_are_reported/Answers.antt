use Rattle.es6_reading.proofs.Completeness.{what-is-derived-is-read}
use Rattle.es6_reading.proofs.PlacesOfModules.{places, says}
use Rattle.es6_reading_laws.proofs.es6_viability.Passed.{faults-dead, lexical-reported}
use Rattle.es6_reading_laws.proofs.es6_viability.ReadInserted.{none-past}
use Rattle.es6_reading_laws.proofs.es6_viability.lexical_faults_are_reported.Goals as goal

pub returns : goal.returns
returns c = lexical-reported places says (faults-dead places (none-past what-is-derived-is-read))
