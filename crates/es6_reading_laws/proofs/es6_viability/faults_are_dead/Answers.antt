use Rattle.es6_reading.proofs.Completeness.{what-is-derived-is-read}
use Rattle.es6_reading.proofs.PlacesOfModules.{places}
use Rattle.es6_reading_laws.proofs.es6_viability.Passed.{faults-dead}
use Rattle.es6_reading_laws.proofs.es6_viability.ReadInserted.{none-past}
use Rattle.es6_reading_laws.proofs.es6_viability.faults_are_dead.Goals as goal

pub returns : goal.returns
returns c = faults-dead places (none-past what-is-derived-is-read)
