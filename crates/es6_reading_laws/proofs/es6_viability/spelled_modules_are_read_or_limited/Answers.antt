use Rattle.es6_reading.proofs.Completeness.{what-is-derived-is-read}
use Rattle.es6_reading.proofs.OneModule.{one-module}
use Rattle.es6_reading.proofs.PlacesOfModules.{places}
use Rattle.es6_reading.proofs.Spelled.{spelled}
use Rattle.es6_reading_laws.proofs.es6_viability.Passed.{read-or-limited}
use Rattle.es6_reading_laws.proofs.es6_viability.ReadInserted.{none-past}
use Rattle.es6_reading_laws.proofs.es6_viability.spelled_modules_are_read_or_limited.Goals as goal

pub returns : goal.returns
returns c = read-or-limited places (one-module what-is-derived-is-read) (spelled what-is-derived-is-read) (none-past what-is-derived-is-read)
