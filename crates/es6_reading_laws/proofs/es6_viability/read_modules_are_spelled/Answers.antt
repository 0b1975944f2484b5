use Rattle.es6_reading.proofs.Completeness.{what-is-derived-is-read}
use Rattle.es6_reading_laws.proofs.es6_viability.Readers.{spelled}
use Rattle.es6_reading_laws.proofs.es6_viability.read_modules_are_spelled.Goals as goal

pub returns : goal.returns
returns c = spelled what-is-derived-is-read
