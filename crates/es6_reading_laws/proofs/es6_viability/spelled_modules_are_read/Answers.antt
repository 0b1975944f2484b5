use Rattle.es6_reading.proofs.Completeness.{what-is-derived-is-read}
use Rattle.es6_reading_laws.proofs.es6_viability.ReadInserted.{read-spelled}
use Rattle.es6_reading_laws.proofs.es6_viability.spelled_modules_are_read.Goals as goal

pub returns : goal.returns
returns c = read-spelled what-is-derived-is-read
