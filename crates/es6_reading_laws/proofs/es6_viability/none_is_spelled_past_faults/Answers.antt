use Rattle.es6_reading.proofs.Completeness.{what-is-derived-is-read}
use Rattle.es6_reading_laws.proofs.es6_viability.ReadInserted.{none-past}
use Rattle.es6_reading_laws.proofs.es6_viability.none_is_spelled_past_faults.Goals as goal

pub returns : goal.returns
returns c = none-past what-is-derived-is-read
