use Rattle.es6_reading.proofs.Completeness.{what-is-derived-is-read}
use Rattle.es6_reading.proofs.what_is_derived_is_read.Goals as goal

pub returns : goal.returns
returns c = what-is-derived-is-read
