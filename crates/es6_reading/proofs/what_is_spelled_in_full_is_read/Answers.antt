use Rattle.es6_reading.proofs.LocalReaders.{full-readings}
use Rattle.es6_reading.proofs.Completeness.{what-is-derived-is-read}
use Rattle.es6_reading.proofs.what_is_spelled_in_full_is_read.Goals as goal

pub returns : goal.returns
returns c = full-readings what-is-derived-is-read
