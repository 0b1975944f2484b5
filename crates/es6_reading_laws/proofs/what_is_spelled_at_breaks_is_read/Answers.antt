use Rattle.es6_reading.proofs.Completeness.{what-is-derived-is-read}
use Rattle.es6_reading_laws.proofs.AtBreaks.{read-at-breaks}
use Rattle.es6_reading_laws.proofs.what_is_spelled_at_breaks_is_read.Goals as goal

pub returns : goal.returns
returns c = read-at-breaks what-is-derived-is-read
