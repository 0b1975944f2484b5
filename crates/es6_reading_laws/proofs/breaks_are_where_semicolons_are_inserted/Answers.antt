use Rattle.es6_reading.proofs.Completeness.{what-is-derived-is-read}
use Rattle.es6_reading_laws.proofs.AtBreaks.{inserted-at-breaks}
use Rattle.es6_reading_laws.proofs.breaks_are_where_semicolons_are_inserted.Goals as goal

pub returns : goal.returns
returns c = inserted-at-breaks what-is-derived-is-read
