use Rattle.es5_reading.proofs.Filled.{filled, read-exactly}
use Rattle.es5_reading.proofs.Stays.{exact-full-readings}
use Rattle.es5_break_laws.proofs.AtBreaks.{inserted-at-breaks}
use Rattle.es5_break_laws.proofs.breaks_are_where_semicolons_are_inserted.Goals as goal

pub returns : goal.returns
returns c = inserted-at-breaks (exact-full-readings read-exactly) filled
