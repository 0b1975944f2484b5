use Rattle.es5_reading.proofs.Filled.{read-exactly}
use Rattle.es5_reading.proofs.Stays.{exact-full-readings}
use Rattle.es5_break_laws.proofs.AtBreaks.{read-at-breaks}
use Rattle.es5_break_laws.proofs.scripts_at_breaks_are_read.Goals as goal

pub returns : goal.returns
returns c = read-at-breaks (exact-full-readings read-exactly)
