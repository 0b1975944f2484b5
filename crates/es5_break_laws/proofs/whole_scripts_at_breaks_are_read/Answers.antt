use Rattle.es5_reading.proofs.Filled.{read-exactly}
use Rattle.es5_reading.proofs.Stays.{exact-full-readings}
use Rattle.es5_reading_laws.proofs.DeadFaults.{answers-last}
use Rattle.es5_break_laws.proofs.WholeScripts.{whole-read}
use Rattle.es5_break_laws.proofs.whole_scripts_at_breaks_are_read.Goals as goal

pub returns : goal.returns
returns c = whole-read (exact-full-readings read-exactly) answers-last
