use Rattle.es5_reading.proofs.Filled.{read-exactly}
use Rattle.es5_reading.proofs.Stays.{readings-stay-inserting}
use Rattle.es5_reading.proofs.Accepted.{accepted}
use Rattle.es5_reading.proofs.scripts_within_the_limit_are_read.Goals as goal

pub returns : goal.returns
returns c = accepted read-exactly readings-stay-inserting
