use Rattle.es5_reading.proofs.Filled.{read-exactly}
use Rattle.es5_reading.proofs.Stays.{readings-stay-inserting}
use Rattle.es5_reading.proofs.Accepted.{accepted}
use Rattle.es5_reading_laws.proofs.Depths.{within-depth}
use Rattle.es5_reading_laws.proofs.Shallow.{shallow-read}
use Rattle.es5_reading_laws.proofs.shallow_scripts_are_read.Goals as goal

pub returns : goal.returns
returns c = shallow-read within-depth (accepted read-exactly readings-stay-inserting)
