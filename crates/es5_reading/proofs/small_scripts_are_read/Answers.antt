use Rattle.es5_reading.proofs.Examples.{are-read}
use Rattle.es5_reading.proofs.small_scripts_are_read.Goals as goal

pub returns : goal.returns
returns c = are-read
