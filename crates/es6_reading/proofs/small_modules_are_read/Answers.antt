use Rattle.es6_reading.proofs.Examples.{are-read}
use Rattle.es6_reading.proofs.small_modules_are_read.Goals as goal

pub returns : goal.returns
returns c = are-read
