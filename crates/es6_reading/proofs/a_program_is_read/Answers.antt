use Rattle.es6_reading.proofs.Examples.{is-program-read}
use Rattle.es6_reading.proofs.a_program_is_read.Goals as goal

pub returns : goal.returns
returns c = is-program-read
