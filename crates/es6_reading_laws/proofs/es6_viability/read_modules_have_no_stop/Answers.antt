use Rattle.es6_reading_laws.proofs.es6_viability.NoStop.{no-stop-in-read}
use Rattle.es6_reading_laws.proofs.es6_viability.read_modules_have_no_stop.Goals as goal

pub returns : goal.returns
returns c = no-stop-in-read
