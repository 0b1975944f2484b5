use Rattle.es6_reading_laws.proofs.es6_viability.NoStop.{no-stop-passed}
use Rattle.es6_reading_laws.proofs.es6_viability.no_stop_is_passed.Goals as goal

pub returns : goal.returns
returns c = no-stop-passed
