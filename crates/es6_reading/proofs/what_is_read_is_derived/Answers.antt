use Rattle.es6_reading.proofs.Soundness.{soundness}
use Rattle.es6_reading.proofs.what_is_read_is_derived.Goals as goal

pub returns : goal.returns
returns c = soundness
