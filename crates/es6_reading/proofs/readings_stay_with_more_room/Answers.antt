use Rattle.es6_reading.proofs.LocalReaders.{readings-stay}
use Rattle.es6_reading.proofs.readings_stay_with_more_room.Goals as goal

pub returns : goal.returns
returns c = readings-stay
