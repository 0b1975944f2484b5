use Rattle.es5_reading.proofs.Stays.{readings-stay}
use Rattle.es5_reading.proofs.readings_stay_with_more_room.Goals as goal

pub returns : goal.returns
returns c = readings-stay
