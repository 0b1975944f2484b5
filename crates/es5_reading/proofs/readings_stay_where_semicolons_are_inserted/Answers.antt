use Rattle.es5_reading.proofs.Stays.{readings-stay-inserting}
use Rattle.es5_reading.proofs.readings_stay_where_semicolons_are_inserted.Goals as goal

pub returns : goal.returns
returns c = readings-stay-inserting
