use Rattle.es6_reading.proofs.LocalReaders.{readings-stay-inserting}
use Rattle.es6_reading.proofs.readings_stay_where_semicolons_are_inserted.Goals as goal

pub returns : goal.returns
returns c = readings-stay-inserting
