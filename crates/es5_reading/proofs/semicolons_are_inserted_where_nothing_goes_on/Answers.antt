use Rattle.es5_reading.proofs.Filled.{filled}
use Rattle.es5_reading.proofs.semicolons_are_inserted_where_nothing_goes_on.Goals as goal

pub returns : goal.returns
returns c = filled
