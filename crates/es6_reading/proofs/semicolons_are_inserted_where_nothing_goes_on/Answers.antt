use Rattle.es6_reading.proofs.Filled.{inserting}
use Rattle.es6_reading.proofs.semicolons_are_inserted_where_nothing_goes_on.Goals as goal

pub returns : goal.returns
returns c = inserting
