use Rattle.es6_reading.proofs.Examples.{is-deepest}
use Rattle.es6_reading.proofs.one_construct_too_many_stops.Goals as goal

pub returns : goal.returns
returns c = is-deepest
