use Rattle.es6_reading.proofs.ShallowModules.{depth}
use Rattle.es6_reading.proofs.modules_are_shallow.Goals as goal

pub returns : goal.returns
returns c = depth
