use Rattle.es5_reading.proofs.Scripts.{scripts}
use Rattle.es5_reading.proofs.scripts_are_spelled.Goals as goal

pub returns : goal.returns
returns c = scripts
