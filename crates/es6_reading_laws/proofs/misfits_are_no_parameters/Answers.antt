use Rattle.es6_reading_laws.proofs.NoParameters.{no-parameters}
use Rattle.es6_reading_laws.proofs.misfits_are_no_parameters.Goals as goal

pub returns : goal.returns
returns c = no-parameters
