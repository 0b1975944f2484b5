use Rattle.es5_reading.proofs.Filled.{complete, read-exactly}
use Rattle.es5_reading.proofs.what_is_derived_is_read.Goals as goal

pub returns-clause-every : goal.returns-clause-every
returns-clause-every c = complete

pub returns-clause-exact : goal.returns-clause-exact
returns-clause-exact c = read-exactly
