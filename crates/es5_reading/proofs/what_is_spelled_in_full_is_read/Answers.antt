use Rattle.es5_reading.proofs.Filled.{complete, read-exactly}
use Rattle.es5_reading.proofs.Stays.{full-readings, exact-full-readings}
use Rattle.es5_reading.proofs.what_is_spelled_in_full_is_read.Goals as goal

pub returns-clause-every : goal.returns-clause-every
returns-clause-every c = full-readings complete

pub returns-clause-exact : goal.returns-clause-exact
returns-clause-exact c = exact-full-readings read-exactly
