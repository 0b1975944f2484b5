use Rattle.es5_reading.proofs.OneScript.{unambiguous, alike}
use Rattle.es5_reading.proofs.Filled.{read-exactly}
use Rattle.es5_reading.proofs.derivations_give_one_script.Goals as goal

pub returns-clause-exact : goal.returns-clause-exact
returns-clause-exact c = unambiguous read-exactly

pub returns-clause-aside : goal.returns-clause-aside
returns-clause-aside c = alike (unambiguous read-exactly)
