use Rattle.es5_reading.proofs.OneScript.{unambiguous, alike, unique, filled-once}
use Rattle.es5_reading.proofs.Filled.{read-exactly}
use Rattle.es5_reading.proofs.tokens_spell_one_script.Goals as goal

pub returns-clause-exact : goal.returns-clause-exact
returns-clause-exact c = unique (unambiguous read-exactly)

pub returns-clause-aside : goal.returns-clause-aside
returns-clause-aside c = filled-once (alike (unambiguous read-exactly))
