use Rattle.es5_script_laws.proofs.OneScript.{one-tree, one-script}
use Rattle.es5_script_laws.proofs.bytes_spell_one_script.Goals as goal

pub returns-clause-exact : goal.returns-clause-exact
returns-clause-exact c = one-script

pub returns-clause-aside : goal.returns-clause-aside
returns-clause-aside c = one-tree
