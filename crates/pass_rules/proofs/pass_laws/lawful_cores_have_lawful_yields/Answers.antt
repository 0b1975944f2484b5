use Rattle.pass_rules.proofs.pass_laws.Starts.{lawful_core}
use Rattle.pass_rules.proofs.pass_laws.lawful_cores_have_lawful_yields.Goals as goal

pub returns : goal.returns
returns c = lawful_core
