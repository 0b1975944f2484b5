use Rattle.pass_rules.proofs.pass_laws.FlatCores.{scopes_keep_law}
use Rattle.pass_rules.proofs.pass_laws.lawful_cores_stay_lawful_without_scopes.Goals as goal

pub returns : goal.returns
returns c = scopes_keep_law
