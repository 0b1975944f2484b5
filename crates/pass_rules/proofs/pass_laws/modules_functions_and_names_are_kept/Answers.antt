use Rattle.pass_rules.proofs.pass_laws.Faces.{machines_keep, scopes_keep, yields_keep}
use Rattle.pass_rules.proofs.pass_laws.modules_functions_and_names_are_kept.Goals as goal

pub returns : goal.returns
returns c = record { scopes = scopes_keep; yields = yields_keep; machines = machines_keep }
