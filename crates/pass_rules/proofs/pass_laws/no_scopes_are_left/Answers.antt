use Rattle.pass_rules.specs.pass_laws.Levels.{anything}
use Rattle.pass_rules.proofs.pass_laws.Scopes.{scopes_out}
use Rattle.pass_rules.proofs.pass_laws.Starts.{any_core}
use Rattle.pass_rules.proofs.pass_laws.no_scopes_are_left.Goals as goal

pub returns : goal.returns
returns c = record { none = λ core. scopes_out anything anything core (any_core core); else_kept = scopes_out }
