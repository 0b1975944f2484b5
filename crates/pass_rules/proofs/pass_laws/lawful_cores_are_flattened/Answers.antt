use Rattle.pass_rules.specs.pass_laws.Laws.{AllIsOut, ScopesAreOut, YieldsAreOut}
use Rattle.pass_rules.specs.pass_laws.Levels.{lawful_inside, lawful_outside, nothing, unscoped}
use Rattle.pass_rules.specs.Scopes.{without_scopes}
use Rattle.pass_rules.specs.yield_rules.Yields.{with_yields_flat}
use Rattle.pass_rules.proofs.pass_laws.Scopes.{scopes_out}
use Rattle.pass_rules.proofs.pass_laws.Yields.{yields_out}
use Rattle.pass_rules.proofs.pass_laws.Machines.{machines_out}
use Rattle.pass_rules.proofs.pass_laws.Starts.{lawful_core}
use Rattle.pass_rules.proofs.pass_laws.lawful_cores_are_flattened.Goals as goal

scopes_are_out : ScopesAreOut
scopes_are_out core h = scopes_out lawful_inside lawful_outside core (lawful_core core h)

yields_are_out : YieldsAreOut
yields_are_out core h = yields_out (unscoped lawful_inside) (unscoped lawful_outside) (without_scopes core) (scopes_are_out core h)

all_is_out : AllIsOut
all_is_out core h = machines_out nothing (with_yields_flat (without_scopes core)) (yields_are_out core h)

pub returns : goal.returns
returns c = record { scopes = scopes_are_out; yields = yields_are_out; all = all_is_out }
