use Rattle.pass_rules.proofs.pass_laws.Yields.{yields_out}
use Rattle.pass_rules.proofs.pass_laws.no_yields_are_left_in_expressions.Goals as goal

pub returns : goal.returns
returns c = yields_out
