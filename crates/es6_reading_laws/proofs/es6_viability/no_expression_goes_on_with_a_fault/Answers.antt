use Rattle.es6_reading_laws.proofs.es6_viability.DeadAlone.{no-expression-goes-on}
use Rattle.es6_reading_laws.proofs.es6_viability.no_expression_goes_on_with_a_fault.Goals as goal

pub returns : goal.returns
returns c = no-expression-goes-on
