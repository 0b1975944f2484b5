use Rattle.es6_reading_laws.proofs.es6_viability.DeadAlone.{no-statement-goes-on}
use Rattle.es6_reading_laws.proofs.es6_viability.no_statement_goes_on_with_a_fault.Goals as goal

pub returns : goal.returns
returns c = no-statement-goes-on
