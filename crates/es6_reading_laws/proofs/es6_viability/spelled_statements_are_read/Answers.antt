use Rattle.es6_reading_laws.proofs.es6_viability.Fronts.{spelled-statements}
use Rattle.es6_reading_laws.proofs.es6_viability.spelled_statements_are_read.Goals as goal

pub returns : goal.returns
returns c = spelled-statements
