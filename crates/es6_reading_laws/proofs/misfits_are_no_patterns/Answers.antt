use Rattle.es6_reading_laws.proofs.OneExpression.{no-patterns}
use Rattle.es6_reading_laws.proofs.misfits_are_no_patterns.Goals as goal

pub returns : goal.returns
returns c = no-patterns
