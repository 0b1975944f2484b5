use Rattle.es6_reading_laws.proofs.Fronts.{statements-are-read}
use Rattle.es6_reading_laws.proofs.statements_at_breaks_are_read.Goals as goal

pub returns : goal.returns
returns c = statements-are-read
