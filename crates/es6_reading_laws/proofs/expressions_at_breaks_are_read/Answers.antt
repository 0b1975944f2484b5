use Rattle.es6_reading_laws.proofs.Fronts.{expressions-are-read}
use Rattle.es6_reading_laws.proofs.expressions_at_breaks_are_read.Goals as goal

pub returns : goal.returns
returns c = expressions-are-read
