use Rattle.es6_reading.proofs.Cover.{cover}
use Rattle.es6_reading.proofs.derived_patterns_come_from_expressions.Goals as goal

pub returns : goal.returns
returns c = cover
