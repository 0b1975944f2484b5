use Rattle.es6_reading_laws.proofs.es6_viability.AliveAlone.{expressions-begin}
use Rattle.es6_reading_laws.proofs.es6_viability.tokens_before_faults_begin_expressions.Goals as goal

pub returns : goal.returns
returns c = expressions-begin
