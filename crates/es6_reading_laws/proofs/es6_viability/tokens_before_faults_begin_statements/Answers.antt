use Rattle.es6_reading_laws.proofs.es6_viability.AliveAlone.{statements-begin}
use Rattle.es6_reading_laws.proofs.es6_viability.tokens_before_faults_begin_statements.Goals as goal

pub returns : goal.returns
returns c = statements-begin
