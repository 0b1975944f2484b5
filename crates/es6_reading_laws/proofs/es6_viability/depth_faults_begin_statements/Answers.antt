use Rattle.es6_reading_laws.proofs.es6_viability.AliveAlone.{depth-begins-statements}
use Rattle.es6_reading_laws.proofs.es6_viability.depth_faults_begin_statements.Goals as goal

pub returns : goal.returns
returns c = depth-begins-statements
