use Rattle.es6_reading_laws.proofs.es6_viability.AliveAlone.{depth-begins-expressions}
use Rattle.es6_reading_laws.proofs.es6_viability.depth_faults_begin_expressions.Goals as goal

pub returns : goal.returns
returns c = depth-begins-expressions
