use Rattle.es6_reading_laws.proofs.es6_viability.TooDeep.{statements-pass-none}
use Rattle.es6_reading_laws.proofs.es6_viability.statements_pass_no_deep_token.Goals as goal

pub returns : goal.returns
returns c = statements-pass-none
