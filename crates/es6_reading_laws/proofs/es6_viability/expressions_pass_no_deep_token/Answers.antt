use Rattle.es6_reading_laws.proofs.es6_viability.TooDeep.{expressions-pass-none}
use Rattle.es6_reading_laws.proofs.es6_viability.expressions_pass_no_deep_token.Goals as goal

pub returns : goal.returns
returns c = expressions-pass-none
