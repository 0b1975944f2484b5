use Rattle.es6_reading_laws.proofs.es6_viability.TooDeep.{none-too-deep}
use Rattle.es6_reading_laws.proofs.es6_viability.no_deep_token_is_passed.Goals as goal

pub returns : goal.returns
returns c = none-too-deep
