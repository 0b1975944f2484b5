use Rattle.es6_reading.proofs.OneModule.{one-module}
use Rattle.es6_reading.proofs.Completeness.{what-is-derived-is-read}
use Rattle.es6_reading.proofs.tokens_spell_one_module.Goals as goal

pub returns : goal.returns
returns c = one-module what-is-derived-is-read
