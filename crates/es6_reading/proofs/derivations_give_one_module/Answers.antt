use Rattle.es6_reading.proofs.Spelled.{unambiguous}
use Rattle.es6_reading.proofs.Completeness.{what-is-derived-is-read}
use Rattle.es6_reading.proofs.derivations_give_one_module.Goals as goal

pub returns : goal.returns
returns c = unambiguous what-is-derived-is-read
