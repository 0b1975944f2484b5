use Rattle.es6_reading.proofs.Completeness.{what-is-derived-is-read}
use Rattle.es6_reading_laws.proofs.es6_viability.Readers.{tokens-alive}
use Rattle.es6_reading_laws.proofs.es6_viability.tokens_before_faults_are_alive.Goals as goal

pub returns : goal.returns
returns c = tokens-alive what-is-derived-is-read
