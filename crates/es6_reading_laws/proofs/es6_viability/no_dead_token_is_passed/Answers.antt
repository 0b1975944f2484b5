use Rattle.es6_reading.proofs.Completeness.{what-is-derived-is-read}
use Rattle.es6_reading.proofs.PlacesOfModules.{places}
use Rattle.es6_reading_laws.proofs.es6_viability.Passed.{no-dead}
use Rattle.es6_reading_laws.proofs.es6_viability.Readers.{tokens-alive}
use Rattle.es6_reading_laws.proofs.es6_viability.no_dead_token_is_passed.Goals as goal

pub returns : goal.returns
returns c = no-dead places (tokens-alive what-is-derived-is-read)
