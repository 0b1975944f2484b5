use Rattle.lowering_laws.proofs.Statements.{places_differ}
use Rattle.lowering_laws.proofs.labels_of_places_differ.Goals as goal

pub returns : goal.returns
returns c = places_differ
