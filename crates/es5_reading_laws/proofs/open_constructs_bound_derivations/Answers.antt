use Rattle.es5_reading_laws.proofs.Depths.{within-depth}
use Rattle.es5_reading_laws.proofs.open_constructs_bound_derivations.Goals as goal

pub returns : goal.returns
returns c = within-depth
