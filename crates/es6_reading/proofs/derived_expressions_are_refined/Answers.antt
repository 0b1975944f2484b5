use Rattle.es6_reading.proofs.Refinement.{refinement}
use Rattle.es6_reading.proofs.derived_expressions_are_refined.Goals as goal

pub returns : goal.returns
returns c = refinement
