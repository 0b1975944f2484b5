-- All laws of refinements.
use Rattle.std.proofs.Common.{false}
use Rattle.es6_reading.specs.Refine.{refine_pattern}
use Rattle.es6_reading.specs.Refinements.{AreRefined}
use Rattle.es6_reading.proofs.RefineTargets.{targets}
use Rattle.es6_reading.proofs.RefineParameters.{one-part, parameters, covered}
use Rattle.es6_reading.proofs.RefineMisfits.{places, assigned}

pub refinement : AreRefined
unfolding refine_pattern
refinement = record {
  targets = targets false;
  parts = λ n f least ts us x d. one-part n f x d;
  assigned = assigned;
  parameters = parameters;
  covered = covered;
  places = places;
}
