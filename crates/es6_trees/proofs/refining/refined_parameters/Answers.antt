use Rattle.es6_reading.specs.Refine.{refine_parameters}
use Rattle.es6_cursor.specs.Readers.{turns}
use Rattle.es6_cursor.proofs.Loops.{turns_is}
use Rattle.es6_trees.proofs.refining.refined_parameters.Goals as goal

pub returns : goal.returns
returns c = c.fitting.ensures (refine_parameters turns c.args.head.value) (rw turns_is (rw c.into_value.ensures at c.parameters_within-refined.ensures))
