use Rattle.es6_reading.specs.Refine.{target_before}
use Rattle.es6_cursor.specs.Readers.{turns}
use Rattle.es6_cursor.proofs.Loops.{turns_is}
use Rattle.es6_trees.proofs.refining.assigned_target.Goals as goal

pub returns : goal.returns
returns c = c.fitting.ensures (target_before turns c.args.operator c.args.target) (rw turns_is c.target_before.ensures)
