use Rattle.std.proofs.Common.{length}
use Rattle.es6_trees.specs.Built.{AreParametersOf}
use Rattle.es6_trees.proofs.Taking.{Taken}
use Rattle.es6_trees.proofs.parameters.more_parameters.Given as goal

abbrev pub invariant-taking : goal.invariant-taking
invariant-taking l = Taken (AreParametersOf l.depth) l.initial.left l.left l.back.items

abbrev pub decreases-taking : goal.decreases-taking
decreases-taking l = length l.left
