use Rattle.std.proofs.Common.{◌+◌, ◌*◌, length}
use Rattle.es6_trees.specs.Built.{AreArrayPartsOf, AreObjectPartsOf}
use Rattle.es6_trees.proofs.Taking.{Taken}
use Rattle.es6_trees.proofs.build.+build.Given as goal

abbrev pub invariant-array_parts_of-taking : goal.invariant-array_parts_of-taking
invariant-array_parts_of-taking l = Taken (AreArrayPartsOf l.depth) l.initial.left l.left l.parts.items

abbrev pub decreases-array_parts_of-taking : goal.decreases-array_parts_of-taking
decreases-array_parts_of-taking l = length l.left

abbrev pub invariant-object_parts_of-taking : goal.invariant-object_parts_of-taking
invariant-object_parts_of-taking l = Taken (AreObjectPartsOf l.depth) l.initial.left l.left l.parts.items

abbrev pub decreases-object_parts_of-taking : goal.decreases-object_parts_of-taking
decreases-object_parts_of-taking l = length l.left

abbrev pub decreases-pattern_of : goal.decreases-pattern_of
decreases-pattern_of l = l.depth * 8

abbrev pub decreases-target_of : goal.decreases-target_of
decreases-target_of l = l.depth * 8 + 1

abbrev pub decreases-part_of : goal.decreases-part_of
decreases-part_of l = l.depth * 8 + 2

abbrev pub decreases-array_part_of : goal.decreases-array_part_of
decreases-array_part_of l = l.depth * 8 + 3

abbrev pub decreases-object_part_of : goal.decreases-object_part_of
decreases-object_part_of l = l.depth * 8 + 3

abbrev pub decreases-array_parts_of : goal.decreases-array_parts_of
decreases-array_parts_of l = l.depth * 8 + 4

abbrev pub decreases-object_parts_of : goal.decreases-object_parts_of
decreases-object_parts_of l = l.depth * 8 + 4
