use Rattle.std.proofs.Common.{◌≡◌, ◌++◌, drop, map}
use Rattle.lower_walk.specs.lower_names.Counting.{kept}
use Rattle.lower_listed.specs.Hoisted.{hoisted_of}
use Rattle.lower_listed.proofs.hoisted.marked.Given as goal

abbrev pub invariant-loop-function : goal.invariant-loop-function
invariant-loop-function l =
    map hoisted_of l.kept ++ kept l.left (map hoisted_of (drop l.function-index l.functions)) ≡ kept l.marks (map hoisted_of l.functions)
