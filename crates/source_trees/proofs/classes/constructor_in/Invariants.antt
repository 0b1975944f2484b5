use Rattle.std.proofs.Common.{◌≡◌, drop}
use Rattle.source_meaning.specs.Trees.{constructor_in}
use Rattle.source_trees.proofs.classes.constructor_in.Given as goal

abbrev pub invariant-loop-member : goal.invariant-loop-member
invariant-loop-member l = constructor_in (drop l.member-index l.members) ≡ constructor_in l.members
