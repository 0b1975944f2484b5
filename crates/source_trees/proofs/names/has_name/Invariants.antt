use Rattle.std.proofs.Common.{◌≡◌, drop}
use Rattle.source_meaning.specs.Trees.{has_name}
use Rattle.source_trees.proofs.names.has_name.Given as goal

abbrev pub invariant-loop-one : goal.invariant-loop-one
invariant-loop-one l = has_name (drop l.one-index l.names) l.name ≡ has_name l.names l.name
