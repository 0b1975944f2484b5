use Rattle.std.proofs.Common.{◌≡◌, ◌++◌, map, take}
use Rattle.source_meaning.specs.Trees.{name_of}
use Rattle.source_trees.proofs.names.add_names.Given as goal

abbrev pub invariant-loop-name : goal.invariant-loop-name
invariant-loop-name l = l.names ≡ l.fn.names ++ map name_of (take l.name-index l.placed)
