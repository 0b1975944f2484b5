use Rattle.std.proofs.Common.{◌≡◌, ◌++◌, map, take}
use Rattle.source_meaning.specs.Environments.{unbound}
use Rattle.source_meaning.specs.Trees.{lexical}
use Rattle.source_trees.proofs.lexicals.add_unbound.Given as goal

abbrev pub invariant-loop-name : goal.invariant-loop-name
invariant-loop-name l = l.bindings ≡ l.fn.bindings ++ map unbound (map (lexical l.mutable) (take l.name-index l.names))
