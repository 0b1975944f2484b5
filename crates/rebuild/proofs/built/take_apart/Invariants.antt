use Rattle.std.proofs.Common.{◌≡◌, ◌++◌, length, map, reverse}
use Rattle.rebuild.proofs.built.take_apart.Given as goal

abbrev pub invariant-loop-made : goal.invariant-loop-made
invariant-loop-made g l =
    map g.G.RelinksModules.opened l.modules ++ reverse l.back.items ≡ map g.G.RelinksModules.opened (g.G.RelinksModules.modules_in l.fn.graph)

abbrev pub decreases-loop-made : goal.decreases-loop-made
decreases-loop-made g l = length l.modules
