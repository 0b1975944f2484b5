use Rattle.std.proofs.Common.{◌≡◌, ◌++◌, drop, map}
use Rattle.module_lowering.specs.Modules.{imported_spaces}
use Rattle.graph_bindings.proofs.spaces.all_spaces.Given as goal

abbrev pub invariant-loop-loaded : goal.invariant-loop-loaded
invariant-loop-loaded l = l.spaces ++ map imported_spaces (drop l.loaded-index l.modules) ≡ map imported_spaces l.modules
