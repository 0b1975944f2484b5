use Rattle.std.proofs.Common.{take}
use Rattle.script_maps.specs.Mapped.{AreSources}
use Rattle.script_maps.proofs.sources.sources_of.Given as goal

abbrev pub invariant-loop-module : goal.invariant-loop-module
invariant-loop-module l = AreSources (take l.module-index l.modules) l.sources
