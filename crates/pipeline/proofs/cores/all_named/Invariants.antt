use Rattle.std.proofs.Common.{◌≡◌, ◌++◌, drop, map}
use Rattle.pipeline.specs.Compiled.{requested_modules}
use Rattle.pipeline.proofs.cores.all_named.Given as goal

abbrev pub invariant-loop-module : goal.invariant-loop-module
invariant-loop-module l = l.graph ++ map requested_modules (drop l.module-index l.modules) ≡ map requested_modules l.modules
