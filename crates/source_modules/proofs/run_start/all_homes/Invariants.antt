use Rattle.std.proofs.Common.{◌≡◌, ◌++◌, drop, map}
use Rattle.source_meaning.specs.Modules.{request_homes}
use Rattle.source_modules.proofs.run_start.all_homes.Given as goal

abbrev pub invariant-loop-loaded : goal.invariant-loop-loaded
invariant-loop-loaded l = l.homes ++ map request_homes (drop l.loaded-index l.modules) ≡ map request_homes l.modules
