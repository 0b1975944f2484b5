use Rattle.std.proofs.Common.{◌≡◌, ◌++◌, drop}
use Rattle.source_meaning.specs.Modules.{request_homes}
use Rattle.source_modules.proofs.run_start.request_homes.Given as goal

abbrev pub invariant-loop-request : goal.invariant-loop-request
invariant-loop-request l = l.homes ++ request_homes (record l.loaded { requests = drop l.request-index l.loaded.requests }) ≡ request_homes l.loaded
