use Rattle.std.proofs.Common.{◌≡◌, map, take}
use Rattle.module_loading.specs.Requests.{numbered}
use Rattle.module_loading.proofs.numbers.numbered.Given as goal

abbrev pub invariant-loop-request : goal.invariant-loop-request
invariant-loop-request l = l.all ≡ map (numbered l.paths l.base) (take l.request-index l.requests)
