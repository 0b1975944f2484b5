use Rattle.std.proofs.Common.{◌≡◌, map, take}
use Rattle.rebuild.specs.Opening.{opened_request}
use Rattle.rebuild.proofs.opening.open_requests.Given as goal

abbrev pub invariant-loop-request : goal.invariant-loop-request
invariant-loop-request l = l.all ≡ map opened_request (take l.request-index l.requests)
