use Rattle.std.proofs.Common.{◌≡◌, ◌++◌, drop}
use Rattle.es6_static_semantics.specs.Findings.{joined}
use Rattle.module_requests.specs.Requests.{requests_in}
use Rattle.module_requests.proofs.requests.add_requests.Given as goal

abbrev pub invariant-loop-item : goal.invariant-loop-item
invariant-loop-item l = l.all ++ joined requests_in (drop l.item-index l.items) ≡ l.initial.all ++ joined requests_in l.items
