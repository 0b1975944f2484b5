use Rattle.std.proofs.Common.{◌≡◌, drop}
use Rattle.es6_static_semantics.specs.Endings.{requested}
use Rattle.source_modules.proofs.imports.requested.Given as goal

abbrev pub invariant-loop-request : goal.invariant-loop-request
invariant-loop-request l = requested (drop l.request-index l.requests) l.from ≡ requested l.requests l.from
