use Rattle.std.proofs.Common.{◌≡◌, drop}
use Rattle.core_ast.specs.Mentions.{scopes}
use Rattle.core_ast.proofs.gathering.Mentions.scope.Given as goal

abbrev pub invariant-loop-name : goal.invariant-loop-name
invariant-loop-name l = scopes (drop l.name-index l.names) l.self ≡ scopes l.names l.initial.self
