use Rattle.std.proofs.Common.{◌≡◌, ◌++◌, false, map, drop}
use Rattle.es6_static_semantics.specs.Outside.{block_names, knows, statement_found}
use Rattle.module_scopes.proofs.bindings.Bindings.block.Given as goal

abbrev pub invariant-loop-statement : goal.invariant-loop-statement
invariant-loop-statement l = l.self ++ map (knows false) (block_names (map statement_found (drop l.statement-index l.statements))) ≡ l.initial.self ++ map (knows false) (block_names (map statement_found l.statements))
