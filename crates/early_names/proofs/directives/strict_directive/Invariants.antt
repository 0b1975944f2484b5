use Rattle.std.proofs.Common.{◌≡◌, drop, map}
use Rattle.es6_static_semantics.specs.Early.{statement_found, strict_directive}
use Rattle.early_names.proofs.directives.strict_directive.Given as goal

abbrev pub invariant-loop-statement : goal.invariant-loop-statement
invariant-loop-statement l = strict_directive (map statement_found (drop l.statement-index l.statements)) ≡ strict_directive (map statement_found l.statements)
