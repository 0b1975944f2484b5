use Rattle.std.proofs.Common.{◌≡◌, drop}
use Rattle.scope_analysis.specs.Scopes.{with_globals}
use Rattle.scope_analysis.proofs.globals.add_globals.Given as goal

abbrev pub invariant-loop-reference : goal.invariant-loop-reference
invariant-loop-reference l = with_globals l.names (drop l.reference-index l.references) ≡ with_globals l.initial.names l.references
