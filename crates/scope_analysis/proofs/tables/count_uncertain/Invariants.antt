use Rattle.std.proofs.Common.{◌≡◌, ◌+◌, drop}
use Rattle.scope_analysis.specs.Scopes.{count_uncertain}
use Rattle.scope_analysis.proofs.tables.count_uncertain.Given as goal

abbrev pub invariant-loop-reference : goal.invariant-loop-reference
invariant-loop-reference l = l.count + count_uncertain (drop l.reference-index l.references) ≡ count_uncertain l.references
