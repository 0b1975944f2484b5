use Rattle.std.proofs.Common.{◌≡◌, ◌++◌, drop, map}
use Rattle.es6_static_semantics.specs.Findings.{joined}
use Rattle.module_lowering.specs.Lowered.{statement_lowered}
use Rattle.lower_listed.proofs.statements.statements_lexicals.Given as goal

abbrev pub invariant-loop-statement : goal.invariant-loop-statement
invariant-loop-statement l = l.ats ++ joined (λ s. s.listed.lexicals) (map statement_lowered (drop l.statement-index l.statements)) ≡ joined (λ s. s.listed.lexicals) (map statement_lowered l.statements)
