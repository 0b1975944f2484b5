use Rattle.std.proofs.Common.{◌≡◌, ◌++◌, drop, map}
use Rattle.es6_static_semantics.specs.Findings.{joined}
use Rattle.module_lowering.specs.Lowered.{statement_lowered}
use Rattle.lower_listed.specs.Hoisted.{hoisted_of}
use Rattle.lower_listed.proofs.statements.statements_functions.Given as goal

abbrev pub invariant-loop-statement : goal.invariant-loop-statement
invariant-loop-statement l = map hoisted_of l.hoisted ++ joined (λ s. s.listed.functions) (map statement_lowered (drop l.statement-index l.statements)) ≡ joined (λ s. s.listed.functions) (map statement_lowered l.statements)
