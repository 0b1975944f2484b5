use Rattle.std.proofs.Common.{◌≡◌, ◌++◌, length}
use Rattle.es6_static_semantics.specs.Findings.{joined}
use Rattle.scope_rules.specs.Marks.{statement_marked}
use Rattle.source_trees.proofs.marks.add_statements.Given as goal

abbrev pub invariant-statements : goal.invariant-statements
invariant-statements l = l.marks ++ joined statement_marked l.rest ≡ l.initial.marks ++ joined statement_marked l.statements

abbrev pub decreases-statements : goal.decreases-statements
decreases-statements l = length l.rest
