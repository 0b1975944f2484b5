-- The statements of cases, of which one falls through to the next (ECMA-262, 6th edition, 13.12.9).
use Rattle.std.specs.Prelude.{List}
use Rattle.es6_ast.specs.declared.tree.Case.{Case, out-Case}
use Rattle.es6_ast.specs.declared.tree.Statement.{Statement}
use Rattle.es6_static_semantics.specs.Findings.{joined}

abbrev pub case_statements : List Case → List Statement
case_statements cs = joined (λ c. (out-Case c).body) cs
