-- Readers that are handed in for one construct more serve where a construct stands.
use Rattle.std.proofs.Common.{ℕ, ◌+◌, Result, arith}
use denote.Ref.{MutBor}
use Rattle.es6_ast.specs.declared.tree.Statement.{Statement}
use Rattle.es6_ast.specs.declared.settings.Flags.{Flags}
use Rattle.es6_ast.specs.declared.settings.Stand.{Stand}
use Rattle.es6_reading.specs.Parser.{Input, Reading}
use Rattle.es6_cursor.specs.declared.nested.Nested.{Nested}
use Rattle.es6_cursor.specs.declared.halt.Halt.{Halt}
use Rattle.es6_cursor.specs.Nests.{ReadsExpressions, ReadsStatements}
use Rattle.es6_cursor.proofs.Nests.{fewer_expressions, fewer_statements}

pub outer_expressions : {R : Type 0} (seen : R → Reading) (room : ℕ) (pre : MutBor Input → ℕ → Flags → Nested → Type 0)
    (post : MutBor Input → ℕ → Flags → Nested → Result R Halt → MutBor Input → Type 0)
    → ReadsExpressions seen (room + 1) pre post → ReadsExpressions seen room pre post
outer_expressions seen room pre post e = fewer_expressions seen (room + 1) room pre post (omega arith) e

pub outer_statements : {R : Type 0} (seen : R → Statement) (room : ℕ) (pre : MutBor Input → ℕ → Flags → Stand → Type 0)
    (post : MutBor Input → ℕ → Flags → Stand → Result R Halt → MutBor Input → Type 0)
    → ReadsStatements seen (room + 1) pre post → ReadsStatements seen room pre post
outer_statements seen room pre post s = fewer_statements seen (room + 1) room pre post (omega arith) s

-- where readers are handed in for one construct more
pub ruleset outer = (outer_expressions, outer_statements)
