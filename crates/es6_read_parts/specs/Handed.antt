-- The readers that are handed in, for as many constructs as may still open where a reader begins, or for one more.
use Rattle.std.specs.Prelude.{ℕ, ◌+◌, Result}
use denote.Ref.{MutBor}
use Rattle.es6_ast.specs.declared.settings.Flags.{Flags}
use Rattle.es6_ast.specs.declared.settings.Stand.{Stand}
use Rattle.es6_ast.specs.declared.tree.Statement.{Statement}
use Rattle.es6_reading.specs.Parser.{Input, Reading}
use Rattle.es6_cursor.specs.declared.halt.Halt.{Halt}
use Rattle.es6_cursor.specs.declared.nested.Nested.{Nested}
use Rattle.es6_cursor.specs.Nests.{ReadsExpressions, ReadsStatements}
use Rattle.es6_read_parts.specs.declared.readers.Here.{Here}

module _ {G E S R : Type 0} where
  module _ (seen : R → Reading) (pre : E → MutBor Input → ℕ → Flags → Nested → Type 0)
      (post : E → MutBor Input → ℕ → Flags → Nested → Result R Halt → MutBor Input → Type 0) (here : Here G E S) where
    abbrev pub HasExpressions : Type 0
    HasExpressions = ReadsExpressions seen here.room (pre here.expression.now) (post here.expression.now)

    abbrev pub HasOuterExpressions : Type 0
    HasOuterExpressions = ReadsExpressions seen (here.room + 1) (pre here.expression.now) (post here.expression.now)

  module _ (seen : R → Statement) (pre : S → MutBor Input → ℕ → Flags → Stand → Type 0)
      (post : S → MutBor Input → ℕ → Flags → Stand → Result R Halt → MutBor Input → Type 0) (here : Here G E S) where
    abbrev pub HasStatements : Type 0
    HasStatements = ReadsStatements seen here.room (pre here.statement.now) (post here.statement.now)

    abbrev pub HasOuterStatements : Type 0
    HasOuterStatements = ReadsStatements seen (here.room + 1) (pre here.statement.now) (post here.statement.now)
