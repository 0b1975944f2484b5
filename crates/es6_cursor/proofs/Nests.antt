-- Readers that are handed in for so many constructs serve for fewer.
use Rattle.std.proofs.Common.{ℕ, ◌≤◌, Result, arith}
use denote.Ref.{MutBor}
use Rattle.es6_ast.specs.declared.tree.Statement.{Statement}
use Rattle.es6_ast.specs.declared.settings.Flags.{Flags}
use Rattle.es6_ast.specs.declared.settings.Stand.{Stand}
use Rattle.es6_reading.specs.Parser.{Input, Reading}
use Rattle.es6_cursor.specs.declared.nested.Nested.{Nested}
use Rattle.es6_cursor.specs.declared.halt.Halt.{Halt}
use Rattle.es6_cursor.specs.Nests.{ReadsExpressions, ReadsStatements}

pub fewer_expressions : {R : Type 0} (seen : R → Reading) (room less : ℕ) (pre : MutBor Input → ℕ → Flags → Nested → Type 0)
    (post : MutBor Input → ℕ → Flags → Nested → Result R Halt → MutBor Input → Type 0)
    → less ≤ room → ReadsExpressions seen room pre post → ReadsExpressions seen less pre post
fewer_expressions seen room less pre post h e = record {
  callable = λ c r f n le. e.callable c r f n (omega arith);
  reads = λ c r f n x d le p. e.reads c r f n x d (omega arith) p;
}

pub fewer_statements : {R : Type 0} (seen : R → Statement) (room less : ℕ) (pre : MutBor Input → ℕ → Flags → Stand → Type 0)
    (post : MutBor Input → ℕ → Flags → Stand → Result R Halt → MutBor Input → Type 0)
    → less ≤ room → ReadsStatements seen room pre post → ReadsStatements seen less pre post
fewer_statements seen room less pre post h e = record {
  callable = λ c r f s le. e.callable c r f s (omega arith);
  reads = λ c r f s x d le p. e.reads c r f s x d (omega arith) p;
}
