-- Readers that are handed in for so many constructs serve for fewer.
use Rattle.std.proofs.Common.{ℕ, ◌≤◌, Bool, Result, arith}
use denote.Ref.{MutBor}
use Rattle.es5_ast.specs.declared.tree.Stat5.{Stat5}
use Rattle.es5_reading.specs.Parser.{Input5, Read5}
use Rattle.es5_cursor.specs.declared.nested.Nested.{Nested}
use Rattle.es5_cursor.specs.declared.halt.Halt.{Halt}
use Rattle.es5_cursor.specs.Nests.{ReadsExpressions, ReadsStatements}

pub fewer_expressions : (room less : ℕ) (pre : MutBor Input5 → ℕ → Bool → Nested → Type 0)
    (post : MutBor Input5 → ℕ → Bool → Nested → Result Read5 Halt → MutBor Input5 → Type 0)
    → less ≤ room → ReadsExpressions room pre post → ReadsExpressions less pre post
fewer_expressions room less pre post h e = record {
  callable = λ c r no_in n le. e.callable c r no_in n (omega arith);
  reads = λ c r no_in n x d le p. e.reads c r no_in n x d (omega arith) p;
}

pub fewer_statements : (room less : ℕ) (pre : MutBor Input5 → ℕ → Bool → Bool → Type 0)
    (post : MutBor Input5 → ℕ → Bool → Bool → Result Stat5 Halt → MutBor Input5 → Type 0)
    → less ≤ room → ReadsStatements room pre post → ReadsStatements less pre post
fewer_statements room less pre post h e = record {
  callable = λ c r inside top le. e.callable c r inside top (omega arith);
  reads = λ c r inside top x d le p. e.reads c r inside top x d (omega arith) p;
}
