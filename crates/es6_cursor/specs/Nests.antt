-- Readers that are handed in: of expressions one construct deeper, and of statements, where at most so many constructs may
-- still open.
use Rattle.std.specs.Prelude.{ℕ, ◌≤◌, Result}
use denote.Ref.{MutBor}
use Rattle.es6_ast.specs.declared.tree.Statement.{Statement}
use Rattle.es6_ast.specs.declared.settings.Flags.{Flags}
use Rattle.es6_ast.specs.declared.settings.Stand.{Stand}
use Rattle.es6_reading.specs.Parser.{Input, Reading}
use Rattle.es6_cursor.specs.declared.nested.Nested.{Nested}
use Rattle.es6_cursor.specs.declared.halt.Halt.{Halt}
use Rattle.es6_cursor.specs.Readers.{inner}
use Rattle.es6_cursor.specs.Reads.{ReadsAs}
use Rattle.es6_cursor.specs.Nested.{nested_of}

pub record ReadsExpressions {R : Type 0} (seen : R → Reading) (room : ℕ)
    (pre : MutBor Input → ℕ → Flags → Nested → Type 0)
    (post : MutBor Input → ℕ → Flags → Nested → Result R Halt → MutBor Input → Type 0) : Type 0 where
  pub callable : (c : MutBor Input) (r : ℕ) (f : Flags) (n : Nested) → r ≤ room → pre c r f n
  pub reads : (c : MutBor Input) (r : ℕ) (f : Flags) (n : Nested) (x : Result R Halt) (d : MutBor Input) → r ≤ room
      → post c r f n x d → ReadsAs seen (nested_of n (inner r) f c.now) x d.now

pub record ReadsStatements {R : Type 0} (seen : R → Statement) (room : ℕ)
    (pre : MutBor Input → ℕ → Flags → Stand → Type 0)
    (post : MutBor Input → ℕ → Flags → Stand → Result R Halt → MutBor Input → Type 0) : Type 0 where
  pub callable : (c : MutBor Input) (r : ℕ) (f : Flags) (s : Stand) → r ≤ room → pre c r f s
  pub reads : (c : MutBor Input) (r : ℕ) (f : Flags) (s : Stand) (x : Result R Halt) (d : MutBor Input) → r ≤ room
      → post c r f s x d → ReadsAs seen ((inner r).statement f s c.now) x d.now
