-- Readers that are handed in: of expressions one construct deeper, and of statements, where at most so many constructs may
-- still open.
use Rattle.std.specs.Prelude.{ℕ, ◌≤◌, Bool, Result}
use denote.Ref.{MutBor}
use Rattle.es5_ast.specs.declared.tree.Stat5.{Stat5}
use Rattle.es5_reading.specs.Parser.{Input5, Inner5, Parser, Read5}
use Rattle.es5_cursor.specs.declared.halt.Halt.{Halt}
use Rattle.es5_cursor.specs.declared.nested.Nested.{Nested}
use Rattle.es5_cursor.specs.declared.nested.Nested.TheVariants as nested
use Rattle.es5_cursor.specs.Readers.{inner}
use Rattle.es5_cursor.specs.Reads.{Reads}

-- the reader of an expression one construct deeper, by what it is
abbrev pub nested_of : Nested → Inner5 → Bool → Parser Read5
nested_of nested.Sequence i no_in = i.sequence no_in
nested_of nested.Assignment i no_in = i.assignment no_in
nested_of nested.Unary i no_in = i.unary
nested_of nested.Callee i no_in = i.callee

pub record ReadsExpressions (room : ℕ)
    (pre : MutBor Input5 → ℕ → Bool → Nested → Type 0)
    (post : MutBor Input5 → ℕ → Bool → Nested → Result Read5 Halt → MutBor Input5 → Type 0) : Type 0 where
  pub callable : (c : MutBor Input5) (r : ℕ) (no_in : Bool) (n : Nested) → r ≤ room → pre c r no_in n
  pub reads : (c : MutBor Input5) (r : ℕ) (no_in : Bool) (n : Nested) (x : Result Read5 Halt) (d : MutBor Input5) → r ≤ room
      → post c r no_in n x d → Reads (nested_of n (inner r) no_in c.now) x d.now

pub record ReadsStatements (room : ℕ)
    (pre : MutBor Input5 → ℕ → Bool → Bool → Type 0)
    (post : MutBor Input5 → ℕ → Bool → Bool → Result Stat5 Halt → MutBor Input5 → Type 0) : Type 0 where
  pub callable : (c : MutBor Input5) (r : ℕ) (inside top : Bool) → r ≤ room → pre c r inside top
  pub reads : (c : MutBor Input5) (r : ℕ) (inside top : Bool) (x : Result Stat5 Halt) (d : MutBor Input5) → r ≤ room
      → post c r inside top x d → Reads ((inner r).statement inside top c.now) x d.now
