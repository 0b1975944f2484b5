-- What stands one construct deeper.
use Rattle.std.proofs.Common.{◌≡◌, ℕ, zero, suc, ◌-◌, Bool, refl, arith}
use Rattle.es5_reading.specs.Parser.{Input5}
use Rattle.es5_reading.specs.Statements.{statement, statement_at_limit}
use Rattle.es5_reading.specs.Programs.{readers}
use Rattle.es5_cursor.specs.Nests.{nested_of}
use Rattle.es5_cursor.specs.Readers.{inner}
use Rattle.es5_cursor.specs.declared.nested.Nested.{Nested}
use Rattle.es5_cursor.specs.declared.nested.Nested.TheVariants as nested
use Rattle.es5_text.specs.Tie.{reader_of, limit_of}

pub nested_none : (n : Nested) (room : ℕ) (no_in : Bool) (c : Input5) → room ≡ 0 → nested_of n (inner room) no_in c ≡ limit_of n c
unfolding readers limit_of
nested_none nested.Sequence zero no_in c h = refl
nested_none nested.Assignment zero no_in c h = refl
nested_none nested.Unary zero no_in c h = refl
nested_none nested.Callee zero no_in c h = refl
nested_none n (suc room) no_in c h = absurd (omega arith)

nested_at : (n : Nested) (room : ℕ) (no_in : Bool) (c : Input5) → nested_of n (inner (suc room)) no_in c ≡ reader_of n (inner room) no_in c
unfolding readers reader_of
nested_at nested.Sequence room no_in c = refl
nested_at nested.Assignment room no_in c = refl
nested_at nested.Unary room no_in c = refl
nested_at nested.Callee room no_in c = refl

pub nested_some : (n : Nested) (room : ℕ) (no_in : Bool) (c : Input5) → (room ≡ 0 → ⊥) → nested_of n (inner room) no_in c ≡ reader_of n (inner (room - 1)) no_in c
nested_some n zero no_in c h = absurd (h refl)
nested_some n (suc room) no_in c h =
    let e : suc room - 1 ≡ room = omega arith in
    rw e (nested_at n room no_in c)

pub statement_none : (room : ℕ) (inside : Bool) (top : Bool) (c : Input5) → room ≡ 0 → (inner room).statement inside top c ≡ statement_at_limit inside c
unfolding readers
statement_none zero inside top c h = refl
statement_none (suc n) inside top c h = absurd (omega arith)

pub statement_some : (room : ℕ) (inside : Bool) (top : Bool) (c : Input5) → (room ≡ 0 → ⊥) → (inner room).statement inside top c ≡ statement (inner (room - 1)) inside top c
unfolding readers
statement_some zero inside top c h = absurd (h refl)
statement_some (suc n) inside top c h =
    let e : suc n - 1 ≡ n = omega arith in
    rw e refl
