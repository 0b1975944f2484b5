-- What stands one construct deeper.
use Rattle.std.proofs.Common.{◌≡◌, ℕ, zero, suc, ◌-◌, refl, arith}
use Rattle.es6_ast.specs.declared.settings.Flags.{Flags}
use Rattle.es6_ast.specs.declared.settings.Stand.{Stand}
use Rattle.es6_reading.specs.Parser.{Input}
use Rattle.es6_reading.specs.Statements.{statement, statement_at_limit}
use Rattle.es6_reading.specs.Modules.{readers}
use Rattle.es6_cursor.specs.Readers.{inner}
use Rattle.es6_cursor.specs.Nested.{nested_of}
use Rattle.es6_cursor.specs.declared.nested.Nested.{Nested}
use Rattle.es6_cursor.specs.declared.nested.Nested.TheVariants as nested
use Rattle.es6_expr.specs.Tie.{reader_of, limit_of}

pub nested_none : (n : Nested) (room : ℕ) (f : Flags) (c : Input) → room ≡ 0 → nested_of n (inner room) f c ≡ limit_of n f c
unfolding readers limit_of
nested_none nested.Sequence zero f c h = refl
nested_none nested.Assignment zero f c h = refl
nested_none nested.Power zero f c h = refl
nested_none nested.Unary zero f c h = refl
nested_none nested.Callee zero f c h = refl
nested_none nested.Heritage zero f c h = refl
nested_none n (suc room) f c h = absurd (omega arith)

nested_at : (n : Nested) (room : ℕ) (f : Flags) (c : Input) → nested_of n (inner (suc room)) f c ≡ reader_of n (inner room) f c
unfolding readers reader_of
nested_at nested.Sequence room f c = refl
nested_at nested.Assignment room f c = refl
nested_at nested.Power room f c = refl
nested_at nested.Unary room f c = refl
nested_at nested.Callee room f c = refl
nested_at nested.Heritage room f c = refl

pub nested_some : (n : Nested) (room : ℕ) (f : Flags) (c : Input) → (room ≡ 0 → ⊥) → nested_of n (inner room) f c ≡ reader_of n (inner (room - 1)) f c
nested_some n zero f c h = absurd (h refl)
nested_some n (suc room) f c h =
    let e : suc room - 1 ≡ room = omega arith in
    rw e (nested_at n room f c)

pub statement_none : (room : ℕ) (f : Flags) (stand : Stand) (c : Input) → room ≡ 0 → (inner room).statement f stand c ≡ statement_at_limit f stand c
unfolding readers
statement_none zero f stand c h = refl
statement_none (suc n) f stand c h = absurd (omega arith)

pub statement_some : (room : ℕ) (f : Flags) (stand : Stand) (c : Input) → (room ≡ 0 → ⊥) → (inner room).statement f stand c ≡ statement (inner (room - 1)) f stand c
unfolding readers
statement_some zero f stand c h = absurd (h refl)
statement_some (suc n) f stand c h =
    let e : suc n - 1 ≡ n = omega arith in
    rw e refl
