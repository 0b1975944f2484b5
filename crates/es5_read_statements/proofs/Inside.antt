-- What stands one construct deeper.
use Rattle.std.proofs.Common.{◌≡◌, ℕ, zero, suc, ◌-◌, Bool, refl, arith}
use Rattle.es5_reading.specs.Parser.{Input5, Depth, fails}
use Rattle.es5_reading.specs.Statements.{one_declared}
use Rattle.es5_reading.specs.Programs.{readers}
use Rattle.es5_cursor.specs.Readers.{inner}

pub declared_none : (room : ℕ) (no_in : Bool) (c : Input5) → room ≡ 0 → (inner room).declared no_in c ≡ fails Depth c
unfolding readers
declared_none zero no_in c h = refl
declared_none (suc n) no_in c h = absurd (omega arith)

pub declared_some : (room : ℕ) (no_in : Bool) (c : Input5) → (room ≡ 0 → ⊥) → (inner room).declared no_in c ≡ one_declared (inner (room - 1)) no_in c
unfolding readers
declared_some zero no_in c h = absurd (h refl)
declared_some (suc n) no_in c h =
    let e : suc n - 1 ≡ n = omega arith in
    rw e refl
