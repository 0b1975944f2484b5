-- What stands one construct deeper.
use Rattle.std.proofs.Common.{◌≡◌, ℕ, zero, suc, ◌+◌, ◌-◌, Bool, refl, arith}
use Rattle.es5_reading.specs.Parser.{Input5, Depth, fails}
use Rattle.es5_reading.specs.Expressions.{assignment, one_property}
use Rattle.es5_reading.specs.Programs.{readers}
use Rattle.es5_cursor.specs.Readers.{inner}

pub property_none : (room : ℕ) (c : Input5) → room ≡ 0 → (inner room).property c ≡ fails Depth c
unfolding readers
property_none zero c h = refl
property_none (suc n) c h = absurd (omega arith)

pub property_some : (room : ℕ) (c : Input5) → (room ≡ 0 → ⊥) → (inner room).property c ≡ one_property (inner (room - 1)) c
unfolding readers
property_some zero c h = absurd (h refl)
property_some (suc n) c h =
    let e : suc n - 1 ≡ n = omega arith in
    rw e refl

-- a construct further out
pub assignment_next : (room : ℕ) (no_in : Bool) (c : Input5) → (inner (room + 1)).assignment no_in c ≡ assignment (inner room) no_in c
unfolding readers
assignment_next room no_in c =
    let e : room + 1 ≡ suc room = omega arith in
    rw e refl
