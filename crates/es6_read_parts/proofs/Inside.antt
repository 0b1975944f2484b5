-- What stands one construct deeper.
use Rattle.std.proofs.Common.{◌≡◌, ℕ, zero, suc, ◌-◌, refl, arith}
use Rattle.es6_ast.specs.declared.settings.Flags.{Flags}
use Rattle.es6_ast.specs.declared.settings.Stop.TheVariants.{Depth}
use Rattle.es6_reading.specs.Parser.{Input, fails}
use Rattle.es6_reading.specs.Parts.{block, binding, one_part, initialized, one_object_part, one_member}
use Rattle.es6_reading.specs.Modules.{readers}
use Rattle.es6_cursor.specs.Readers.{inner}

pub block_none : (room : ℕ) (f : Flags) (c : Input) → room ≡ 0 → (inner room).block f c ≡ fails Depth c
unfolding readers
block_none zero f c h = refl
block_none (suc n) f c h = absurd (omega arith)

pub block_some : (room : ℕ) (f : Flags) (c : Input) → (room ≡ 0 → ⊥) → (inner room).block f c ≡ block (inner (room - 1)) f c
unfolding readers
block_some zero f c h = absurd (h refl)
block_some (suc n) f c h =
    let e : suc n - 1 ≡ n = omega arith in
    rw e refl

pub target_none : (room : ℕ) (f : Flags) (c : Input) → room ≡ 0 → (inner room).target f c ≡ fails Depth c
unfolding readers
target_none zero f c h = refl
target_none (suc n) f c h = absurd (omega arith)

pub target_some : (room : ℕ) (f : Flags) (c : Input) → (room ≡ 0 → ⊥) → (inner room).target f c ≡ binding (inner (room - 1)) f c
unfolding readers
target_some zero f c h = absurd (h refl)
target_some (suc n) f c h =
    let e : suc n - 1 ≡ n = omega arith in
    rw e refl

pub part_none : (room : ℕ) (f : Flags) (c : Input) → room ≡ 0 → (inner room).part f c ≡ fails Depth c
unfolding readers
part_none zero f c h = refl
part_none (suc n) f c h = absurd (omega arith)

pub part_some : (room : ℕ) (f : Flags) (c : Input) → (room ≡ 0 → ⊥) → (inner room).part f c ≡ one_part (inner (room - 1)) f c
unfolding readers
part_some zero f c h = absurd (h refl)
part_some (suc n) f c h =
    let e : suc n - 1 ≡ n = omega arith in
    rw e refl

pub object_part_none : (room : ℕ) (f : Flags) (c : Input) → room ≡ 0 → (inner room).object_part f c ≡ fails Depth c
unfolding readers
object_part_none zero f c h = refl
object_part_none (suc n) f c h = absurd (omega arith)

pub object_part_some : (room : ℕ) (f : Flags) (c : Input) → (room ≡ 0 → ⊥) → (inner room).object_part f c ≡ one_object_part (inner (room - 1)) f c
unfolding readers
object_part_some zero f c h = absurd (h refl)
object_part_some (suc n) f c h =
    let e : suc n - 1 ≡ n = omega arith in
    rw e refl

pub variable_none : (room : ℕ) (f : Flags) (c : Input) → room ≡ 0 → (inner room).variable f c ≡ fails Depth c
unfolding readers
variable_none zero f c h = refl
variable_none (suc n) f c h = absurd (omega arith)

pub variable_some : (room : ℕ) (f : Flags) (c : Input) → (room ≡ 0 → ⊥) → (inner room).variable f c ≡ initialized (inner (room - 1)) f f c
unfolding readers
variable_some zero f c h = absurd (h refl)
variable_some (suc n) f c h =
    let e : suc n - 1 ≡ n = omega arith in
    rw e refl

pub member_none : (room : ℕ) (f : Flags) (c : Input) → room ≡ 0 → (inner room).member f c ≡ fails Depth c
unfolding readers
member_none zero f c h = refl
member_none (suc n) f c h = absurd (omega arith)

pub member_some : (room : ℕ) (f : Flags) (c : Input) → (room ≡ 0 → ⊥) → (inner room).member f c ≡ one_member (inner (room - 1)) f c
unfolding readers
member_some zero f c h = absurd (h refl)
member_some (suc n) f c h =
    let e : suc n - 1 ≡ n = omega arith in
    rw e refl
