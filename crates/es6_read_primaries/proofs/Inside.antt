-- What stands one construct deeper.
use Rattle.std.proofs.Common.{◌≡◌, ℕ, zero, suc, ◌+◌, ◌-◌, refl, arith}
use Rattle.es6_ast.specs.declared.settings.Flags.{Flags}
use Rattle.es6_ast.specs.declared.settings.Stop.TheVariants.{Depth}
use Rattle.es6_reading.specs.Parser.{Input, fails}
use Rattle.es6_reading.specs.Expressions.{assignment, one_property}
use Rattle.es6_reading.specs.Modules.{readers}
use Rattle.es6_cursor.specs.Readers.{inner}

pub property_none : (room : ℕ) (f : Flags) (c : Input) → room ≡ 0 → (inner room).property f c ≡ fails Depth c
unfolding readers
property_none zero f c h = refl
property_none (suc n) f c h = absurd (omega arith)

pub property_some : (room : ℕ) (f : Flags) (c : Input) → (room ≡ 0 → ⊥) → (inner room).property f c ≡ one_property (inner (room - 1)) f c
unfolding readers
property_some zero f c h = absurd (h refl)
property_some (suc n) f c h =
    let e : suc n - 1 ≡ n = omega arith in
    rw e refl

-- a construct further out
pub assignment_next : (room : ℕ) (f : Flags) (c : Input) → (inner (room + 1)).assignment f c ≡ assignment (inner room) f c
unfolding readers
assignment_next room f c =
    let e : room + 1 ≡ suc room = omega arith in
    rw e refl
