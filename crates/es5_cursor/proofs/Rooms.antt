-- The readers where so many constructs may still open.
use Rattle.std.proofs.Common.{◌≡◌, ℕ, zero, suc, ◌-◌, Bool, true, false, refl, ap, arith, []}
use Rattle.std.specs.Prelude.{codes}
use Rattle.es5_reading.specs.Parser.{Input5, on, mark, returns}
use Rattle.es5_reading.specs.Programs.{readers}
use Rattle.es5_reading.specs.Expressions.{parameters, more_parameters}
use Rattle.es5_cursor.specs.Readers.{turns, inner, all_parameters}

pub no_room : (room : ℕ) → room ≡ 0 → (inner room).may_open ≡ false
unfolding readers
no_room zero h = refl
no_room (suc n) h = absurd (omega arith)

pub some_room : (room : ℕ) → (room ≡ 0 → ⊥) → (inner room).may_open ≡ true
unfolding readers
some_room zero h = absurd (h refl)
some_room (suc n) h = refl

pub fuel_is : (room : ℕ) → (inner room).fuel ≡ turns - 0
unfolding readers
fuel_is zero = omega arith
fuel_is (suc n) = omega arith

fuel_turns : (room : ℕ) → (inner room).fuel ≡ turns
unfolding readers
fuel_turns zero = refl
fuel_turns (suc n) = refl

pub inserts : (room : ℕ) → (inner room).inserting ≡ true
unfolding readers
inserts zero = refl
inserts (suc n) = refl

pub parameters_are : (room : ℕ) (c : Input5) → parameters (inner room) c ≡ all_parameters c
unfolding parameters all_parameters
parameters_are room c = ap (λ n. on (mark (codes ")")) (λ _. returns []) (more_parameters n) c) (fuel_turns room)

pub fuel_some : (room : ℕ) → (inner room).fuel ≡ suc 67108864
unfolding readers turns
fuel_some zero = refl
fuel_some (suc n) = refl
