-- The readers where so many constructs may still open.
use Rattle.std.proofs.Common.{◌≡◌, ℕ, zero, suc, ◌-◌, true, false, refl, ap, arith}
use Rattle.es6_reading.specs.Parser.{Input, semicolon, semicolon_of_do_while}
use Rattle.es6_reading.specs.Modules.{readers}
use Rattle.es6_cursor.specs.Readers.{turns, inner, ended, ended_do_while}

pub no_room : (room : ℕ) → room ≡ 0 → (inner room).may_open ≡ false
unfolding readers
no_room zero h = refl
no_room (suc n) h = absurd (omega arith)

pub some_room : (room : ℕ) → (room ≡ 0 → ⊥) → (inner room).may_open ≡ true
unfolding readers
some_room zero h = absurd (h refl)
some_room (suc n) h = refl

pub fuel_is : (room : ℕ) → (inner room).fuel ≡ turns - 0
unfolding readers
fuel_is zero = omega arith
fuel_is (suc n) = omega arith

pub fuel_turns : (room : ℕ) → (inner room).fuel ≡ turns
unfolding readers
fuel_turns zero = refl
fuel_turns (suc n) = refl

pub fuel_some : (room : ℕ) → (inner room).fuel ≡ suc 67108864
unfolding readers turns
fuel_some zero = refl
fuel_some (suc n) = refl

pub semicolon_is : (room : ℕ) (c : Input) → semicolon (inner room) c ≡ ended c
unfolding semicolon ended readers
semicolon_is zero c = refl
semicolon_is (suc room) c = refl

pub semicolon_of_do_while_is : (room : ℕ) (c : Input) → semicolon_of_do_while (inner room) c ≡ ended_do_while c
unfolding semicolon_of_do_while ended_do_while readers
semicolon_of_do_while_is zero c = refl
semicolon_of_do_while_is (suc room) c = refl
