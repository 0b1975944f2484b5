-- Inside a node fewer nodes may still stand inside one another.
use Rattle.std.proofs.Common.{◌≡◌, ◌≤◌, ◌<◌, ◌-◌, ℕ, zero, suc, refl, ap, arith}
use Rattle.lower_walk.specs.declared.around.Around.{Around}

falls_below : (outer inner a t : ℕ) → inner ≡ outer - 1 → (outer ≡ 0 → ⊥) → outer ≡ t → a ≤ inner → a < t
falls_below zero inner a t e n m h = absurd (n refl)
falls_below (suc k) inner a t e n m h =
    let p : suc k - 1 ≡ k = omega arith in
    omega arith

pub falls : (outer inner : Around) (a t : ℕ) → inner ≡ record outer { room = outer.room - 1 } → (outer.room ≡ 0 → ⊥) → outer.room ≡ t → a ≤ inner.room → a < t
falls outer inner a t e n m h = falls_below outer.room inner.room a t (ap (λ x. x.room) e) n m h
