-- What is refined, once it is looked into deep enough.
use Rattle.std.proofs.Common.{◌≡◌, ℕ, zero, suc, ◌+◌, ◌≤◌, List, ◌∷◌, refl, arith}
use Rattle.es6_reading.specs.Refine.{Refined, Fits, Misfit, TooNested, refined_map, refined_cons, refined_then}

-- It is refined to this, whatever the depth from some depth on.
pub record Sure {A : Type 0} (r : ℕ → Refined A) (y : A) : Type 0 where
  pub enough : ℕ
  pub refined : (n : ℕ) → enough ≤ n → r n ≡ Fits y

pub sure-now : {A : Type 0} {r : ℕ → Refined A} {y : A} → ((n : ℕ) → r n ≡ Fits y) → Sure r y
sure-now h = record { enough = 0; refined = λ n l. h n }

pub sure-then : {A B : Type 0} {r : ℕ → Refined A} {s : ℕ → Refined B} {y : A} {z : B} → Sure r y → ((n : ℕ) → r n ≡ Fits y → s n ≡ Fits z) → Sure s z
sure-then a h = record { enough = a.enough; refined = λ n l. h n (a.refined n l) }

pub sure-both : {A B C : Type 0} {r : ℕ → Refined A} {s : ℕ → Refined B} {t : ℕ → Refined C} {x : A} {y : B} {z : C} → Sure r x → Sure s y → ((n : ℕ) → r n ≡ Fits x → s n ≡ Fits y → t n ≡ Fits z) → Sure t z
sure-both a b h = record { enough = a.enough + b.enough; refined = λ n l. h n (a.refined n (left a.enough b.enough n l)) (b.refined n (right a.enough b.enough n l)) }
  where
    left : (a b n : ℕ) → a + b ≤ n → a ≤ n
    left a b n h = omega arith

    right : (a b n : ℕ) → a + b ≤ n → b ≤ n
    right a b n h = omega arith

-- one level more
pub sure-within : {A B : Type 0} {r : ℕ → Refined A} {s : ℕ → Refined B} {y : A} {z : B} → Sure r y → ((n : ℕ) → r n ≡ Fits y → s (suc n) ≡ Fits z) → Sure s z
sure-within {s = s} {z = z} a h = record { enough = suc a.enough; refined = at }
  where
    none : (k : ℕ) → suc k ≤ zero → ⊥
    none k l = omega arith

    less : (k n : ℕ) → suc k ≤ suc n → k ≤ n
    less k n l = omega arith

    at : (n : ℕ) → suc a.enough ≤ n → s n ≡ Fits z
    at zero l = absurd (none a.enough l)
    at (suc n) l = h n (a.refined n (less a.enough n l))

pub sure-next : {A : Type 0} {r : ℕ → Refined A} {y : A} → ((n : ℕ) → r (suc n) ≡ Fits y) → Sure r y
sure-next {A = A} {r = r} {y = y} h = record { enough = 1; refined = at }
  where
    none : 1 ≤ zero → ⊥
    none l = omega arith

    at : (n : ℕ) → 1 ≤ n → r n ≡ Fits y
    at zero l = absurd (none l)
    at (suc n) l = h n

pub map-refined : {A B : Type 0} {r : Refined A} {x : A} {y : B} (k : A → B) → r ≡ Fits x → y ≡ k x → refined_map k r ≡ Fits y
map-refined k h e = rw (h, e) refl

pub cons-refined : {A : Type 0} {r : Refined A} {rs : Refined (List A)} {x : A} {xs : List A} → r ≡ Fits x → rs ≡ Fits xs → refined_cons r rs ≡ Fits (x ∷ xs)
cons-refined h k = rw (h, k) refl

pub then-refined : {A B : Type 0} {r : Refined A} {s : Refined B} {x : A} {y : B} → r ≡ Fits x → s ≡ Fits y → refined_then r s ≡ Fits y
then-refined h k = rw (h, k) refl

-- ## Looked into deep enough, whatever comes of it

abbrev pub Settled : {A : Type 0} → Refined A → Type 0
Settled (Fits x) = Unit {0}
Settled (Misfit at) = Unit {0}
Settled TooNested = ⊥

pub record Settles {A : Type 0} (r : ℕ → Refined A) : Type 0 where
  pub enough : ℕ
  pub settled : (n : ℕ) → enough ≤ n → Settled (r n)

pub settles-now : {A : Type 0} {r : ℕ → Refined A} → ((n : ℕ) → Settled (r n)) → Settles r
settles-now h = record { enough = 0; settled = λ n l. h n }

pub settles-then : {A B : Type 0} {r : ℕ → Refined A} {s : ℕ → Refined B} → Settles r → ((n : ℕ) → Settled (r n) → Settled (s n)) → Settles s
settles-then a h = record { enough = a.enough; settled = λ n l. h n (a.settled n l) }

pub settles-both : {A B C : Type 0} {r : ℕ → Refined A} {s : ℕ → Refined B} {t : ℕ → Refined C} → Settles r → Settles s → ((n : ℕ) → Settled (r n) → Settled (s n) → Settled (t n)) → Settles t
settles-both a b h = record { enough = a.enough + b.enough; settled = λ n l. h n (a.settled n (left a.enough b.enough n l)) (b.settled n (right a.enough b.enough n l)) }
  where
    left : (a b n : ℕ) → a + b ≤ n → a ≤ n
    left a b n h = omega arith

    right : (a b n : ℕ) → a + b ≤ n → b ≤ n
    right a b n h = omega arith

pub settles-within : {A B : Type 0} {r : ℕ → Refined A} {s : ℕ → Refined B} → Settles r → ((n : ℕ) → Settled (r n) → Settled (s (suc n))) → Settles s
settles-within {s = s} a h = record { enough = suc a.enough; settled = at }
  where
    none : (k : ℕ) → suc k ≤ zero → ⊥
    none k l = omega arith

    less : (k n : ℕ) → suc k ≤ suc n → k ≤ n
    less k n l = omega arith

    at : (n : ℕ) → suc a.enough ≤ n → Settled (s n)
    at zero l = absurd (none a.enough l)
    at (suc n) l = h n (a.settled n (less a.enough n l))

pub settles-next : {A : Type 0} {r : ℕ → Refined A} → ((n : ℕ) → Settled (r (suc n))) → Settles r
settles-next {r = r} h = record { enough = 1; settled = at }
  where
    none : 1 ≤ zero → ⊥
    none l = omega arith

    at : (n : ℕ) → 1 ≤ n → Settled (r n)
    at zero l = absurd (none l)
    at (suc n) l = h n

pub settled-map : {A B : Type 0} (k : A → B) (r : Refined A) → Settled r → Settled (refined_map k r)
settled-map k (Fits x) h = tt
settled-map k (Misfit at) h = tt
settled-map k TooNested h = h

pub settled-cons : {A : Type 0} (r : Refined A) (rs : Refined (List A)) → Settled r → Settled rs → Settled (refined_cons r rs)
settled-cons (Fits x) rs h k = settled-map (λ ys. x ∷ ys) rs k
settled-cons (Misfit at) rs h k = tt
settled-cons TooNested rs h k = absurd h
