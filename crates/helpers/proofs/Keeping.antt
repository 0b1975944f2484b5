-- A list of which those that don't pass a test are taken out, from the front on.
use Rattle.std.proofs.Common.{◌≡◌, ℕ, zero, suc, ◌+◌, ◌-◌, ◌≤◌, ◌<◌, Bool, true, false, cond, List, [], ◌∷◌, ◌++◌, length, take, drop, Option, None, Some, refl, sym, ap, ◌∙◌, add-one, arith}
use Rattle.std.specs.Prelude.{filter, remove, slice_get}
use Rattle.helpers.specs.Wanted.{passes}

-- those in front of a place, and then those that pass
abbrev pub passed_from : {X : Type 0} → (X → Bool) → List X → ℕ → List X
passed_from test xs k = take k xs ++ filter test (drop k xs)

first-of : {X : Type 0} (b : Bool) (x y : X) → b ≡ true → cond b x y ≡ x
first-of b x y e = ap (λ t. cond t x y) e

second-of : {X : Type 0} (b : Bool) (x y : X) → b ≡ false → cond b x y ≡ y
second-of b x y e = ap (λ t. cond t x y) e

passed-suc : {X : Type 0} (test : X → Bool) (xs : List X) (k : ℕ) → passes test (slice_get xs k) ≡ true
    → passed_from test xs (suc k) ≡ passed_from test xs k
passed-suc test [] k e = absurd (cc)
passed-suc test (x ∷ xs) zero e = sym (first-of (test x) (x ∷ filter test xs) (filter test xs) e)
passed-suc test (x ∷ xs) (suc k) e = ap (λ rest. x ∷ rest) (passed-suc test xs k e)

-- one that passes is passed over
pub passed_on : {X : Type 0} (test : X → Bool) (xs zs : List X) (k : ℕ) → passes test (slice_get xs k) ≡ true
    → passed_from test xs k ≡ zs → passed_from test xs (k + 1) ≡ zs
passed_on test xs zs k e same = ap (passed_from test xs) (add-one k) ∙ passed-suc test xs k e ∙ same

passed-less : {X : Type 0} (test : X → Bool) (xs : List X) (k : ℕ) → k < length xs → passes test (slice_get xs k) ≡ false
    → passed_from test (remove xs k) k ≡ passed_from test xs k
passed-less test [] k h e = absurd (omega arith)
passed-less test (x ∷ xs) zero h e = sym (second-of (test x) (x ∷ filter test xs) (filter test xs) e)
passed-less test (x ∷ xs) (suc k) h e = ap (λ rest. x ∷ rest) (passed-less test xs k (omega (arith, h)) e)

-- one that doesn't is taken out
pub passed_without : {X : Type 0} (test : X → Bool) (xs ys zs : List X) (k : ℕ) → k < length xs → passes test (slice_get xs k) ≡ false
    → ys ≡ remove xs k → passed_from test xs k ≡ zs → passed_from test ys k ≡ zs
passed_without test xs ys zs k h e out same = ap (λ list. passed_from test list k) out ∙ passed-less test xs k h e ∙ same

length-out : {X : Type 0} (xs : List X) (k : ℕ) → k < length xs → suc (length (remove xs k)) ≡ length xs
length-out [] k h = absurd (omega arith)
length-out (x ∷ xs) zero h = refl
length-out (x ∷ xs) (suc k) h = ap (λ n. suc n) (length-out xs k (omega (arith, h)))

-- and then fewer are left
pub fewer_without : {X : Type 0} (xs ys : List X) (k : ℕ) → k < length xs → ys ≡ remove xs k → length ys - k < length xs - k
fewer_without xs ys k h out =
    let size : suc (length ys) ≡ length xs = ap (λ list. suc (length list)) out ∙ length-out xs k h in
    omega (arith, size, h)

passed-all : {X : Type 0} (test : X → Bool) (xs : List X) (k : ℕ) → length xs ≤ k → passed_from test xs k ≡ xs
passed-all test [] zero h = refl
passed-all test [] (suc k) h = refl
passed-all test (x ∷ xs) zero h = absurd (omega arith)
passed-all test (x ∷ xs) (suc k) h = ap (λ rest. x ∷ rest) (passed-all test xs k (omega (arith, h)))

-- behind the last one none is left
pub passed_end : {X : Type 0} (test : X → Bool) (xs ys : List X) (k : ℕ) → length xs ≤ k
    → passed_from test xs k ≡ passed_from test ys 0 → xs ≡ filter test ys
passed_end test xs ys k h same = sym (passed-all test xs k h) ∙ same
