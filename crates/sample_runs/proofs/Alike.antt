-- Lists that are alike, position by position.
use Rattle.std.proofs.Common.{◌≡◌, ℕ, suc, ◌+◌, ◌<◌, ◌≤◌, List, [], ◌∷◌, length, Some, refl, sym, ap, ◌∙◌, subst, inl, inr, arith}
use Rattle.std.specs.Prelude.{slice_get}
use Rattle.std.proofs.lemmas.Bool.{cases_lt}
use Rattle.std.proofs.lemmas.Option.{slice_get_within}
use Rattle.sample_runs.specs.Same.{AreEqual}

same_some : {A : Type 0} {x y : A} → Some x ≡ Some y → x ≡ y
same_some e = cc

-- one element stands at a position
one_there : {A : Type 0} (xs : List A) (k : ℕ) (x y : A) → slice_get xs k ≡ Some x → slice_get xs k ≡ Some y → x ≡ y
one_there xs k x y e f = same_some (sym e ∙ f)

-- those before this position are
pub record AreAlike {A B : Type 0} (P : A → B → Type 0) (xs : List A) (ys : List B) (n : ℕ) : Type 0 where
  pub before : (k : ℕ) (x : A) (y : B) → k < n → slice_get xs k ≡ Some x → slice_get ys k ≡ Some y → P x y

pub alike-none : {A B : Type 0} (P : A → B → Type 0) (xs : List A) (ys : List B) → AreAlike P xs ys 0
alike-none P xs ys = record { before = λ k x y l e f. absurd (omega (arith, l)) }

pub alike-more : {A B : Type 0} (P : A → B → Type 0) (xs : List A) (ys : List B) (n : ℕ) (x : A) (y : B) → slice_get xs n ≡ Some x → slice_get ys n ≡ Some y → P x y → AreAlike P xs ys n → AreAlike P xs ys (n + 1)
alike-more {A} {B} P xs ys n x y e f p so = record {
  before = λ k u v l g h. elim (cases_lt k n) [
    | inl early ↦ so.before k u v early g h
    | inr late ↦
        let at : k ≡ n = omega (arith, l, late) in
        let left : x ≡ u = one_there xs n x u e (subst (λ m. slice_get xs m ≡ Some u) at g) in
        let right : y ≡ v = one_there ys n y v f (subst (λ m. slice_get ys m ≡ Some v) at h) in
        let Q : A → Type 0 = λ z. P z v in
        subst Q left (subst (P x) right p)
  ];
}

-- all are, where these are as many as there are
pub alike-all : {A B : Type 0} (P : A → B → Type 0) (xs : List A) (ys : List B) (n : ℕ) → length xs ≤ n → AreAlike P xs ys n → (k : ℕ) (x : A) (y : B) → slice_get xs k ≡ Some x → slice_get ys k ≡ Some y → P x y
alike-all P xs ys n over so k x y e f = let inside : k < length xs = slice_get_within xs k x e in so.before k x y (omega (arith, over, inside)) e f

pub equal_lists : {A : Type 0} (xs ys : List A) → AreEqual xs ys → xs ≡ ys
equal_lists [] [] e = refl
equal_lists [] (y ∷ ys) e = let size = e.size in absurd (omega (arith, size))
equal_lists (x ∷ xs) [] e = let size = e.size in absurd (omega (arith, size))
equal_lists (x ∷ xs) (y ∷ ys) e =
    let rest : AreEqual xs ys = record { size = (let size = e.size in omega (arith, size)); each = λ k u v f g. e.each (suc k) u v f g } in
    ap (λ z. z ∷ xs) (e.each 0 x y refl refl) ∙ ap (λ zs. y ∷ zs) (equal_lists xs ys rest)

pub lists_equal : {A : Type 0} (xs ys : List A) → xs ≡ ys → AreEqual xs ys
lists_equal xs ys e = record { size = ap length e; each = λ k u v f g. one_there ys k u v (sym (ap (λ zs. slice_get zs k) e) ∙ f) g }
