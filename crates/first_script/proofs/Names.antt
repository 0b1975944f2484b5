-- What the comparison of names says.
use Rattle.std.proofs.Common.{◌≡◌, ℕ, Bool, true, false, ◌||◌, List, [], ◌∷◌, ◌++◌, refl, sym, ap, ◌⊎◌, inl, inr}
use Rattle.std.specs.Str.{bytes_eq}
use Rattle.std.proofs.lemmas.Bool.{false_from_ne_true}
use Rattle.std.proofs.lemmas.Slice.Eq.{bytes_eq-Decides}
use Rattle.first_forms.specs.Names.{is_one_of}

pub same_names : (a b : List ℕ) → bytes_eq a b ≡ true → a ≡ b
same_names a b h = (bytes_eq-Decides a b).0 h

pub bytes_eq-refl : (a : List ℕ) → bytes_eq a a ≡ true
bytes_eq-refl a = (bytes_eq-Decides a a).1 refl

pub bytes_eq-false : (a b : List ℕ) → (a ≡ b → ⊥) → bytes_eq a b ≡ false
bytes_eq-false a b h = false_from_ne_true (bytes_eq a b) (λ e. h (same_names a b e))

-- a test is true or false
pub bool_cases : (b : Bool) → (b ≡ true) ⊎ (b ≡ false)
bool_cases true = inl refl
bool_cases false = inr refl

pub true_not_false : (b : Bool) → b ≡ true → b ≡ false → ⊥
true_not_false b h k = cc

pub or_cases : (a b : Bool) → (a || b) ≡ true → (a ≡ true) ⊎ (b ≡ true)
or_cases true b h = inl refl
or_cases false b h = inr h

pub or_left : (a b : Bool) → a ≡ true → (a || b) ≡ true
or_left a b h = ap (λ c. c || b) h

pub or_right : (a b : Bool) → b ≡ true → (a || b) ≡ true
or_right true b h = refl
or_right false b h = h

-- equal names, or names that differ
pub name_cases : (a b : List ℕ) → (a ≡ b) ⊎ (bytes_eq a b ≡ false)
name_cases a b = by_test (bool_cases (bytes_eq a b))
  where
    by_test : (bytes_eq a b ≡ true) ⊎ (bytes_eq a b ≡ false) → (a ≡ b) ⊎ (bytes_eq a b ≡ false)
    by_test (inl h) = inl (same_names a b h)
    by_test (inr h) = inr h

-- a name among those of a list and one more is that one, or among the list's
more_at_head : (x z y : List ℕ) (rest : Bool) (xs : List (List ℕ)) → (bytes_eq y z ≡ true) ⊎ (rest ≡ true) → (rest ≡ true → (x ≡ y) ⊎ (is_one_of y xs ≡ true)) → (x ≡ y) ⊎ (is_one_of y (z ∷ xs) ≡ true)
more_at_head x z y rest xs (inl e) later = inr (or_left (bytes_eq y z) (is_one_of y xs) e)
more_at_head x z y rest xs (inr e) later = in_rest (later e)
  where
    in_rest : (x ≡ y) ⊎ (is_one_of y xs ≡ true) → (x ≡ y) ⊎ (is_one_of y (z ∷ xs) ≡ true)
    in_rest (inl k) = inl k
    in_rest (inr k) = inr (or_right (bytes_eq y z) (is_one_of y xs) k)

pub is_one_of-more : (x : List ℕ) (xs : List (List ℕ)) (y : List ℕ) → is_one_of y (xs ++ x ∷ []) ≡ true → (x ≡ y) ⊎ (is_one_of y xs ≡ true)
is_one_of-more x [] y h = alone (or_cases (bytes_eq y x) false h)
  where
    alone : (bytes_eq y x ≡ true) ⊎ (false ≡ true) → (x ≡ y) ⊎ (is_one_of y [] ≡ true)
    alone (inl e) = inl (sym (same_names y x e))
    alone (inr e) = inr e
is_one_of-more x (z ∷ xs) y h =
    more_at_head x z y (is_one_of y (xs ++ x ∷ [])) xs (or_cases (bytes_eq y z) (is_one_of y (xs ++ x ∷ [])) h) (is_one_of-more x xs y)
