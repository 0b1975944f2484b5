-- The front of a list that grows by what stands next.
use Rattle.std.proofs.Common.{◌≡◌, ℕ, zero, suc, ◌+◌, List, [], ◌∷◌, ◌++◌, take, Option, None, Some, sym, ap, ◌∙◌, add-one}
use Rattle.std.specs.Prelude.{slice_get}

some-same : {A : Type 0} {x y : A} → Some x ≡ Some y → x ≡ y
some-same {x = x} e = ap (λ o. or x o) e
  where
    or : {A : Type 0} → A → Option A → A
    or d None = d
    or d (Some z) = z

-- what stands at an index is the last of those up to it
take-one : {A : Type 0} (xs : List A) (i : ℕ) (x : A) → slice_get xs i ≡ Some x → take (i + 1) xs ≡ take i xs ++ x ∷ []
take-one xs i x there = ap (λ n. take n xs) (add-one i) ∙ taken xs i x there
  where
    taken : {A : Type 0} (xs : List A) (i : ℕ) (x : A) → slice_get xs i ≡ Some x → take (suc i) xs ≡ take i xs ++ x ∷ []
    taken [] i x e = absurd (cc)
    taken (y ∷ xs) zero x e = ap (λ z. z ∷ []) (some-same e)
    taken (y ∷ xs) (suc i) x e = ap (λ rest. y ∷ rest) (taken xs i x e)

-- a list to which what stands at the next index is added
pub taken-more : {A : Type 0} (xs : List A) (i : ℕ) (x y : A) (old new : List A) → slice_get xs i ≡ Some x → y ≡ x → new ≡ old ++ y ∷ [] → old ≡ take i xs
    → new ≡ take (i + 1) xs
taken-more xs i x y old new there same grown before =
    grown ∙ ap (λ z. old ++ z ∷ []) same ∙ ap (λ list. list ++ x ∷ []) before ∙ sym (take-one xs i x there)
