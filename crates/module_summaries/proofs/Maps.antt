-- Lists that are mapped twice, and mapped piece by piece.
use Rattle.std.proofs.Common.{◌≡◌, ℕ, ◌+◌, ◌≤◌, zero, suc, length, arith, List, [], ◌∷◌, ◌++◌, drop, map, Some, refl, sym, ap, ◌∙◌, add-one}
use Rattle.std.specs.Prelude.{slice_get}
use Rattle.std.proofs.lemmas.List.{append-nil, append_assoc}
use Rattle.module_endings.proofs.Sourcing.{drop-at}
use Rattle.es6_static_semantics.specs.Findings.{joined}

pub map_twice : {A B C : Type 0} (f : B → C) (g : A → B) (xs : List A) → map f (map g xs) ≡ map (λ x. f (g x)) xs
map_twice f g [] = refl
map_twice f g (x ∷ xs) = ap (λ rest. f (g x) ∷ rest) (map_twice f g xs)

dropped-more : {A : Type 0} (xs : List A) (i : ℕ) (x : A) → slice_get xs i ≡ Some x → drop i xs ≡ x ∷ drop (i + 1) xs
dropped-more xs i x there = drop-at xs i x there ∙ ap (λ n. x ∷ drop n xs) (sym (add-one i))

-- a list to which the part of one element more is added
pub joined-more : {A B : Type 0} (f : A → List B) (xs : List A) (i : ℕ) (x : A) (old new end : List B) → slice_get xs i ≡ Some x → new ≡ old ++ f x → old ++ joined f (drop i xs) ≡ end → new ++ joined f (drop (i + 1) xs) ≡ end
joined-more f xs i x old new end there grown before =
    ap (λ list. list ++ joined f (drop (i + 1) xs)) grown ∙ append_assoc old (f x) (joined f (drop (i + 1) xs))
    ∙ ap (λ rest. old ++ joined f rest) (sym (dropped-more xs i x there)) ∙ before

pub from-empty : {A : Type 0} (old new rest : List A) → new ≡ old ++ rest → old ≡ [] → new ≡ rest
from-empty old new rest grown empty = grown ∙ ap (λ list. list ++ rest) empty

dropped-all : {A : Type 0} (xs : List A) (i : ℕ) → length xs ≤ i → drop i xs ≡ []
dropped-all [] zero h = refl
dropped-all [] (suc i) h = refl
dropped-all (x ∷ xs) zero h = absurd (omega (arith, h))
dropped-all (x ∷ xs) (suc i) h = dropped-all xs i (omega (arith, h))

-- all elements' parts are added
pub all-joined : {A B : Type 0} (f : A → List B) (xs : List A) (i : ℕ) (old end : List B) → length xs ≤ i → old ++ joined f (drop i xs) ≡ end → old ≡ end
all-joined f xs i old end over before = sym (append-nil old) ∙ ap (λ rest. old ++ joined f rest) (sym (dropped-all xs i over)) ∙ before
