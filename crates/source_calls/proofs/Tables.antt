-- Generators in their table, as the definitions see them.
use Rattle.std.proofs.Common.{◌≡◌, ℕ, List, [], ◌∷◌, ◌++◌, None, Some, sym, ap, ◌∙◌, map, slice_set, zero, suc}
use Rattle.std.proofs.lemmas.List.{map-append, map-set, set-set}
use Rattle.std.proofs.lemmas.Option.{slice_get-map}
use Rattle.std.specs.List.{slice_get}
use Rattle.std.specs.Option.{option_map}

-- one is put there
pub set_seen : {A B : Type 0} (f : A → B) (xs : List A) (n : ℕ) (x : A) → map f (slice_set xs n x) ≡ slice_set (map f xs) n (f x)
set_seen f xs n x = map-set f xs n x

-- one more
pub push_seen : {A B : Type 0} (f : A → B) (xs : List A) (x : A) → map f (xs ++ x ∷ []) ≡ map f xs ++ f x ∷ []
push_seen f xs x = map-append f xs (x ∷ [])

-- where one was put a moment ago
pub set_again : {A : Type 0} (xs : List A) (n : ℕ) (x y : A) → slice_set (slice_set xs n x) n y ≡ slice_set xs n y
set_again xs n x y = set-set xs n x y

set_own : {A : Type 0} (xs : List A) (n : ℕ) (x : A) → slice_get xs n ≡ Some x → slice_set xs n x ≡ xs
set_own [] n x e = cc
set_own (y ∷ ys) zero x e = cc
set_own (y ∷ ys) (suc n) x e = ap (λ zs. y ∷ zs) (set_own ys n x e)

-- none is there
pub taken_none : {A B : Type 0} (f : A → B) (xs : List A) (n : ℕ) → slice_get xs n ≡ None → slice_get (map f xs) n ≡ None
taken_none f xs n e = slice_get-map f xs n ∙ ap (option_map f) e

-- one is there, and is taken out and put back
pub taken_some : {A B : Type 0} (f : A → B) (xs : List A) (n : ℕ) (x : A) → slice_get xs n ≡ Some x → slice_get (map f xs) n ≡ Some (f x)
taken_some f xs n x e = slice_get-map f xs n ∙ ap (option_map f) e

pub put_back : {A B : Type 0} (f : A → B) (xs : List A) (n : ℕ) (x y : A) → slice_get xs n ≡ Some x → slice_set (map f (slice_set xs n y)) n (f x) ≡ map f xs
put_back f xs n x y e =
    sym (map-set f (slice_set xs n y) n x) ∙ ap (map f) (set-set xs n y x ∙ set_own xs n x e)
