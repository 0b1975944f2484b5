-- What stands at an index of a list.
use Rattle.std.proofs.Common.{◌≡◌, ℕ, zero, suc, ◌<◌, List, [], ◌∷◌, ◌++◌, length, Option, Some, None, refl, sym, ap, ◌∙◌, subst, inl, inr, arith, ◌⊎◌}
use Rattle.std.specs.Prelude.{slice_get, slice_set}
use Rattle.std.specs.List.{Contains}
use Rattle.std.proofs.lemmas.Bool.{cases_eq}
use Rattle.std.proofs.lemmas.List.{get_or-set_same, get_or-set_other}
use Rattle.std.proofs.lemmas.List.Elements.{Contains-push, Contains-push_cases}
use Rattle.std.proofs.lemmas.Option.{slice_get-get_or, slice_get_within}
use Rattle.module_flows.specs.Flows.{users_of}

pub some-same : {A : Type 0} {x y : A} → Some x ≡ Some y → x ≡ y
some-same {x = x} e = ap (λ o. or x o) e
  where
    or : {A : Type 0} → A → Option A → A
    or d None = d
    or d (Some z) = z

-- two that stand at one index are the same
pub one-there : {A : Type 0} (xs : List A) (k : ℕ) (x y : A) → slice_get xs k ≡ Some x → slice_get xs k ≡ Some y → x ≡ y
one-there xs k x y e f = some-same (sym e ∙ f)

pub get-left : {A : Type 0} (xs ys : List A) (k : ℕ) (x : A) → slice_get xs k ≡ Some x → slice_get (xs ++ ys) k ≡ Some x
get-left [] ys k x e = absurd (cc)
get-left (y ∷ xs) ys zero x e = e
get-left (y ∷ xs) ys (suc k) x e = get-left xs ys k x e

-- what stands at an index with one element more
pub get-push_cases : {A : Type 0} (xs : List A) (y : A) (k : ℕ) (x : A) → slice_get (xs ++ y ∷ []) k ≡ Some x → slice_get xs k ≡ Some x ⊎ ((k ≡ length xs) × (x ≡ y))
get-push_cases [] y zero x e = inr (refl, sym (some-same e))
get-push_cases [] y (suc k) x e = absurd (cc)
get-push_cases (z ∷ xs) y zero x e = inl e
get-push_cases (z ∷ xs) y (suc k) x e = elim (get-push_cases xs y k x e) [
  | inl old ↦ inl old
  | inr p ↦ inr (ap suc p.0, p.1)
]

pub contains-get : {A : Type 0} (xs : List A) (k : ℕ) (x : A) → slice_get xs k ≡ Some x → Contains xs x
contains-get xs k x e =
    let inside : k < length xs = slice_get_within xs k x e in
    (k, inside, some-same (sym (slice_get-get_or xs k x inside) ∙ e))

pub get-contains : {A : Type 0} (xs : List A) (x : A) → Contains xs x → (k : ℕ) × (slice_get xs k ≡ Some x)
get-contains xs x c = (c.0, slice_get-get_or xs c.0 x c.1 ∙ ap (λ z. Some z) c.2)

pub none-contained : {A : Type 0} (x : A) → Contains [] x → ⊥
none-contained x h = absurd (omega (arith, h.1))

pub one-contained : {A : Type 0} (x y : A) → Contains (x ∷ []) y → x ≡ y
one-contained x y h = elim (Contains-push_cases [] x y h) [ inl none ↦ absurd (none-contained y none) | inr e ↦ e ]

pub contains-one : {A : Type 0} (x y : A) → x ≡ y → Contains (x ∷ []) y
contains-one {A} x y e = let P : A → Type 0 = λ z. Contains (x ∷ []) z in subst P e (Contains-push [] x)

pub contains-same : {A : Type 0} (xs ys : List A) (x : A) → xs ≡ ys → Contains xs x → Contains ys x
contains-same {A} xs ys x e c = let P : List A → Type 0 = λ z. Contains z x in subst P e c

-- a new place has no users
pub users-push : (us : List (List ℕ)) (k : ℕ) → users_of (us ++ [] ∷ []) k ≡ users_of us k
users-push [] zero = refl
users-push [] (suc k) = refl
users-push (u ∷ us) zero = refl
users-push (u ∷ us) (suc k) = users-push us k

-- one user more
pub users-set : (us : List (List ℕ)) (at user k : ℕ) → at < length us
    → ((k ≡ at) × (users_of (slice_set us at (users_of us at ++ user ∷ [])) k ≡ users_of us k ++ user ∷ [])) ⊎ (users_of (slice_set us at (users_of us at ++ user ∷ [])) k ≡ users_of us k)
users-set us at user k inside = elim (cases_eq k at) [
  | inl e ↦ inl (
    e,
    (let P : ℕ → Type 0 = λ z. users_of (slice_set us at (users_of us at ++ user ∷ [])) z ≡ users_of us z ++ user ∷ [] in
        subst P (sym e) (get_or-set_same us at (users_of us at ++ user ∷ []) [] inside)),
  )
  | inr ne ↦ inr (get_or-set_other us at k (users_of us at ++ user ∷ []) [] ne)
]
