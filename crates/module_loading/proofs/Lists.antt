-- Lists that grow, and what stands in them.
use Rattle.std.proofs.Common.{◌≡◌, ℕ, zero, suc, List, [], ◌∷◌, ◌++◌, length, map, reverse, Option, Some, None, Result, Ok, Err, refl, sym, ap, ◌∙◌, subst}
use Rattle.std.specs.Prelude.{All, slice_get}
use Rattle.std.proofs.lemmas.List.{append_assoc, reverse-append}
use Rattle.std.proofs.lemmas.List.Elements.{All-head, All-nil, All-push, All-tail}
use Rattle.module_loading.specs.Requests.{zipped}

pub some-same : {A : Type 0} {x y : A} → Some x ≡ Some y → x ≡ y
some-same {x = x} e = ap (λ o. or x o) e
  where
    or : {A : Type 0} → A → Option A → A
    or d None = d
    or d (Some z) = z

pub err-same : {A E : Type 0} {x y : E} → ◌≡◌ {A = Result A E} (Err x) (Err y) → x ≡ y
err-same {x = x} e = ap (λ r. or x r) e
  where
    or : {A E : Type 0} → E → Result A E → E
    or d (Ok z) = d
    or d (Err z) = z

pub map-push : {A B : Type 0} (f : A → B) (xs : List A) (x : A) → map f (xs ++ x ∷ []) ≡ map f xs ++ f x ∷ []
map-push f [] x = refl
map-push f (y ∷ xs) x = ap (λ list. f y ∷ list) (map-push f xs x)

pub length-push : {A : Type 0} (xs : List A) (x : A) → length (xs ++ x ∷ []) ≡ suc (length xs)
length-push [] x = refl
length-push (y ∷ xs) x = ap suc (length-push xs x)

pub reverse-push : {A : Type 0} (xs : List A) (x : A) → reverse (xs ++ x ∷ []) ≡ x ∷ reverse xs
reverse-push xs x = reverse-append xs (x ∷ [])

pub all-reverse : {A : Type 0} (P : A → Type 0) (xs : List A) → All P xs → All P (reverse xs)
all-reverse P [] all = All-nil P
all-reverse P (x ∷ xs) all =
    let L : List _ → Type 0 = λ list. All P list in
    subst L (sym (reverse-append (x ∷ []) xs)) (All-push P (reverse xs) x (all-reverse P xs (All-tail P x xs all)) (All-head P x xs all))

-- what stands at an index of a list that is mapped
pub get-map : {A B : Type 0} (f : A → B) (xs : List A) (i : ℕ) (y : B) → slice_get (map f xs) i ≡ Some y → (x : A) × (slice_get xs i ≡ Some x) × (f x ≡ y)
get-map f [] i y e = absurd (cc)
get-map f (x ∷ xs) zero y e = (x, refl, some-same e)
get-map f (x ∷ xs) (suc i) y e = get-map f xs i y e

pub map-get : {A B : Type 0} (f : A → B) (xs : List A) (i : ℕ) (x : A) → slice_get xs i ≡ Some x → slice_get (map f xs) i ≡ Some (f x)
map-get f [] i x e = absurd (cc)
map-get f (y ∷ xs) zero x e = ap (λ z. Some (f z)) (some-same e)
map-get f (y ∷ xs) (suc i) x e = map-get f xs i x e

pub get-left : {A : Type 0} (xs ys : List A) (i : ℕ) (x : A) → slice_get xs i ≡ Some x → slice_get (xs ++ ys) i ≡ Some x
get-left [] ys i x e = absurd (cc)
get-left (y ∷ xs) ys zero x e = e
get-left (y ∷ xs) ys (suc i) x e = get-left xs ys i x e

pub get-last : {A : Type 0} (xs : List A) (x : A) → slice_get (xs ++ x ∷ []) (length xs) ≡ Some x
get-last [] x = refl
get-last (y ∷ xs) x = get-last xs x

-- two that stand at one index are the same
pub one-there : {A : Type 0} (xs : List A) (i : ℕ) (x y : A) → slice_get xs i ≡ Some x → slice_get xs i ≡ Some y → x ≡ y
one-there xs i x y e f = some-same (sym e ∙ f)

-- a list and one that is as long, up to an index and behind it
pub zipped-push : {A B : Type 0} (f : A → B → A) (xs : List A) (ys : List B) (x : A) (y : B) → slice_get ys (length xs) ≡ Some y → zipped f (xs ++ x ∷ []) ys ≡ zipped f xs ys ++ f x y ∷ []
zipped-push f [] [] x y e = absurd (cc)
zipped-push f [] (z ∷ ys) x y e = ap (λ v. f x v ∷ []) (some-same e)
zipped-push f (z ∷ xs) [] x y e = absurd (cc)
zipped-push f (z ∷ xs) (w ∷ ys) x y e = ap (λ rest. f z w ∷ rest) (zipped-push f xs ys x y e)

-- one is moved from the end of a list to the end of another, which stands in reverse behind it
pub zipped-moved : {A B : Type 0} (f : A → B → A) (xs : List A) (ys : List B) (x : A) (y : B) (back more all : List A) → slice_get ys (length xs) ≡ Some y → more ≡ back ++ f x y ∷ []
    → zipped f (xs ++ x ∷ []) ys ++ reverse back ≡ all → zipped f xs ys ++ reverse more ≡ all
zipped-moved f xs ys x y back more all there grown before =
    ap (λ list. zipped f xs ys ++ reverse list) grown ∙ ap (λ list. zipped f xs ys ++ list) (reverse-push back (f x y))
    ∙ sym (append_assoc (zipped f xs ys) (f x y ∷ []) (reverse back)) ∙ ap (λ list. list ++ reverse back) (sym (zipped-push f xs ys x y there)) ∙ before

-- parts of one list, put together
pub zipped-maps : {A B C : Type 0} (f : A → B → A) (g : C → A) (h : C → B) (xs : List C) → zipped f (map g xs) (map h xs) ≡ map (λ x. f (g x) (h x)) xs
zipped-maps f g h [] = refl
zipped-maps f g h (x ∷ xs) = ap (λ rest. f (g x) (h x) ∷ rest) (zipped-maps f g h xs)
