-- How the sets of names relate to lists of names.
use Rattle.std.proofs.Common.{◌≡◌, ℕ, ◌+◌, ◌<◌, Bool, true, false, cond, ◌||◌, List, [], ◌∷◌, ◌++◌, length, get_or, take, map, refl, sym, ap, ◌∙◌}
use Rattle.std.specs.List.{list_any}
use Rattle.std.specs.Str.{bytes_eq}
use Rattle.std.proofs.lemmas.List.Sums.{fold_more}
use Rattle.first_forms.specs.Names.{is_one_of}
use Rattle.first_forms.specs.Reading.{importable, with_host, with_name}

pub list_any-map : {X Y : Type 0} (p : X → Bool) (h : Y → X) (ys : List Y) → list_any p (map h ys) ≡ list_any (λ y. p (h y)) ys
list_any-map p h [] = refl
list_any-map p h (y ∷ ys) = ap (λ b. p (h y) || b) (list_any-map p h ys)

pub map-push : {X Y : Type 0} (h : Y → X) (ys : List Y) (y : Y) → map h (ys ++ y ∷ []) ≡ map h ys ++ h y ∷ []
map-push h [] y = refl
map-push h (x ∷ ys) y = ap (λ zs. h x ∷ zs) (map-push h ys y)

pub map-cond : {X Y : Type 0} (h : Y → X) (b : Bool) (xs ys : List Y) → map h (cond b xs ys) ≡ cond b (map h xs) (map h ys)
map-cond h true xs ys = refl
map-cond h false xs ys = refl

pub importable-more : (hosts : List (List ℕ)) (i : ℕ) (d : List ℕ) → i < length hosts → importable (take (i + 1) hosts) ≡ with_host (importable (take i hosts)) (get_or hosts i d)
unfolding importable
importable-more hosts i d h = fold_more with_host [] hosts i d h

pub importable-none : importable [] ≡ []
unfolding importable
importable-none = refl

-- a set after a key is inserted, seen as the list of its names
pub insert-view : {V : Type 0} (view : V → List ℕ) (keys new : List V) (v : V) (name : List ℕ) (old : List (List ℕ))
    → new ≡ cond (list_any (λ k. bytes_eq (view v) (view k)) keys) keys (keys ++ v ∷ []) → view v ≡ name → map view keys ≡ old
    → map view new ≡ with_name old name
insert-view view keys new v name old e n o =
    let b : list_any (λ k. bytes_eq (view v) (view k)) keys ≡ is_one_of name old =
    sym (list_any-map (bytes_eq (view v)) view keys) ∙ ap (λ ns. is_one_of (view v) ns) o ∙ ap (λ m. is_one_of m old) n in
    ap (map view) e ∙ map-cond view _ keys (keys ++ v ∷ [])
    ∙ ap (λ c. cond c (map view keys) (map view (keys ++ v ∷ []))) b
    ∙ ap (λ ns. cond (is_one_of name old) ns (map view (keys ++ v ∷ []))) o
    ∙ ap (λ ns. cond (is_one_of name old) old ns) (map-push view keys v ∙ ap (λ ns. ns ++ view v ∷ []) o ∙ ap (λ m. old ++ m ∷ []) n)
