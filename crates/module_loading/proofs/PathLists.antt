-- How a set of paths relates to the list of their bytes.
use Rattle.std.proofs.Common.{◌≡◌, ℕ, ◌+◌, Bool, true, false, cond, not, ◌||◌, Some, None, List, [], ◌∷◌, ◌++◌, length, map, refl, sym, ap, ◌∙◌}
use Rattle.std.specs.Prelude.{nat_lt, position}
use Rattle.std.specs.List.{list_any, position_or_len, prefix_len}
use Rattle.std.proofs.lemmas.List.{length-map}
use Rattle.std.specs.Str.{bytes_eq}
use Rattle.module_loading.specs.Requests.{is_listed}
use Rattle.module_loading.proofs.Lists.{map-push}

pub list_any-map : {X Y : Type 0} (p : X → Bool) (h : Y → X) (ys : List Y) → list_any p (map h ys) ≡ list_any (λ y. p (h y)) ys
list_any-map p h [] = refl
list_any-map p h (y ∷ ys) = ap (λ b. p (h y) || b) (list_any-map p h ys)

prefix_len-map : {X Y : Type 0} (p : X → Bool) (h : Y → X) (ys : List Y) → prefix_len p (map h ys) ≡ prefix_len (λ y. p (h y)) ys
prefix_len-map p h [] = refl
prefix_len-map p h (y ∷ ys) = ap (λ n. cond (p (h y)) (1 + n) 0) (prefix_len-map p h ys)

pub position-map : {X Y : Type 0} (p : X → Bool) (h : Y → X) (ys : List Y) → position p (map h ys) ≡ position (λ y. p (h y)) ys
position-map p h ys =
    ap (λ n. cond (nat_lt n (length (map h ys))) (Some n) None) (prefix_len-map (λ x. not (p x)) h ys)
    ∙ ap (λ n. cond (nat_lt (position_or_len (λ y. p (h y)) ys) n) (Some (position_or_len (λ y. p (h y)) ys)) None) (length-map ys h)

map-cond : {X Y : Type 0} (h : Y → X) (b : Bool) (xs ys : List Y) → map h (cond b xs ys) ≡ cond b (map h xs) (map h ys)
map-cond h true xs ys = refl
map-cond h false xs ys = refl

-- a set after a key is inserted, seen as the list of its paths
pub insert-view : {V : Type 0} (view : V → List ℕ) (keys new : List V) (v : V) (old : List (List ℕ))
    → new ≡ cond (list_any (λ k. bytes_eq (view v) (view k)) keys) keys (keys ++ v ∷ []) → map view keys ≡ old
    → map view new ≡ cond (is_listed (view v) old) old (old ++ view v ∷ [])
insert-view view keys new v old e o =
    let b : list_any (λ k. bytes_eq (view v) (view k)) keys ≡ is_listed (view v) old =
    sym (list_any-map (bytes_eq (view v)) view keys) ∙ ap (λ ns. is_listed (view v) ns) o in
    ap (map view) e ∙ map-cond view _ keys (keys ++ v ∷ [])
    ∙ ap (λ c. cond c (map view keys) (map view (keys ++ v ∷ []))) b
    ∙ ap (λ ns. cond (is_listed (view v) old) ns (map view (keys ++ v ∷ []))) o
    ∙ ap (λ ns. cond (is_listed (view v) old) old ns) (map-push view keys v ∙ ap (λ ns. ns ++ view v ∷ []) o)
