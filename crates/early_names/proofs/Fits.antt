-- The last link of a chain, and the first misfit of an array literal's elements.
use Rattle.std.proofs.Common.{◌≡◌, ℕ, ◌+◌, ◌-◌, ◌<◌, Bool, true, false, ◌&&◌, not, cond, nat_eq, List, [], ◌∷◌, length, drop, map, get_or, Option, Some, None, refl, sym, ap, ◌∙◌, arith, add-one, drop-cons}
use Rattle.std.specs.List.{slice_get}
use Rattle.std.proofs.lemmas.Bool.Decides.{nat_tests}
use Rattle.std.proofs.lemmas.List.{length-drop}
use Rattle.es6_ast.specs.Targets.{AsElement, NoElement, OneElement, LastElement, elements_misfit, ends_in_access, first_of_two}
use Rattle.early_names.specs.Misfits.{element_misfit}

-- the last of a chain's links decides
pub ends_in_access-last : {X Y : Type 0} (h : Y → Bool) (g : X → Y) (ls : List X) (l : X) → Some l ≡ slice_get ls (length ls - 1) → h (g l) ≡ ends_in_access (map h (map g ls))
ends_in_access-last h g [] l e = absurd (cc)
ends_in_access-last h g (x ∷ []) l e =
    let same : l ≡ x = cc in
    ap (λ y. h (g y)) same
ends_in_access-last h g (x ∷ y ∷ ls) l e =
    let n : length (x ∷ y ∷ ls) - 1 ≡ length (y ∷ ls) - 1 + 1 = omega arith in
    ends_in_access-last h g (y ∷ ls) l (e ∙ ap (slice_get (x ∷ y ∷ ls)) (n ∙ add-one (length (y ∷ ls) - 1)))

abbrev pub is_nil : {X : Type 0} → List X → Bool
is_nil [] = true
is_nil (x ∷ xs) = false

first-none : (m : Option ℕ) → m ≡ first_of_two m None
first-none None = refl
first-none (Some at) = refl

rest_misfit : (comma : Bool) (at : ℕ) (m : Option ℕ) → cond comma (Some at) m ≡ first_of_two (cond (true && not comma) m (Some at)) None
rest_misfit true at m = refl
rest_misfit false at m = first-none m

-- the elements' first misfit is that of the first element, or of the others
elements-cons : (comma : Bool) (x : AsElement) (xs : List AsElement) → elements_misfit comma (x ∷ xs) ≡ first_of_two (element_misfit (is_nil xs && not comma) x) (elements_misfit comma xs)
elements-cons comma NoElement xs = refl
elements-cons comma (OneElement m) xs = refl
elements-cons comma (LastElement at m) [] = rest_misfit comma at m
elements-cons comma (LastElement at m) (y ∷ ys) = refl

is_nil-map : {X Y : Type 0} (f : X → Y) (xs : List X) → is_nil xs ≡ is_nil (map f xs)
is_nil-map f [] = refl
is_nil-map f (x ∷ xs) = refl

nat_eq-positive : (n : ℕ) → nat_eq (n + 1) 0 ≡ false
nat_eq-positive n = grind (arith, nat_tests)

is_nil-length : {X : Type 0} (xs : List X) → nat_eq (length xs) 0 ≡ is_nil xs
is_nil-length [] = refl
is_nil-length (x ∷ xs) = ap (λ n. nat_eq n 0) (sym (add-one (length xs))) ∙ nat_eq-positive (length xs)

last_index : (i n : ℕ) → i < n → nat_eq (i + 1) n ≡ nat_eq (n - (i + 1)) 0
last_index i n h = grind (arith, nat_tests)

is_nil-drop : {X : Type 0} (i : ℕ) (xs : List X) → i < length xs → nat_eq (i + 1) (length xs) ≡ is_nil (drop (i + 1) xs)
is_nil-drop i xs h =
    last_index i (length xs) h ∙ ap (λ n. nat_eq n 0) (sym (length-drop (i + 1) xs)) ∙ is_nil-length (drop (i + 1) xs)

pub elements_misfit-step : {X Y : Type 0} (h : Y → AsElement) (g : X → Y) (comma : Bool) (xs : List X) (i : ℕ) (d : X) → i < length xs
    → elements_misfit comma (map h (map g (drop i xs))) ≡ first_of_two (element_misfit (nat_eq (i + 1) (length xs) && not comma) (h (g (get_or xs i d)))) (elements_misfit comma (map h (map g (drop (i + 1) xs))))
elements_misfit-step h g comma xs i d l =
    let rest = map h (map g (drop (i + 1) xs)) in
    let nil : is_nil rest ≡ nat_eq (i + 1) (length xs) =
    sym (is_nil-drop i xs l ∙ is_nil-map g (drop (i + 1) xs) ∙ is_nil-map h (map g (drop (i + 1) xs))) in
    ap (λ ys. elements_misfit comma (map h (map g ys))) (drop-cons xs i d l ∙ ap (λ n. get_or xs i d ∷ drop n xs) (sym (add-one i)))
    ∙ elements-cons comma (h (g (get_or xs i d))) rest
    ∙ ap (λ b. first_of_two (element_misfit (b && not comma) (h (g (get_or xs i d)))) (elements_misfit comma rest)) nil

-- a misfit that is found is the first
pub first-found : (m : Option ℕ) (at : ℕ) (later : Option ℕ) → m ≡ Some at → Some at ≡ first_of_two m later
first-found None at later e = absurd (cc)
first-found (Some a) at later e = sym e
