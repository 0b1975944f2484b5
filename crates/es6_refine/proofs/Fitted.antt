-- What is answered of lists, an item at a time: the first that doesn't fit decides.
use Rattle.std.proofs.Common.{◌≡◌, ℕ, suc, ◌+◌, ◌-◌, ◌<◌, Bool, true, false, ◌&&◌, not, nat_eq, List, [], ◌∷◌, length, drop, map, get_or, Some, refl, sym, ap, ◌∙◌, arith, add-one}
use Rattle.std.specs.List.{slice_get}
use Rattle.std.proofs.lemmas.Bool.Decides.{nat_tests}
use Rattle.std.proofs.lemmas.List.{length-drop, at_drop_more}
use Rattle.es6_ast.specs.Targets.{ends_in_access}
use Rattle.es6_ast.specs.declared.tree.Expression.{Expression}
use Rattle.es6_ast.specs.declared.tree.Pattern.{Pattern}
use Rattle.es6_ast.specs.declared.tree.Part.{Part}
use Rattle.es6_ast.specs.declared.tree.ArrayPart.{ArrayPart}
use Rattle.es6_ast.specs.declared.tree.Element.{Element, out-Element}
use Rattle.es6_ast.specs.declared.tree.Property.{Property, out-Property}
use Rattle.es6_ast.specs.declared.tree.Property.TheVariants as property
use Rattle.es6_ast.specs.declared.tree.Expression.TheVariants as expr
use Rattle.es6_ast.specs.declared.tree.Pattern.TheVariants as pattern
use Rattle.es6_ast.specs.declared.tree.ObjectPart.TheVariants.{KeyedPart}
use Rattle.es6_ast.specs.declared.tree.Key.{Key}
use Rattle.es_text.specs.declared.Span.{Span}
use Rattle.es6_reading.specs.Refine.{Refined, Fits, Misfit, TooNested, refined_map, refined_cons, refined_then, all_bind, is_last, element_part, array_parts_of, property_part, object_parts_of, refine}
use Rattle.es6_refine.specs.declared.fit.Fit.{Fit}
use Rattle.es6_refine.specs.Fitting.{fit_of, is_fitting, part_of}

pub fit-map : {A B : Type 0} (f : A → B) (r : Refined A) → fit_of (refined_map f r) ≡ fit_of r
fit-map f (Fits x) = refl
fit-map f (Misfit at) = refl
fit-map f TooNested = refl

-- the others decide where the first fits
pub others_decide : {A : Type 0} (r : Refined A) (rs : Refined (List A)) → is_fitting (fit_of r) ≡ true → fit_of (refined_cons r rs) ≡ fit_of rs
others_decide (Fits x) rs e = fit-map _ rs
others_decide (Misfit at) rs e = absurd (cc)
others_decide TooNested rs e = absurd (cc)

pub first_decides : {A : Type 0} (r : Refined A) (rs : Refined (List A)) → is_fitting (fit_of r) ≡ false → fit_of (refined_cons r rs) ≡ fit_of r
first_decides (Fits x) rs e = absurd (cc)
first_decides (Misfit at) rs e = refl
first_decides TooNested rs e = refl

others_decide_then : {A B : Type 0} (r : Refined A) (s : Refined B) → is_fitting (fit_of r) ≡ true → fit_of (refined_then r s) ≡ fit_of s
others_decide_then (Fits x) s e = refl
others_decide_then (Misfit at) s e = absurd (cc)
others_decide_then TooNested s e = absurd (cc)

first_decides_then : {A B : Type 0} (r : Refined A) (s : Refined B) → is_fitting (fit_of r) ≡ false → fit_of (refined_then r s) ≡ fit_of r
first_decides_then (Fits x) s e = absurd (cc)
first_decides_then (Misfit at) s e = refl
first_decides_then TooNested s e = refl

-- ## Lists of which each item is asked the same

-- the item that a turn is about
abbrev pub IsItem : {A : Type 0} → List A → ℕ → A → Type 0
IsItem xs i x = (i < length xs) × (x ≡ get_or xs i x)

item_first : {A B : Type 0} (F : List A → B) (xs : List A) (i : ℕ) (x : A) → IsItem xs i x → F (drop i xs) ≡ F (x ∷ drop (i + 1) xs)
item_first F xs i x h = at_drop_more F xs i x h.0 ∙ ap (λ y. F (y ∷ drop (i + 1) xs)) (sym h.1)

pub binds_on : {A : Type 0} (f : A → Refined (Unit {0})) (xs : List A) (i : ℕ) (x : A) (answer : Fit) → IsItem xs i x → answer ≡ fit_of (f x) → is_fitting answer ≡ true → fit_of (all_bind f (drop (i + 1) xs)) ≡ fit_of (all_bind f (drop i xs))
binds_on f xs i x answer h e k =
    sym (item_first (λ ys. fit_of (all_bind f ys)) xs i x h ∙ others_decide_then (f x) (all_bind f (drop (i + 1) xs)) (ap is_fitting (sym e) ∙ k))

pub binds_no_more : {A : Type 0} (f : A → Refined (Unit {0})) (xs : List A) (i : ℕ) (x : A) (answer : Fit) → IsItem xs i x → answer ≡ fit_of (f x) → is_fitting answer ≡ false → answer ≡ fit_of (all_bind f (drop i xs))
binds_no_more f xs i x answer h e k =
    e ∙ sym (item_first (λ ys. fit_of (all_bind f ys)) xs i x h ∙ first_decides_then (f x) (all_bind f (drop (i + 1) xs)) (ap is_fitting (sym e) ∙ k))

-- what is refined of a list is refined of each item
abbrev pub IsByItems : {A B : Type 0} → (A → Refined B) → (List A → Refined (List B)) → Type 0
IsByItems {A = A} one all = (x : A) (xs : List A) → all (x ∷ xs) ≡ refined_cons (one x) (all xs)

pub fits_on : {A B : Type 0} (one : A → Refined B) (all : List A → Refined (List B)) → IsByItems one all → (xs : List A) (i : ℕ) (x : A) (answer : Fit) → IsItem xs i x → answer ≡ fit_of (one x) → is_fitting answer ≡ true
    → fit_of (all (drop (i + 1) xs)) ≡ fit_of (all (drop i xs))
fits_on one all by xs i x answer h e k =
    sym (item_first (λ ys. fit_of (all ys)) xs i x h ∙ ap fit_of (by x (drop (i + 1) xs)) ∙ others_decide (one x) (all (drop (i + 1) xs)) (ap is_fitting (sym e) ∙ k))

pub fits_no_more : {A B : Type 0} (one : A → Refined B) (all : List A → Refined (List B)) → IsByItems one all → (xs : List A) (i : ℕ) (x : A) (answer : Fit) → IsItem xs i x → answer ≡ fit_of (one x) → is_fitting answer ≡ false
    → answer ≡ fit_of (all (drop i xs))
fits_no_more one all by xs i x answer h e k =
    e ∙ sym (item_first (λ ys. fit_of (all ys)) xs i x h ∙ ap fit_of (by x (drop (i + 1) xs)) ∙ first_decides (one x) (all (drop (i + 1) xs)) (ap is_fitting (sym e) ∙ k))

pub by_properties : (part : Expression → Refined Part) → IsByItems (λ p. property_part part (out-Property p)) (object_parts_of part)
by_properties part x xs = refl

pub keyed-fits : (part : Expression → Refined Part) {p : Property} {span : Span} {key : Key} {x : Expression} {answer : Fit} → p ≡ property.Plain span key x → answer ≡ fit_of (part x) → answer ≡ fit_of (property_part part (out-Property p))
keyed-fits part {span = span} {key = key} {x = x} k e = rw (k, property.outs-Plain) (e ∙ sym (fit-map (KeyedPart span key) (part x)))

-- ## Literals

pub array-fits : (b : Bool) (d n : ℕ) {x : Expression} {span : Span} {elements : List Element} {comma : Bool} (items : List Element) {answer : Fit} → d ≡ suc n → x ≡ expr.ArrayList span elements comma → items ≡ elements
    → answer ≡ fit_of (array_parts_of b comma (refine b n) (part_of b n) items) → answer ≡ fit_of (refine b d x)
array-fits b d n {span = span} {elements = elements} {comma = comma} items deep k i e =
    rw (deep, k, expr.outs-ArrayList) (e ∙ ap (λ es. fit_of (array_parts_of b comma (refine b n) (part_of b n) es)) i ∙ sym (fit-map (pattern.ArrayPattern span) (array_parts_of b comma (refine b n) (part_of b n) elements)))

pub object-fits : (b : Bool) (d n : ℕ) {x : Expression} {span : Span} {properties : List Property} (items : List Property) {answer : Fit} → d ≡ suc n → x ≡ expr.ObjectList span properties → items ≡ properties
    → answer ≡ fit_of (object_parts_of (part_of b n) items) → answer ≡ fit_of (refine b d x)
object-fits b d n {span = span} {properties = properties} items deep k i e =
    rw (deep, k, expr.outs-ObjectList) (e ∙ ap (λ ps. fit_of (object_parts_of (part_of b n) ps)) i ∙ sym (fit-map (pattern.ObjectPattern span) (object_parts_of (part_of b n) properties)))

-- ## Elements, of which the last may be a rest

abbrev is_nil : {X : Type 0} → List X → Bool
is_nil [] = true
is_nil (x ∷ xs) = false

last-is : {X : Type 0} (xs : List X) (comma : Bool) → (is_nil xs && not comma) ≡ is_last xs comma
last-is [] true = refl
last-is [] false = refl
last-is (x ∷ xs) comma = refl

nat_eq-positive : (n : ℕ) → nat_eq (n + 1) 0 ≡ false
nat_eq-positive n = grind (arith, nat_tests)

is_nil-length : {X : Type 0} (xs : List X) → nat_eq (length xs) 0 ≡ is_nil xs
is_nil-length [] = refl
is_nil-length (x ∷ xs) = ap (λ n. nat_eq n 0) (sym (add-one (length xs))) ∙ nat_eq-positive (length xs)

last_index : (i n : ℕ) → i < n → nat_eq (i + 1) n ≡ nat_eq (n - (i + 1)) 0
last_index i n h = grind (arith, nat_tests)

is_nil-drop : {X : Type 0} (i : ℕ) (xs : List X) → i < length xs → nat_eq (i + 1) (length xs) ≡ is_nil (drop (i + 1) xs)
is_nil-drop i xs h =
    last_index i (length xs) h ∙ ap (λ n. nat_eq n 0) (sym (length-drop (i + 1) xs)) ∙ is_nil-length (drop (i + 1) xs)

abbrev pub may_rest : Bool → List Element → ℕ → Bool
may_rest comma xs i = nat_eq (i + 1) (length xs) && not comma

rest-is : (comma : Bool) (xs : List Element) (i : ℕ) → i < length xs → may_rest comma xs i ≡ is_last (drop (i + 1) xs) comma
rest-is comma xs i h = ap (λ b. b && not comma) (is_nil-drop i xs h) ∙ last-is (drop (i + 1) xs) comma

abbrev pub element_refined : Bool → Bool → (Expression → Refined Pattern) → (Expression → Refined Part) → List Element → ℕ → Element → Refined ArrayPart
element_refined b comma t p xs i e = element_part b (may_rest comma xs i) t p (out-Element e)

element_first : (b comma : Bool) (t : Expression → Refined Pattern) (p : Expression → Refined Part) (xs : List Element) (i : ℕ) (x : Element) → IsItem xs i x
    → fit_of (array_parts_of b comma t p (drop i xs)) ≡ fit_of (refined_cons (element_refined b comma t p xs i x) (array_parts_of b comma t p (drop (i + 1) xs)))
element_first b comma t p xs i x h =
    item_first (λ ys. fit_of (array_parts_of b comma t p ys)) xs i x h
    ∙ ap (λ r. fit_of (refined_cons (element_part b r t p (out-Element x)) (array_parts_of b comma t p (drop (i + 1) xs)))) (sym (rest-is comma xs i h.0))

pub elements_on : (b comma : Bool) (t : Expression → Refined Pattern) (p : Expression → Refined Part) (xs : List Element) (i : ℕ) (x : Element) (answer : Fit) → IsItem xs i x → answer ≡ fit_of (element_refined b comma t p xs i x) → is_fitting answer ≡ true
    → fit_of (array_parts_of b comma t p (drop (i + 1) xs)) ≡ fit_of (array_parts_of b comma t p (drop i xs))
elements_on b comma t p xs i x answer h e k =
    sym (element_first b comma t p xs i x h ∙ others_decide (element_refined b comma t p xs i x) (array_parts_of b comma t p (drop (i + 1) xs)) (ap is_fitting (sym e) ∙ k))

pub elements_no_more : (b comma : Bool) (t : Expression → Refined Pattern) (p : Expression → Refined Part) (xs : List Element) (i : ℕ) (x : Element) (answer : Fit) → IsItem xs i x → answer ≡ fit_of (element_refined b comma t p xs i x) → is_fitting answer ≡ false
    → answer ≡ fit_of (array_parts_of b comma t p (drop i xs))
elements_no_more b comma t p xs i x answer h e k =
    e ∙ sym (element_first b comma t p xs i x h ∙ first_decides (element_refined b comma t p xs i x) (array_parts_of b comma t p (drop (i + 1) xs)) (ap is_fitting (sym e) ∙ k))

-- ## The last link of a chain

pub ends_in_access-last : {X : Type 0} (h : X → Bool) (ls : List X) (l : X) → Some l ≡ slice_get ls (length ls - 1) → h l ≡ ends_in_access (map h ls)
ends_in_access-last h [] l e = absurd (cc)
ends_in_access-last h (x ∷ []) l e =
    let same : l ≡ x = cc in
    ap h same
ends_in_access-last h (x ∷ y ∷ ls) l e =
    let n : length (x ∷ y ∷ ls) - 1 ≡ length (y ∷ ls) - 1 + 1 = omega arith in
    ends_in_access-last h (y ∷ ls) l (e ∙ ap (slice_get (x ∷ y ∷ ls)) (n ∙ add-one (length (y ∷ ls) - 1)))
