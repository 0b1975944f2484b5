-- What the walk has done so far, beside what the definition of early errors says.
use Rattle.std.proofs.Common.{◌≡◌, ℕ, ◌+◌, ◌-◌, Bool, true, false, ◌&&◌, ◌||◌, cond, List, [], ◌∷◌, ◌++◌, length, take, map, min, Some, refl, sym, ap, ◌∙◌, arith, add-one}
use Rattle.std.specs.List.{list_any, slice_get}
use Rattle.std.specs.Str.{bytes_eq}
use Rattle.std.proofs.lemmas.List.{take_min}
use Rattle.es5_ast.specs.Early.{Pair5, F, when, joined, Inside, ends_in_access, Sort5, Data, Get, Set, clashes, Held5, property_pairs, under_label}
use Rattle.es5_ast.specs.Lexical.{is_one_of}
use Rattle.es5_early.specs.declared.properties.PropertyNames.{PropertyNames}
use Rattle.es5_early.specs.declared.labels.Labels.{Labels}
use Rattle.es5_early.specs.declared.labels.Place.{Place}
use Rattle.es5_early.specs.Properties.{is_read, is_written, has_clash, with_held}
use Rattle.es5_early.specs.Rounds.{round}

pub joined-map : {A B : Type 0} (f : B → List Pair5) (g : A → B) (xs : List A) → joined f (map g xs) ≡ joined (λ x. f (g x)) xs
joined-map f g [] = refl
joined-map f g (x ∷ xs) = ap (λ ps. f (g x) ++ ps) (joined-map f g xs)

-- the last of a chain's links decides
pub ends_in_access-last : {X : Type 0} (f : X → Bool × Inside) (ls : List X) (l : X) → Some l ≡ slice_get ls (length ls - 1) → (f l).0 ≡ ends_in_access (map f ls)
ends_in_access-last f [] l e = absurd (cc)
ends_in_access-last f (x ∷ []) l e =
    let same : l ≡ x = cc in
    ap (λ y. (f y).0) same
ends_in_access-last f (x ∷ y ∷ ls) l e =
    let n : length (x ∷ y ∷ ls) - 1 ≡ length (y ∷ ls) - 1 + 1 = omega arith in
    ends_in_access-last f (y ∷ ls) l (e ∙ ap (slice_get (x ∷ y ∷ ls)) (n ∙ add-one (length (y ∷ ls) - 1)))

-- ---- properties

-- the names of properties that came, with the newest first
abbrev pub names_of : List Held5 → PropertyNames
names_of [] = record { read = []; written = [] }
names_of (p ∷ ps) = with_held (names_of ps) p

-- what the definition says of properties behind those with these names
abbrev pub named_pairs : PropertyNames → List Held5 → Bool → List Pair5
named_pairs names [] inside = []
named_pairs names (p ∷ ps) inside = when (has_clash names p) (F 4) p.at ++ p.pairs inside ++ named_pairs (with_held names p) ps inside

clash_or : (s t : Sort5) (b r w : Bool) → (b && clashes s t) || ((is_read t && r) || (is_written t && w)) ≡ (is_read t && cond (is_read s) (b || r) r) || (is_written t && cond (is_written s) (b || w) w)
clash_or Data Data b r w = elim b as (λ b. (b && true) || (r || w) ≡ (b || r) || (b || w)) [ true ↦ refl | false ↦ refl ]
clash_or Data Get b r w = elim b as (λ b. (b && true) || (r || false) ≡ (b || r) || false) [ true ↦ refl | false ↦ refl ]
clash_or Data Set b r w = elim b as (λ b. (b && true) || w ≡ b || w) [ true ↦ refl | false ↦ refl ]
clash_or Get Data b r w = elim b as (λ b. (b && true) || (r || w) ≡ (b || r) || w) [ true ↦ refl | false ↦ refl ]
clash_or Get Get b r w = elim b as (λ b. (b && true) || (r || false) ≡ (b || r) || false) [ true ↦ refl | false ↦ refl ]
clash_or Get Set b r w = elim b as (λ b. (b && false) || w ≡ w) [ true ↦ refl | false ↦ refl ]
clash_or Set Data b r w =
    elim b as (λ b. (b && true) || (r || w) ≡ r || (b || w)) [ true ↦ elim r as (λ r. true ≡ r || true) [ true ↦ refl | false ↦ refl ] | false ↦ refl ]
clash_or Set Get b r w = elim b as (λ b. (b && false) || (r || false) ≡ r || false) [ true ↦ refl | false ↦ refl ]
clash_or Set Set b r w = elim b as (λ b. (b && true) || w ≡ b || w) [ true ↦ refl | false ↦ refl ]

is_one_of-cond : (b : Bool) (name first : List ℕ) (names : List (List ℕ)) → is_one_of name (cond b (first ∷ names) names) ≡ cond b (bytes_eq name first || is_one_of name names) (is_one_of name names)
is_one_of-cond true name first names = refl
is_one_of-cond false name first names = refl

clash-names : (seen : List Held5) (p : Held5) → list_any (λ q. bytes_eq p.name q.name && clashes q.sort p.sort) seen ≡ has_clash (names_of seen) p
clash-names [] p = elim p.sort as (λ s. false ≡ (is_read s && false) || (is_written s && false)) [ Data ↦ refl | Get ↦ refl | Set ↦ refl ]
clash-names (q ∷ seen) p =
    let ns = names_of seen in
    ap (λ b. (bytes_eq p.name q.name && clashes q.sort p.sort) || b) (clash-names seen p)
    ∙ clash_or q.sort p.sort (bytes_eq p.name q.name) (is_one_of p.name ns.read) (is_one_of p.name ns.written)
    ∙ ap (λ b. (is_read p.sort && b) || (is_written p.sort && cond (is_written q.sort) (bytes_eq p.name q.name || is_one_of p.name ns.written) (is_one_of p.name ns.written))) (sym (is_one_of-cond (is_read q.sort) p.name q.name ns.read))
    ∙ ap (λ b. (is_read p.sort && is_one_of p.name (cond (is_read q.sort) (q.name ∷ ns.read) ns.read)) || (is_written p.sort && b)) (sym (is_one_of-cond (is_written q.sort) p.name q.name ns.written))

pub property_pairs-names : (seen ps : List Held5) (inside : Bool) → property_pairs seen ps inside ≡ named_pairs (names_of seen) ps inside
property_pairs-names seen [] inside = refl
property_pairs-names seen (p ∷ ps) inside =
    ap (λ b. when b (F 4) p.at ++ p.pairs inside ++ property_pairs (p ∷ seen) ps inside) (clash-names seen p)
    ∙ ap (λ qs. when (has_clash (names_of seen) p) (F 4) p.at ++ p.pairs inside ++ qs) (property_pairs-names (p ∷ seen) ps inside)

-- ---- labels

pub round-label : (all loops : List (List ℕ)) (name : List ℕ) (place : Place)
    → round (record { all = name ∷ all; loops = loops }) (record place { before = min (place.before + 1) (length (name ∷ all)) }) ≡ under_label name (round (record { all = all; loops = loops }) place)
round-label all loops name place =
    ap (λ before. record { inside = place.inside; labels = name ∷ all; loops = loops; before = before; in_loop = place.in_loop; in_switch = place.in_switch })
    (take_min (place.before + 1) (name ∷ all) ∙ ap (λ n. take n (name ∷ all)) (add-one place.before))

-- what is round the statement behind a label, after the label is pushed
pub round-pushed : (labels : Labels) (place under : Place) (name units : List ℕ) (all : List (List ℕ)) (count : ℕ) → units ≡ name → all ≡ units ∷ labels.all → count ≡ length all
    → under ≡ record place { before = min (place.before + 1) count } → round (record { all = all; loops = labels.loops }) under ≡ under_label name (round labels place)
round-pushed labels place under name units all count e pushed counted placed =
    ap (round (record { all = all; loops = labels.loops })) placed
    ∙ ap (λ n. round (record { all = all; loops = labels.loops }) (record place { before = min (place.before + 1) n })) counted
    ∙ ap (λ names. round (record { all = names; loops = labels.loops }) (record place { before = min (place.before + 1) (length names) })) (pushed ∙ ap (λ n. n ∷ labels.all) e)
    ∙ round-label labels.all labels.loops name place
