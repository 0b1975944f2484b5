-- Offsets and places go up along a text.
use Rattle.std.proofs.Common.{◌≡◌, ℕ, zero, suc, ◌+◌, ◌-◌, ◌*◌, ◌<◌, ◌≤◌, inl, inr, Bool, true, false, cond, List, [], ◌∷◌, length, take, drop, get_or, refl, sym, ap, subst, ◌∙◌, arith, length-append, add-one}
use Rattle.std.proofs.lemmas.List.{take_more, take_all}
use Rattle.std.proofs.lemmas.Bool.{cases_order}
use Rattle.std.proofs.lemmas.Str.{encodes-append, length-encode, len_utf8_bounds}
use Rattle.std.specs.Prelude.{nat_lt}
use Rattle.std.specs.Str.{encode_utf8_all}
use Rattle.std.specs.Char.{len_utf8}
use Rattle.es_text.specs.declared.Place.{Place}
use Rattle.es_text.specs.Units.{units_of_code_point}
use Rattle.es_text.specs.Places.{ends_line, place_after, place_from, place_at, offset_at, IsPlace, IsBefore}

-- one character has its own bytes
one_char : (c : ℕ) → length (encode_utf8_all (c ∷ [])) ≡ len_utf8 c
one_char c = simp (length-append, length-encode) (omega arith)

-- the offset one character on
pub offset_more : (cs : List ℕ) (i : ℕ) → i < length cs → offset_at cs (i + 1) ≡ offset_at cs i + len_utf8 (get_or cs i 0)
offset_more cs i h =
    ap (λ xs. length (encode_utf8_all xs)) (take_more cs i 0 h)
    ∙ ap length (encodes-append (take i cs) (get_or cs i 0 ∷ []))
    ∙ length-append (encode_utf8_all (take i cs)) (encode_utf8_all (get_or cs i 0 ∷ []))
    ∙ ap (λ n. offset_at cs i + n) (one_char (get_or cs i 0))

place_suc : (p : Place) (cs : List ℕ) (i : ℕ) → i < length cs → place_from p cs (suc i) ≡ place_after (place_from p cs i) (get_or cs i 0) (drop (suc i) cs)
unfolding place_from
place_suc p [] i h = absurd (omega arith)
place_suc p (c ∷ []) zero h = refl
place_suc p (c ∷ d ∷ cs) zero h = refl
place_suc p (c ∷ cs) (suc i) h = place_suc (place_after p c cs) cs i (omega arith)

-- the place one character on
pub place_more : (p : Place) (cs : List ℕ) (i : ℕ) → i < length cs → place_from p cs (i + 1) ≡ place_after (place_from p cs i) (get_or cs i 0) (drop (i + 1) cs)
place_more p cs i h = rw (add-one i) (place_suc p cs i h)

one_or_two : (b : Bool) (c x y : ℕ) → (1 ≤ length (cond b (c ∷ []) (x ∷ y ∷ []))) × (length (cond b (c ∷ []) (x ∷ y ∷ [])) ≤ 2)
one_or_two true c x y = (omega arith, omega arith)
one_or_two false c x y = (omega arith, omega arith)

-- a character has one or two units
pub units_len : (c : ℕ) → (1 ≤ length (units_of_code_point c)) × (length (units_of_code_point c) ≤ 2)
units_len c = one_or_two (nat_lt c 0x1_0000) c _ _

-- the next line, or so many columns on
moved : Bool → Place → ℕ → Place
moved b p u = cond b (record { line = p.line + 1; column = 0 }) (record { line = p.line; column = p.column + u })

moved_bounds : (b : Bool) (p : Place) (u : ℕ) → u ≤ 2 → ((moved b p u).line ≤ p.line + 1) × ((moved b p u).column ≤ p.column + 2)
unfolding moved
moved_bounds true p u h = (omega arith, omega arith)
moved_bounds false p u h = (omega arith, omega arith)

-- one character takes a place so far on
pub after_bounds : (p : Place) (c : ℕ) (rest : List ℕ) → ((place_after p c rest).line ≤ p.line + 1) × ((place_after p c rest).column ≤ p.column + 2)
unfolding moved
after_bounds p c rest = moved_bounds (ends_line c rest) p (length (units_of_code_point c)) ((units_len c).1)

moved_before : (b : Bool) (p : Place) (u : ℕ) → 1 ≤ u → IsBefore p (moved b p u)
unfolding moved
moved_before true p u h = inl (omega arith)
moved_before false p u h = inr (refl, omega arith)

-- places grow with indices at most so fast
pub place_bounds : (p : Place) (cs : List ℕ) (i : ℕ) → i ≤ length cs → ((place_from p cs i).line ≤ p.line + i) × ((place_from p cs i).column ≤ p.column + 2 * i)
unfolding place_from
place_bounds p [] i h = (omega arith, omega arith)
place_bounds p (c ∷ cs) zero h = (omega arith, omega arith)
place_bounds p (c ∷ cs) (suc i) h =
    let less : i ≤ length cs = omega arith in
    let ih = place_bounds (place_after p c cs) cs i less in
    let step : ((place_after p c cs).line ≤ p.line + 1) × ((place_after p c cs).column ≤ p.column + 2) = after_bounds p c cs in
    (omega arith, omega arith)

-- offsets grow by a byte a character at least
pub offset_mono : (cs : List ℕ) (i d : ℕ) → i + d ≤ length cs → offset_at cs i + d ≤ offset_at cs (i + d)
offset_mono cs i zero h = let e : i + 0 ≡ i = omega arith in rw e (omega arith)
offset_mono cs i (suc d) h =
    let less : i + d < length cs = omega arith in
    let e : i + suc d ≡ i + d + 1 = omega arith in
    let fits : i + d ≤ length cs = omega arith in
    rw e (omega (arith, offset_mono cs i d fits, offset_more cs (i + d) less, len_utf8_bounds (get_or cs (i + d) 0)))

pub offset_all : (cs : List ℕ) → offset_at cs (length cs) ≡ length (encode_utf8_all cs)
offset_all cs = let h : length cs ≤ length cs = omega arith in ap (λ xs. length (encode_utf8_all xs)) (take_all (length cs) cs h)

-- no offset is past the end
pub offset_within : (cs : List ℕ) (i : ℕ) → i ≤ length cs → offset_at cs i ≤ length (encode_utf8_all cs)
offset_within cs i h =
    let e : i + (length cs - i) ≡ length cs = omega arith in
    let m = offset_mono cs i (length cs - i) (omega arith) in
    omega (arith, offset_all cs, ap (offset_at cs) e)

pub before_trans : (p q r : Place) → IsBefore p q → IsBefore q r → IsBefore p r
before_trans p q r (inl a) (inl b) = inl (omega arith)
before_trans p q r (inl a) (inr b) = inl (omega arith)
before_trans p q r (inr a) (inl b) = inl (omega arith)
before_trans p q r (inr a) (inr b) = inr (omega arith, omega arith)

before_after : (p : Place) (c : ℕ) (rest : List ℕ) → IsBefore p (place_after p c rest)
unfolding moved
before_after p c rest = moved_before (ends_line c rest) p (length (units_of_code_point c)) ((units_len c).0)

pub not_before_self : (p : Place) → IsBefore p p → ⊥
not_before_self p (inl a) = omega arith
not_before_self p (inr a) = omega (arith, a.1)

-- places go up
pub place_mono : (cs : List ℕ) (i d : ℕ) → i + suc d ≤ length cs → IsBefore (place_at cs i) (place_at cs (i + suc d))
place_mono cs i zero h =
    let less : i < length cs = omega arith in
    rw (place_more (record { line = 0; column = 0 }) cs i less) (before_after (place_at cs i) (get_or cs i 0) (drop (i + 1) cs))
place_mono cs i (suc d) h =
    let less : i + suc d < length cs = omega arith in
    let e : i + suc (suc d) ≡ i + suc d + 1 = omega arith in
    let fits : i + suc d ≤ length cs = omega arith in
    rw (e, place_more (record { line = 0; column = 0 }) cs (i + suc d) less) (before_trans _ _ _ (place_mono cs i d fits) (before_after (place_at cs (i + suc d)) (get_or cs (i + suc d) 0) (drop (i + suc d + 1) cs)))

-- indices of a text with one offset are one
pub same_offset : (cs : List ℕ) (i j : ℕ) → i ≤ length cs → j ≤ length cs → offset_at cs i ≡ offset_at cs j → i ≡ j
same_offset cs i j hi hj e =
    elim (cases_order i j) [
      | inl same ↦ same
      | inr (inl lt) ↦ let d : i + (j - i) ≡ j = omega arith in absurd (omega (arith, ap (offset_at cs) d, offset_mono cs i (j - i) (omega arith)))
      | inr (inr gt) ↦ let d : j + (i - j) ≡ i = omega arith in absurd (omega (arith, ap (offset_at cs) d, offset_mono cs j (i - j) (omega arith)))
    ]

-- the place of an index comes before that of a later one
pub place_less : (cs : List ℕ) (i j : ℕ) → i < j → j ≤ length cs → IsBefore (place_at cs i) (place_at cs j)
place_less cs i j h hj =
    let e : i + suc (j - i - 1) ≡ j = omega arith in
    let P : ℕ → Type 0 = λ k. IsBefore (place_at cs i) (place_at cs k) in
    subst P e (place_mono cs i (j - i - 1) (omega arith))

pub offset_less : (cs : List ℕ) (i j : ℕ) → i < j → j ≤ length cs → offset_at cs i < offset_at cs j
offset_less cs i j h hj =
    let d : i + (j - i) ≡ j = omega arith in omega (arith, ap (offset_at cs) d, offset_mono cs i (j - i) (omega arith))

-- indices of a text with one place are one
pub same_place : (cs : List ℕ) (i j : ℕ) → i ≤ length cs → j ≤ length cs → place_at cs i ≡ place_at cs j → i ≡ j
same_place cs i j hi hj e =
    let P : Place → Type 0 = λ p. IsBefore p (place_at cs j) in
    let Q : Place → Type 0 = λ p. IsBefore (place_at cs j) p in
    elim (cases_order i j) [
      | inl same ↦ same
      | inr (inl lt) ↦ absurd (not_before_self _ (subst P e (place_less cs i j lt hj)))
      | inr (inr gt) ↦ absurd (not_before_self _ (subst Q e (place_less cs j i gt hi)))
    ]

-- the law of offsets and places
pub one_place : (cs : List ℕ) (offset : ℕ) (p q : Place) → IsPlace cs offset p → IsPlace cs offset q → p ≡ q
one_place cs offset p q a b =
    let same : a.index ≡ b.index = same_offset cs a.index b.index a.inside b.inside (sym a.offset_is ∙ b.offset_is) in
    a.place_is ∙ ap (place_at cs) same ∙ sym b.place_is

pub one_offset : (cs : List ℕ) (m n : ℕ) (p : Place) → IsPlace cs m p → IsPlace cs n p → m ≡ n
one_offset cs m n p a b =
    let same : a.index ≡ b.index = same_place cs a.index b.index a.inside b.inside (sym a.place_is ∙ b.place_is) in
    a.offset_is ∙ ap (offset_at cs) same ∙ sym b.offset_is
