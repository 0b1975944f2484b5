-- Where a text stands in another, by their bytes and by their units.
use Rattle.std.proofs.Common.{◌≡◌, ℕ, zero, suc, ◌+◌, ◌*◌, ◌/◌, ◌<◌, ◌≤◌, true, false, nat_eq, List, [], ◌∷◌, ◌++◌, length, get_or, take, drop, refl, sym, ap, subst, ◌∙◌, arith, pos, negsuc, ◌⊎◌, Some, None, inl, inr, length-drop, get_or-drop}
use Rattle.std.specs.List.{starts_with}
use Rattle.std.proofs.lemmas.List.{get_or-take, length-take}
use Rattle.std.proofs.lemmas.Bool.{cases_Bool}
use Rattle.std.proofs.lemmas.Bool.Decides.{Decides-eqb}
use Rattle.std.proofs.lemmas.List.Prefix.{front_fits, front_reads, at_from_reads}
use Rattle.std.proofs.lemmas.Slice.Eq.{starts_is}
use Rattle.memchr.specs.Find.{OccursAt, Nowhere, NoneBefore, FindsNeedle}
use Rattle.es_sequence_functions.specs.Search.{first_byte, second_byte, third_byte, unit_bytes, encoded}
use Rattle.es_sequence_functions.specs.Strings.{search_from}

pub length-encoded : (us : List ℕ) → length (encoded us) ≡ 3 * length us
length-encoded [] = refl
length-encoded (u ∷ us) = omega (arith, length-encoded us)

pub encoded_push : (us : List ℕ) (u : ℕ) → encoded (us ++ u ∷ []) ≡ encoded us ++ unit_bytes u
encoded_push [] u = refl
encoded_push (v ∷ us) u = ap (λ bs. first_byte v ∷ second_byte v ∷ third_byte v ∷ bs) (encoded_push us u)

-- the bytes of the unit at a place
BytesAt : List ℕ → ℕ → Type 0
BytesAt us i =
    (get_or (encoded us) (3 * i) 0 ≡ first_byte (get_or us i 0))
    × (get_or (encoded us) (3 * i + 1) 0 ≡ second_byte (get_or us i 0))
    × (get_or (encoded us) (3 * i + 2) 0 ≡ third_byte (get_or us i 0))

bytes_at : (us : List ℕ) (i : ℕ) → i < length us → BytesAt us i
unfolding BytesAt
bytes_at [] i h = absurd (omega arith)
bytes_at (u ∷ us) zero h = (refl, refl, refl)
bytes_at (u ∷ us) (suc i) h =
    let below = bytes_at us i (omega arith) in
    let e0 : suc (suc (suc (3 * i))) ≡ 3 * suc i = omega arith in
    let e1 : suc (suc (suc (3 * i + 1))) ≡ 3 * suc i + 1 = omega arith in
    let e2 : suc (suc (suc (3 * i + 2))) ≡ 3 * suc i + 2 = omega arith in (
      subst (λ (n : ℕ). get_or (encoded (u ∷ us)) n 0 ≡ first_byte (get_or us i 0)) e0 below.0,
      subst (λ (n : ℕ). get_or (encoded (u ∷ us)) n 0 ≡ second_byte (get_or us i 0)) e1 below.1,
      subst (λ (n : ℕ). get_or (encoded (u ∷ us)) n 0 ≡ third_byte (get_or us i 0)) e2 below.2,
    )

same_unit : (u v : ℕ) → first_byte u ≡ first_byte v → second_byte u ≡ second_byte v → third_byte u ≡ third_byte v → u ≡ v
same_unit u v a b c = omega arith

same_at : (bs cs : List ℕ) (m m' n n' x y : ℕ) → m ≡ m' → n ≡ n' → get_or bs m' 0 ≡ x → get_or cs n' 0 ≡ y → x ≡ y → get_or bs m 0 ≡ get_or cs n 0
same_at bs cs m m' n n' x y e f a b g = cc

same_bytes : (bs cs : List ℕ) (m n n' x y : ℕ) → get_or bs m 0 ≡ x → get_or cs n 0 ≡ y → n' ≡ m → get_or bs n' 0 ≡ get_or cs n 0 → x ≡ y
same_bytes bs cs m n n' x y a b e f = cc

-- an occurrence of bytes at a unit's place is one of units
pub occurs_down : (us s : List ℕ) (j : ℕ) → OccursAt (encoded us) (encoded s) (3 * j) → OccursAt us s j
unfolding BytesAt
occurs_down us s j h =
    let lu = length-encoded us in
    let ls = length-encoded s in
    let hf = h.fits in
    let fits : j + length s ≤ length us = omega arith in
    record {
      fits = fits;
      reads = λ i l.
          let a = bytes_at us (j + i) (omega arith) in
          let b = bytes_at s i l in
          same_unit _ _
          (same_bytes (encoded us) (encoded s) (3 * (j + i)) (3 * i) (3 * j + 3 * i) _ _ a.0 b.0 (omega arith) (h.reads (3 * i) (omega arith)))
          (same_bytes (encoded us) (encoded s) (3 * (j + i) + 1) (3 * i + 1) (3 * j + (3 * i + 1)) _ _ a.1 b.1 (omega arith) (h.reads (3 * i + 1) (omega arith)))
          (same_bytes (encoded us) (encoded s) (3 * (j + i) + 2) (3 * i + 2) (3 * j + (3 * i + 2)) _ _ a.2 b.2 (omega arith) (h.reads (3 * i + 2) (omega arith)));
    }

-- a place is that of a unit's first, second or third byte
thirds : (m : ℕ) → (m ≡ 3 * (m / 3)) ⊎ ((m ≡ 3 * (m / 3) + 1) ⊎ (m ≡ 3 * (m / 3) + 2))
thirds m = grind arith

-- and an occurrence of units is one of bytes
pub occurs_up : (us s : List ℕ) (j : ℕ) → OccursAt us s j → OccursAt (encoded us) (encoded s) (3 * j)
unfolding BytesAt
occurs_up us s j h =
    let lu = length-encoded us in
    let ls = length-encoded s in
    let hf = h.fits in
    record {
      fits = omega arith;
      reads = λ m l.
          let i = m / 3 in
          let inside : i < length s = omega arith in
          let a = bytes_at us (j + i) (omega arith) in
          let b = bytes_at s i inside in
          let e : get_or us (j + i) 0 ≡ get_or s i 0 = h.reads i inside in
          elim (thirds m) [
            | inl at ↦ same_at (encoded us) (encoded s) (3 * j + m) (3 * (j + i)) m (3 * i) _ _ (omega arith) at a.0 b.0 (ap first_byte e)
            | inr more ↦ elim more [
              | inl at ↦ same_at (encoded us) (encoded s) (3 * j + m) (3 * (j + i) + 1) m (3 * i + 1) _ _ (omega arith) at a.1 b.1 (ap second_byte e)
              | inr at ↦ same_at (encoded us) (encoded s) (3 * j + m) (3 * (j + i) + 2) m (3 * i + 2) _ _ (omega arith) at a.2 b.2 (ap third_byte e)
            ]
          ];
    }

second_not_first : (u v : ℕ) → second_byte u ≡ first_byte v → ⊥
second_not_first u v e = omega arith

third_not_first : (u v : ℕ) → third_byte u ≡ first_byte v → ⊥
third_not_first u v e = omega arith

-- a text that isn't empty occurs at units' places alone
pub occurs_aligned : (us s : List ℕ) (k : ℕ) → 0 < length s → OccursAt (encoded us) (encoded s) k → k ≡ 3 * (k / 3)
unfolding BytesAt
occurs_aligned us s k full h =
    let lu = length-encoded us in
    let ls = length-encoded s in
    let hf = h.fits in
    let i = k / 3 in
    let a = bytes_at us i (omega arith) in
    let b = bytes_at s 0 full in
    let e = h.reads 0 (omega arith) in
    elim (thirds k) [
      | inl at ↦ at
      | inr more ↦ elim more [
        | inl at ↦ absurd (second_not_first _ _ (same_bytes (encoded us) (encoded s) (3 * i + 1) 0 (k + 0) _ _ a.1 b.0 (omega arith) e))
        | inr at ↦ absurd (third_not_first _ _ (same_bytes (encoded us) (encoded s) (3 * i + 2) 0 (k + 0) _ _ a.2 b.0 (omega arith) e))
      ]
    ]

-- the word of the search, as an occurrence
pub starts_occurs : (us s : List ℕ) (j : ℕ) → j ≤ length us → starts_with nat_eq (drop j us) s ≡ true → OccursAt us s j
starts_occurs us s j within h =
    let e = (starts_is Decides-eqb (drop j us) s (starts_with nat_eq (drop j us) s) refl).0 h in
    let fits = front_fits (drop j us) s _ e in
    let rest = length-drop j us in
    record {
      fits = omega arith;
      reads = λ i l. sym (get_or-drop j us i 0) ∙ front_reads 0 (drop j us) s _ e i l;
    }

pub occurs_starts : (us s : List ℕ) (j : ℕ) → OccursAt us s j → starts_with nat_eq (drop j us) s ≡ true
occurs_starts us s j h =
    (starts_is Decides-eqb (drop j us) s (starts_with nat_eq (drop j us) s) refl).1 _ (at_from_reads 0 us s j h.fits h.reads)

-- the search gives the first place at which the text occurs
pub search_from-found : (k : ℕ) (us s : List ℕ) (i : ℕ) → i ≤ length us → starts_with nat_eq (drop i us) s ≡ true → ((j : ℕ) → j < i → starts_with nat_eq (drop j us) s ≡ false) → search_from k us s ≡ pos (k + i)
search_from-found k [] s zero l h before = let e : k ≡ k + 0 = omega arith in rw h (ap pos e)
search_from-found k [] s (suc i) l h before = absurd (omega arith)
search_from-found k (u ∷ us) s zero l h before = let e : k ≡ k + 0 = omega arith in rw h (ap pos e)
search_from-found k (u ∷ us) s (suc i) l h before =
    let first = before 0 (omega arith) in
    let more = search_from-found (k + 1) us s i (omega arith) h (λ j m. before (suc j) (omega arith)) in
    let e : k + 1 + i ≡ k + suc i = omega arith in
    rw first (more ∙ ap pos e)

pub search_from-none : (k : ℕ) (us s : List ℕ) → ((j : ℕ) → j ≤ length us → starts_with nat_eq (drop j us) s ≡ false) → search_from k us s ≡ negsuc 0
search_from-none k [] s never = let first = never 0 (omega arith) in rw first refl
search_from-none k (u ∷ us) s never =
    let first = never 0 (omega arith) in
    rw first (search_from-none (k + 1) us s (λ j m. never (suc j) (omega arith)))

-- the first place of the bytes is that of a unit
first_aligned : (us s : List ℕ) (k n : ℕ) → NoneBefore (OccursAt (encoded us) (encoded s)) 0 n k → OccursAt (encoded us) (encoded s) k → k ≡ 3 * (k / 3)
first_aligned us [] zero n first h = refl
first_aligned us [] (suc k) n first h =
    absurd (first.before 0 (omega arith) (omega arith) (record { fits = omega arith; reads = λ j l. absurd (omega arith) }))
first_aligned us (u ∷ s) k n first h = occurs_aligned us (u ∷ s) k (omega arith) h

-- what the search for the bytes finds, in units
pub finds_units : (us s bs cs : List ℕ) (k : ℕ) → bs ≡ encoded us → cs ≡ encoded s → FindsNeedle bs cs 0 (Some k) → FindsNeedle us s 0 (Some (k / 3))
finds_units us s bs cs k eb ec h =
    let P : List ℕ → List ℕ → Type 0 = λ b c. NoneBefore (OccursAt b c) 0 (length b + 1) k × OccursAt b c k in
    let found : P (encoded us) (encoded s) = subst (λ (b : List ℕ). P b (encoded s)) eb (subst (λ (c : List ℕ). P bs c) ec h) in
    let at = first_aligned us s k (length (encoded us) + 1) found.0 found.1 in
    let there : OccursAt us s (k / 3) = occurs_down us s (k / 3) (subst (λ (m : ℕ). OccursAt (encoded us) (encoded s) m) at found.1) in
    let hf = there.fits in (
      record {
        low = omega arith;
        high = omega arith;
        before = λ j lo l occurs. found.0.before (3 * j) (omega arith) (omega arith) (occurs_up us s j occurs);
      },
      there,
    )

pub finds_no_units : (us s bs cs : List ℕ) → bs ≡ encoded us → cs ≡ encoded s → FindsNeedle bs cs 0 None → FindsNeedle us s 0 None
finds_no_units us s bs cs eb ec h =
    let lu = length-encoded us in
    let nowhere : Nowhere (OccursAt (encoded us) (encoded s)) 0 (length (encoded us) + 1) =
    subst (λ (b : List ℕ). Nowhere (OccursAt b (encoded s)) 0 (length b + 1)) eb (subst (λ (c : List ℕ). Nowhere (OccursAt bs c) 0 (length bs + 1)) ec h) in
    λ j lo l occurs. nowhere (3 * j) (omega arith) (omega arith) (occurs_up us s j occurs)

-- what occurs in a front occurs in the whole
front_up : (n : ℕ) (us s : List ℕ) (j : ℕ) → OccursAt (take n us) s j → OccursAt us s j
front_up n us s j h =
    let hf = h.fits in
    let short = length-take n us in
    record {
      fits = omega (arith, hf, short);
      reads = λ i l. sym (get_or-take n us (j + i) 0 (omega (arith, hf, short))) ∙ h.reads i l;
    }

-- and the other way round, where it ends within the front
front_down : (n : ℕ) (us s : List ℕ) (j : ℕ) → n ≤ length us → j + length s ≤ n → OccursAt us s j → OccursAt (take n us) s j
front_down n us s j short ends h =
    let front = length-take n us in
    record {
      fits = omega (arith, front);
      reads = λ i l. get_or-take n us (j + i) 0 (omega arith) ∙ h.reads i l;
    }

-- what is found in a front is found in the whole
pub search_from-front : (k n i : ℕ) (us s : List ℕ) → n ≤ length us → FindsNeedle (take n us) s 0 (Some i) → search_from k us s ≡ pos (k + i)
search_from-front k n i us s short h =
    let there : OccursAt us s i = front_up n us s i h.1 in
    let hf = there.fits in
    let ends = h.1.fits in
    let front = length-take n us in
    search_from-found k us s i (omega arith) (occurs_starts us s i there) (λ j l.
    elim (cases_Bool (starts_with nat_eq (drop j us) s)) [
      | inl found ↦ absurd (h.0.before j (omega arith) l (front_down n us s j short (omega (arith, ends, front)) (starts_occurs us s j (omega arith) found)))
      | inr missing ↦ missing
    ])

pub search_from-whole : (k i : ℕ) (us s : List ℕ) → FindsNeedle us s 0 (Some i) → search_from k us s ≡ pos (k + i)
search_from-whole k i us s h =
    let hf = h.1.fits in
    search_from-found k us s i (omega arith) (occurs_starts us s i h.1) (λ j l.
    elim (cases_Bool (starts_with nat_eq (drop j us) s)) [
      | inl found ↦ absurd (h.0.before j (omega arith) l (starts_occurs us s j (omega arith) found))
      | inr missing ↦ missing
    ])

pub search_from-nowhere : (k : ℕ) (us s : List ℕ) → FindsNeedle us s 0 None → search_from k us s ≡ negsuc 0
search_from-nowhere k us s nowhere =
    search_from-none k us s (λ j l.
    elim (cases_Bool (starts_with nat_eq (drop j us) s)) [
      | inl found ↦ absurd (nowhere j (omega arith) (omega arith) (starts_occurs us s j l found))
      | inr missing ↦ missing
    ])

search_from-later : (k step : ℕ) (us s : List ℕ) → step ≤ length us → ((j : ℕ) → j < step → starts_with nat_eq (drop j us) s ≡ false) → search_from k us s ≡ search_from (k + step) (drop step us) s
search_from-later k zero us s short never = let e : k ≡ k + 0 = omega arith in ap (λ m. search_from m us s) e
search_from-later k (suc step) [] s short never = absurd (omega arith)
search_from-later k (suc step) (u ∷ us) s short never =
    let first = never 0 (omega arith) in
    let more = search_from-later (k + 1) step us s (omega arith) (λ j l. never (suc j) (omega arith)) in
    let e : k + 1 + step ≡ k + suc step = omega arith in
    rw first (more ∙ ap (λ m. search_from m (drop step us) s) e)

-- a search goes on where a front had nothing
pub search_from-on : (k n step : ℕ) (us s : List ℕ) → n ≤ length us → step + length s ≤ n → FindsNeedle (take n us) s 0 None → search_from k us s ≡ search_from (k + step) (drop step us) s
search_from-on k n step us s short ends nowhere =
    let front = length-take n us in
    search_from-later k step us s (omega arith) (λ j l.
    elim (cases_Bool (starts_with nat_eq (drop j us) s)) [
      | inl found ↦ absurd (nowhere j (omega arith) (omega (arith, front)) (front_down n us s j short (omega arith) (starts_occurs us s j (omega arith) found)))
      | inr missing ↦ missing
    ])

-- a place found by bytes lies in the text
pub place-within : (us bs : List ℕ) (k : ℕ) → bs ≡ encoded us → k < length bs + 1 → k / 3 ≤ length us
place-within us bs k e l = let lu = length-encoded us in let le = ap length e in omega arith
