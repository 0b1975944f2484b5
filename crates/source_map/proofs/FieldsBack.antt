-- A field that is written is read back.
use Rattle.std.proofs.Common.{◌≡◌, ◌≢◌, ℕ, zero, suc, ◌+◌, ◌-◌, ◌*◌, ◌/◌, ◌%◌, ◌^◌, ◌<◌, ◌≤◌, ltb, leb, List, [], ◌∷◌, ◌++◌, Bool, true, false, cond, Some, Ok, ◌⊎◌, inl, inr, refl, sym, ap, ◌∙◌, arith, lit≤}
use Rattle.std.proofs.lemmas.Bool.{le-ltb, le-leb, lt-leb, ne_eqb, cases_Bool, ltb-true, leb-true, leb-false}
use Rattle.std.proofs.lemmas.Bool.Decides.{nat_tests}
use Rattle.source_map.specs.declared.map.Segment.{Segment}
use Rattle.source_map.specs.declared.fields.Field.{Field}
use Rattle.source_map.specs.declared.reading.Values.{Values}
use Rattle.source_map.specs.declared.reading.Reading.{Reading}
use Rattle.source_map.specs.Digits.{digit_of, letter}
use Rattle.source_map.specs.Outcome.{◌>>=◌}
use Rattle.source_map.specs.Segments.{limit, moved, begun_at, digit_at, character_at, characters_from}
use Rattle.source_map.specs.Written.{signed, digits_text, field_text}
use Rattle.source_map.proofs.Numbers.{IsShort, IsShort-six}

-- ---- letters

letter_range : (d : ℕ) → d < 64 → (letter d ≢ 59) × (letter d ≢ 44)
unfolding letter
letter_range d h = (λ e. grind (arith, nat_tests), λ e. grind (arith, nat_tests))

pub digit_of-letter : (d : ℕ) → d < 64 → digit_of (letter d) ≡ Some d
unfolding letter digit_of
digit_of-letter d h = grind (arith, nat_tests)

character_at-letter : (at d : ℕ) (s : Reading) → d < 64 → character_at at (letter d) s ≡ digit_at at d s
unfolding character_at
character_at-letter at d s h =
    let r = letter_range d h in
    rw (ne_eqb (letter d) 59 r.0, ne_eqb (letter d) 44 r.1, digit_of-letter d h) refl

-- ---- the value that a field moves to

signed_fits : (from to : ℕ) → from ≤ limit → to ≤ limit → signed from to < 2 ^ 32
signed_fits from to low high = go (cases_Bool (leb from to))
  where
    go : (leb from to ≡ true) ⊎ (leb from to ≡ false) → signed from to < 2 ^ 32
    go (inl e) = rw e (omega arith)
    go (inr e) = rw e (omega arith)

moved-up : (from to : ℕ) → from ≤ to → to ≤ limit → moved from (2 * (to - from)) ≡ Some to
moved-up from to up high =
    let even : 2 * (to - from) % 2 ≢ 1 = omega arith in
    let lands : from + 2 * (to - from) / 2 ≡ to = omega arith in
    rw (ne_eqb (2 * (to - from) % 2) 1 even, lands, le-ltb limit to high) refl

moved-down : (from to : ℕ) → to < from → moved from (2 * (from - to) + 1) ≡ Some to
moved-down from to down =
    let odd : (2 * (from - to) + 1) % 2 ≡ 1 = omega arith in
    let half : (2 * (from - to) + 1) / 2 ≡ from - to = omega arith in
    let lands : from - (from - to) ≡ to = omega arith in
    rw (odd, half, le-ltb from (from - to) (omega arith), lands) refl

pub moved-signed : (from to : ℕ) → to ≤ limit → moved from (signed from to) ≡ Some to
moved-signed from to high = go (cases_Bool (leb from to))
  where
    go : (leb from to ≡ true) ⊎ (leb from to ≡ false) → moved from (signed from to) ≡ Some to
    go (inl e) = ap (λ b. moved from (cond b (2 * (to - from)) (2 * (from - to) + 1))) e ∙ moved-up from to (leb-true from to e) high
    go (inr e) = ap (λ b. moved from (cond b (2 * (to - from)) (2 * (from - to) + 1))) e ∙ moved-down from to (leb-false from to e)

-- ---- digits

-- so many digits more may follow one of this weight
abbrev Room : ℕ → ℕ → Type 0
Room zero w = w ≤ 1073741824
Room (suc k) w = Room k (w * 32)

Room-le : (k w : ℕ) → Room k w → w ≤ 1073741824
Room-le zero w h = h
Room-le (suc k) w h = let r = Room-le k (w * 32) h in omega arith

Room-six : Room 6 1
Room-six = lit≤ tt

split_number : (n w : ℕ) → n * w ≡ (n % 32) * w + (n / 32) * (w * 32)
split_number n w = let e : n ≡ n % 32 + 32 * (n / 32) = omega arith in ap (λ m. m * w) e ∙ omega arith

-- the state between two digits of a segment
module _ (sources names line : ℕ) (v : Values) (first : Bool) (start : ℕ) (segments : List Segment) where
  abbrev pub between : List Field → ℕ → ℕ → ℕ → Reading
  between fs begun number weight = record {
    sources = sources;
    names = names;
    line = line;
    values = v;
    first = first;
    start = start;
    fields = fs;
    begun = begun;
    number = number;
    weight = weight;
    segments = segments;
  }

  -- the text is one field, whose number is n
  abbrev pub ReadsField : List Field → ℕ → ℕ → ℕ → ℕ → List ℕ → ℕ → List ℕ → Type 0
  ReadsField fs begun number weight at text n rest =
      (after : ℕ) × (b : ℕ) × (f : ℕ) × (characters_from at (text ++ rest) (between fs begun number weight) ≡ characters_from after rest (between (fs ++ (record { at = f; number = n }) ∷ []) b 0 1))

  last_digit : (n at : ℕ) (rest : List ℕ) (fs : List Field) (begun number weight total : ℕ) → n < 32 → weight ≤ 1073741824 → total ≡ number + n * weight → total < 2 ^ 32
      → ReadsField fs begun number weight at (letter n ∷ []) total rest
  unfolding characters_from digit_at
  last_digit n at rest fs begun number weight total small room is fits =
      let s = between fs begun number weight in
      let b = begun_at at s in
      let number_is : number + n % 32 * weight ≡ total = ap (λ m. number + m * weight) (omega arith) ∙ sym is in
      let whole : digit_at at n s ≡ Ok (between (fs ++ (record { at = b; number = total }) ∷ []) b 0 1) =
      rw (le-ltb 1073741824 weight room, lt-leb 32 n small, number_is, le-ltb limit (total / 2) (omega arith)) refl in
      (suc at, b, b, ap (λ r. r >>= characters_from (suc at) rest) (character_at-letter at n s (omega arith) ∙ whole))

  more_digit : (n at : ℕ) (rest : List ℕ) (fs : List Field) (begun number weight : ℕ) → weight ≤ 1073741824
      → characters_from at (letter (32 + n % 32) ∷ rest) (between fs begun number weight) ≡ characters_from (suc at) rest (between fs (begun_at at (between fs begun number weight)) (number + n % 32 * weight) (weight * 32))
  unfolding characters_from digit_at
  more_digit n at rest fs begun number weight room =
      let s = between fs begun number weight in
      let b = begun_at at s in
      let low : (32 + n % 32) % 32 ≡ n % 32 = omega arith in
      let next : digit_at at (32 + n % 32) s ≡ Ok (between fs b (number + n % 32 * weight) (weight * 32)) =
      rw (le-ltb 1073741824 weight room, le-leb 32 (32 + n % 32) (omega arith), low) refl in
      ap (λ r. r >>= characters_from (suc at) rest) (character_at-letter at (32 + n % 32) s (omega arith) ∙ next)

  either : (b : Bool) (fs : List Field) (begun number weight at total : ℕ) (xs ys rest : List ℕ) → (b ≡ true → ReadsField fs begun number weight at xs total rest) → ReadsField fs begun number weight at ys total rest
      → ReadsField fs begun number weight at (cond b xs ys) total rest
  either true fs begun number weight at total xs ys rest one more = one refl
  either false fs begun number weight at total xs ys rest one more = more

  digits_read : (k n at : ℕ) (rest : List ℕ) (fs : List Field) (begun number weight total : ℕ) → IsShort k n → Room k weight → total ≡ number + n * weight → total < 2 ^ 32
      → ReadsField fs begun number weight at (digits_text k n) total rest
  unfolding digits_text
  digits_read zero n at rest fs begun number weight total short room is fits = last_digit n at rest fs begun number weight total short room is fits
  digits_read (suc k) n at rest fs begun number weight total short room is fits =
      let le : weight ≤ 1073741824 = Room-le (suc k) weight room in
      let b = begun_at at (between fs begun number weight) in
      let sum : total ≡ number + n % 32 * weight + n / 32 * (weight * 32) = is ∙ ap (λ m. number + m) (split_number n weight) ∙ omega arith in
      let more = digits_read k (n / 32) (suc at) rest fs b (number + n % 32 * weight) (weight * 32) total short room sum fits in
      either (ltb n 32) fs begun number weight at total (letter n ∷ []) (letter (32 + n % 32) ∷ digits_text k (n / 32)) rest
      (λ e. last_digit n at rest fs begun number weight total (ltb-true n 32 e) le is fits)
      (more.0, more.1, more.2, more_digit n at (digits_text k (n / 32) ++ rest) fs begun number weight le ∙ more.3)

  pub field_read : (from to at : ℕ) (rest : List ℕ) (fs : List Field) (begun : ℕ) → from ≤ limit → to ≤ limit → ReadsField fs begun 0 1 at (field_text from to) (signed from to) rest
  field_read from to at rest fs begun low high =
      let n = signed from to in
      let fits : n < 2 ^ 32 = signed_fits from to low high in
      digits_read 6 n at rest fs begun 0 1 n (IsShort-six n fits) Room-six (omega arith) fits
