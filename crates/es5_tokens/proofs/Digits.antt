-- What is read where a number begins.
use Rattle.std.proofs.Common.{◌≡◌, ℕ, zero, suc, ◌+◌, ◌-◌, ◌*◌, ◌≤◌, inl, inr, Bool, true, false, ◌&&◌, ◌||◌, List, [], ◌∷◌, length, take, drop, get_or, fold, refl, sym, ap, subst, ◌∙◌, arith}
use Rattle.std.specs.Prelude.{eqb, nat_lt, nat_le, not, slice_index}
use Rattle.std.specs.Int.{IsInRange}
use Rattle.std.specs.List.{prefix_len, list_all}
use Rattle.std.specs.Char.{digit_value, is_ascii_digit, is_ascii_hexdigit}
use Rattle.std.specs.Fmt as fmt
use Rattle.std.proofs.lemmas.Fmt.{decimal-digits_value}
use Rattle.std.proofs.lemmas.Str.Parse.{IsNumeralModel, numerals_by_fold, IsDigitsTest, FoldsDigits}
use Rattle.std.proofs.lemmas.Bool.{eqb-true, eqb-false, leb-true, and_parts, and_cases, and_from, or_left, or_right, not_from_false, ltb-false}
use Rattle.std.proofs.lemmas.Bool.Decides.{nat_tests}
use Rattle.std.proofs.lemmas.List.{take-append-drop, length-take-le}
use Rattle.es5_ast.specs.Lexical.{SpellsToken, decimal_integer, hexadecimal_integer, is_whole, is_hexadecimal, is_identifier_part, next_is, hex_value}
use Rattle.es5_ast.specs.Lexical as lexical
use Rattle.es5_tokens.specs.Numbers.{digits_value, ended, has_prefix, hexadecimal, fraction_length, exponent_length, decimal, number_element}
use Rattle.es5_tokens.specs.Tokens.{BeginsNumber}
use Rattle.es5_tokens.proofs.Prefixes.{by_cases, run_more, run_within, run_passes, next_not}
use Rattle.es5_tokens.proofs.Read.{IsRead}

-- digits and their value, in the words of the library's lemmas
abbrev pub AreDigits : List ℕ → Type 0
AreDigits ds = list_all is_ascii_digit ds ≡ true

pub in_range : (c : ℕ) → is_ascii_digit c ≡ true → IsInRange 48 57 c
in_range c h = (grind (arith, nat_tests), grind (arith, nat_tests))

from_range : (c : ℕ) → IsInRange 48 57 c → is_ascii_digit c ≡ true
from_range c h = let low = h.0 in let high = h.1 in grind (arith, nat_tests)

tells : IsDigitsTest AreDigits
tells = record {
  empty = refl;
  parts = λ c cs h. (let two = and_parts (is_ascii_digit c) _ h in (in_range c two.0, two.1));
  more = λ c cs r h. and_from (is_ascii_digit c) _ (from_range c r) h;
}

value_in_range : (c : ℕ) → IsInRange 48 57 c → digit_value c ≡ c - 48
value_in_range c h = let low = h.0 in let high = h.1 in grind (arith, nat_tests)

abbrev pub read_on : ℕ → List ℕ → ℕ
read_on n cs = fold (λ m d. 10 * m + digit_value d) n cs

folds : FoldsDigits read_on
folds = record {
  empty = λ n. refl;
  more = λ n c cs r. (let step : 10 * n + digit_value c ≡ n * 10 + (c - 48) = omega (arith, value_in_range c r) in ap (λ m. read_on m cs) step);
}

pub own : IsNumeralModel AreDigits (digits_value 10)
own = numerals_by_fold AreDigits tells read_on folds

-- what ends a number, once its characters are known to spell it
ended_is : (cs : List ℕ) (n value : ℕ) → BeginsNumber cs → n ≤ length cs → 1 ≤ n → (value ≤ 9007199254740991 → SpellsToken (lexical.Integer value) (take n cs))
    → (is_hexadecimal (take n cs) || not (next_is (λ c. eqb c 46) (drop n cs))) ≡ true → IsRead cs (ended cs n value)
ended_is cs n value begin inside some spells whole =
    by_cases (IsRead cs) (next_is is_identifier_part (drop n cs)) _ _ (λ t. omega arith)
    (λ f. by_cases (IsRead cs) (nat_le value 9007199254740991) _ _
    (λ small. (take n cs, drop n cs, sym (take-append-drop n cs), sym (length-take-le n cs inside), some, spells (leb-true value 9007199254740991 small), and_from _ _ (not_from_false _ f) whole))
    (λ large. (refl, begin)))

-- `0x` and digits
hexadecimal_spells : (x : ℕ) (ds : List ℕ) → (eqb x 120 || eqb x 88) ≡ true → 1 ≤ length ds → list_all is_ascii_hexdigit ds ≡ true → hex_value ds ≤ 9007199254740991 → SpellsToken (lexical.Integer (hex_value ds)) (48 ∷ x ∷ ds)
hexadecimal_spells x [] e some h small = absurd (omega arith)
hexadecimal_spells x (d ∷ ds) e some h small = hexadecimal_integer e h small

prefixed_is : (x : ℕ) (ds : List ℕ) → (eqb x 120 || eqb x 88) ≡ true → IsRead (48 ∷ x ∷ ds) (hexadecimal (48 ∷ x ∷ ds))
unfolding hexadecimal
prefixed_is x ds e =
    let n = prefix_len is_ascii_hexdigit ds in
    let size = length-take-le n ds (run_within is_ascii_hexdigit ds) in
    let all : 2 + n ≡ suc (suc n) = omega arith in
    by_cases (IsRead (48 ∷ x ∷ ds)) (eqb n 0) _ _ (λ t. omega arith)
    (λ f. let some : n ≡ 0 → ⊥ = eqb-false n 0 f in
    ended_is (48 ∷ x ∷ ds) (2 + n) (digits_value 16 (take n ds)) (inl refl) (omega (arith, run_within is_ascii_hexdigit ds)) (omega arith)
    (λ small. rw all (hexadecimal_spells x (take n ds) e (omega (arith, size)) (run_passes is_ascii_hexdigit ds) small))
    (rw all (or_left (eqb x 120 || eqb x 88) _ e)))

with_prefix : (cs : List ℕ) → has_prefix cs ≡ true → IsRead cs (hexadecimal cs)
with_prefix [] e = cc
with_prefix (c ∷ []) e = (let bad : false ≡ true = sym (and_cut (eqb c 48)) ∙ e in cc) where
  and_cut : (b : Bool) → (b && false) ≡ false
  and_cut true = refl
  and_cut false = refl
with_prefix (c ∷ x ∷ ds) e =
    let two = and_parts (eqb c 48) _ e in
    subst (λ z. IsRead (z ∷ x ∷ ds) (hexadecimal (z ∷ x ∷ ds))) (sym (eqb-true c 48 two.0)) (prefixed_is x ds two.1)

no_fraction : (cs : List ℕ) → fraction_length cs ≡ 0 → next_is (λ c. eqb c 46) cs ≡ false
no_fraction cs e =
    next_not (λ c. eqb c 46) cs
    (by_cases (λ k. k ≡ 0 → eqb (slice_index cs 0) 46 ≡ false) (eqb (slice_index cs 0) 46) _ _ (λ t z. absurd (omega arith)) (λ f z. f) e)

one_zero : (cs : List ℕ) (n : ℕ) → (eqb (slice_index cs 0) 48 && nat_lt 1 n) ≡ false → 1 ≤ n → slice_index cs 0 ≡ 48 → n ≡ 1
one_zero cs n f some zero_first =
    elim (and_cases _ _ f) [
      | inl a ↦ absurd (eqb-false (slice_index cs 0) 48 a zero_first)
      | inr b ↦ (let most = ltb-false 1 n b in omega arith)
    ]

front_head : (n : ℕ) (cs : List ℕ) → 1 ≤ n → get_or (take n cs) 0 0 ≡ slice_index cs 0
front_head zero cs h = absurd (omega arith)
front_head (suc n) [] h = refl
front_head (suc n) (c ∷ cs) h = refl

plain_spells : (ds : List ℕ) → AreDigits ds → 1 ≤ length ds → (slice_index ds 0 ≡ 48 → length ds ≡ 1) → digits_value 10 ds ≤ 9007199254740991 → SpellsToken (lexical.Integer (digits_value 10 ds)) ds
plain_spells ds are some zero_alone small =
    let same : fmt.decimal (digits_value 10 ds) ≡ ds = decimal-digits_value own ds are (omega arith) zero_alone (omega arith) in
    subst (λ text. SpellsToken (lexical.Integer (digits_value 10 ds)) text) same (decimal_integer small)

whole_is : (cs : List ℕ) (n : ℕ) → BeginsNumber cs → n ≡ prefix_len is_ascii_digit cs → 1 ≤ n → (eqb (slice_index cs 0) 48 && nat_lt 1 n) ≡ false → fraction_length (drop n cs) ≡ 0 → IsRead cs (ended cs n (digits_value 10 (take n cs)))
whole_is cs n begin is some f none =
    let inside : n ≤ length cs = omega (arith, is, run_within is_ascii_digit cs) in
    let size = length-take-le n cs inside in
    let are : AreDigits (take n cs) = subst (λ k. AreDigits (take k cs)) (sym is) (run_passes is_ascii_digit cs) in
    ended_is cs n (digits_value 10 (take n cs)) begin inside some
    (λ small. plain_spells (take n cs) are (omega (arith, size)) (λ z. size ∙ one_zero cs n f some (sym (front_head n cs some) ∙ z)) small)
    (or_right (is_hexadecimal (take n cs)) _ (not_from_false _ (no_fraction (drop n cs) none)))

first_digit : (cs : List ℕ) → is_ascii_digit (slice_index cs 0) ≡ true → 1 ≤ prefix_len is_ascii_digit cs
first_digit [] e = cc
first_digit (c ∷ cs) e = omega (arith, run_more is_ascii_digit c cs e)

first_point : (cs : List ℕ) → slice_index cs 0 ≡ 46 → (prefix_len is_ascii_digit cs ≡ 0) × (1 ≤ fraction_length cs)
first_point [] e = cc
first_point (c ∷ cs) e =
    subst (λ x. (prefix_len is_ascii_digit (x ∷ cs) ≡ 0) × (1 ≤ fraction_length (x ∷ cs))) (sym e) (refl, omega arith)

has_digit : (cs : List ℕ) (n e : ℕ) → n ≡ prefix_len is_ascii_digit cs → BeginsNumber cs → e ≡ n → fraction_length (drop n cs) ≤ e - n → 1 ≤ n
has_digit cs n e is (inl d) same least = omega (arith, is, first_digit cs d)
has_digit cs n e is (inr p) same least =
    let point = first_point cs p.0 in
    let none : n ≡ 0 = is ∙ point.0 in
    let there : 1 ≤ fraction_length (drop n cs) = subst (λ k. 1 ≤ fraction_length (drop k cs)) (sym none) point.1 in
    absurd (omega arith)

decimal_is : (cs : List ℕ) → 1 ≤ length cs → BeginsNumber cs → IsRead cs (decimal cs)
unfolding decimal
decimal_is cs long begin =
    let n = prefix_len is_ascii_digit cs in
    let m = n + fraction_length (drop n cs) in
    let e = m + exponent_length (drop m cs) in
    by_cases (IsRead cs) (eqb (slice_index cs 0) 48 && nat_lt 1 n) _ _ (λ t. long)
    (λ f. by_cases (IsRead cs) (eqb e n) _ _
    (λ t. let same : e ≡ n = eqb-true e n t in
    let none : fraction_length (drop n cs) ≡ 0 = omega arith in
    whole_is cs n begin refl (has_digit cs n e refl begin same (omega arith)) f none)
    (λ u. by_cases (IsRead cs) (next_is is_identifier_part (drop e cs)) _ _ (λ a. long) (λ a. (refl, begin))))

pub number_is : (cs : List ℕ) → 1 ≤ length cs → BeginsNumber cs → IsRead cs (number_element cs)
number_is cs long begin = by_cases (IsRead cs) (has_prefix cs) _ _ (λ t. with_prefix cs t) (λ f. decimal_is cs long begin)
