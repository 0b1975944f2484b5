-- Words and numbers are read as they are spelled.
use Rattle.std.proofs.Common.{◌≡◌, ℕ, zero, suc, ◌+◌, ◌<◌, ◌≤◌, ◌^◌, inl, inr, Bool, true, false, ◌&&◌, ◌||◌, List, [], ◌∷◌, ◌++◌, length, take, drop, refl, ap, ◌∙◌, arith}
use Rattle.std.specs.Prelude.{eqb, nat_lt, nat_le, not, slice_index}
use Rattle.std.specs.List.{prefix_len, list_all}
use Rattle.std.specs.Char.{is_ascii_digit, is_ascii_hexdigit}
use Rattle.std.specs.Fmt as fmt
use Rattle.std.proofs.lemmas.Fmt.{decimal_digit, decimal_nonempty, digits_decimal, digits_value-decimal, first_decimal}
use Rattle.std.proofs.lemmas.Bool.{and_parts, and_from, and_left, and_right, or_left, or_from, not_from_false, cond-true, cond-false, eq-eqb, ne_eqb, cases_eq, le-leb, le-ltb, false_from_ne_true}
use Rattle.std.proofs.lemmas.Bool.Decides.{nat_tests}
use Rattle.std.proofs.lemmas.List.{take_at, drop_at}
use Rattle.es5_ast.specs.Lexical.{is_identifier_start, is_identifier_part, is_identifier_name, next_is, hex_value}
use Rattle.es5_tokens.specs.declared.token.TokenKind.TheVariants.{Word, Integer}
use Rattle.es5_tokens.specs.declared.shape.Element.TheVariants.{Take}
use Rattle.es5_tokens.specs.Elements.{element}
use Rattle.es5_tokens.specs.Numbers.{digits_value, ended, has_prefix, hexadecimal, fraction_length, exponent_length, decimal, number_element}
use Rattle.es5_tokens.proofs.Digits.{own, AreDigits}
use Rattle.es5_token_laws.proofs.Characters.{run_only, word_at_start, number_at_digit}

-- words
word_parts : (name : List ℕ) → is_identifier_name name ≡ true → list_all is_identifier_part name ≡ true
word_parts [] h = cc
word_parts (c ∷ cs) h = let two = and_parts (is_identifier_start c) _ h in and_from _ _ (or_left (is_identifier_start c) (is_ascii_digit c) two.0) two.1

word_begins : (name rest : List ℕ) → is_identifier_name name ≡ true → next_is is_identifier_part rest ≡ false → element (name ++ rest) ≡ Take (Word (take (prefix_len is_identifier_part (name ++ rest)) (name ++ rest))) (prefix_len is_identifier_part (name ++ rest))
word_begins [] rest h n = cc
word_begins (c ∷ cs) rest h n = word_at_start c (cs ++ rest) (and_parts (is_identifier_start c) _ h).0

pub word : (name rest : List ℕ) → is_identifier_name name ≡ true → next_is is_identifier_part rest ≡ false → element (name ++ rest) ≡ Take (Word name) (length name)
word name rest h n =
    let run = run_only is_identifier_part name rest (word_parts name h) n in
    word_begins name rest h n ∙ ap (λ k. Take (Word (take k (name ++ rest))) k) run ∙ ap (λ t. Take (Word t) (length name)) (take_at name rest (length name) refl)

-- what follows a number
follows : (p : ℕ → Bool) (rest : List ℕ) → ((c : ℕ) → p c ≡ true → is_identifier_part c ≡ true) → next_is is_identifier_part rest ≡ false → next_is p rest ≡ false
follows p [] more h = refl
follows p (c ∷ rest) more h = false_from_ne_true (p c) (λ t. let bad = more c t in cc)

digit_part : (c : ℕ) → is_ascii_digit c ≡ true → is_identifier_part c ≡ true
digit_part c h = grind (arith, nat_tests)

hexdigit_part : (c : ℕ) → is_ascii_hexdigit c ≡ true → is_identifier_part c ≡ true
hexdigit_part c h = grind (arith, nat_tests)

ends : (cs text rest : List ℕ) (value : ℕ) → cs ≡ text ++ rest → next_is is_identifier_part rest ≡ false → value ≤ 9007199254740991 → ended cs (length text) value ≡ Take (Integer value) (length text)
ends cs text rest value split none small =
    let after : drop (length text) cs ≡ rest = ap (drop (length text)) split ∙ drop_at text rest (length text) refl in
    cond-false (next_is is_identifier_part (drop (length text) cs)) _ _ (ap (next_is is_identifier_part) after ∙ none) ∙ cond-true (nat_le value 9007199254740991) _ _ (le-leb value 9007199254740991 small)

no_fraction : (rest : List ℕ) → next_is (λ c. eqb c 46) rest ≡ false → fraction_length rest ≡ 0
no_fraction [] h = refl
no_fraction (c ∷ rest) h = cond-false (eqb c 46) _ _ h

no_exponent : (rest : List ℕ) → next_is is_identifier_part rest ≡ false → exponent_length rest ≡ 0
unfolding exponent_length
no_exponent [] h = refl
no_exponent (c ∷ rest) h =
    let low : (c ≡ 101 → ⊥) = (λ e. let bad : is_identifier_part c ≡ true = ap is_identifier_part e in cc) in
    let high : (c ≡ 69 → ⊥) = (λ e. let bad : is_identifier_part c ≡ true = ap is_identifier_part e in cc) in
    cond-true (not (eqb c 101) && not (eqb c 69)) _ _ (and_from _ _ (not_from_false _ (ne_eqb c 101 low)) (not_from_false _ (ne_eqb c 69 high)))

-- decimal digits that nothing goes on
decimal_by : (cs : List ℕ) → fraction_length (drop (prefix_len is_ascii_digit cs) cs) ≡ 0 → exponent_length (drop (prefix_len is_ascii_digit cs) cs) ≡ 0 → (eqb (slice_index cs 0) 48 && nat_lt 1 (prefix_len is_ascii_digit cs)) ≡ false
    → decimal cs ≡ ended cs (prefix_len is_ascii_digit cs) (digits_value 10 (take (prefix_len is_ascii_digit cs) cs))
unfolding decimal
decimal_by cs f x z =
    let n = prefix_len is_ascii_digit cs in
    let m : n + fraction_length (drop n cs) ≡ n = omega (arith, f) in
    let e : n + fraction_length (drop n cs) + exponent_length (drop (n + fraction_length (drop n cs)) cs) ≡ n = omega (arith, m, ap (λ k. exponent_length (drop k cs)) m, x) in
    cond-false (eqb (slice_index cs 0) 48 && nat_lt 1 n) _ _ z ∙ cond-true (eqb (n + fraction_length (drop n cs) + exponent_length (drop (n + fraction_length (drop n cs)) cs)) n) _ _ (eq-eqb _ n e)

one_zero : (ds rest : List ℕ) → 1 ≤ length ds → (slice_index ds 0 ≡ 48 → length ds ≡ 1) → (eqb (slice_index (ds ++ rest) 0) 48 && nat_lt 1 (length ds)) ≡ false
one_zero [] rest some h = absurd (omega arith)
one_zero (d ∷ ds) rest some h = elim (cases_eq d 48) [
  | inl z ↦ (let one = h z in and_right (eqb d 48) _ (le-ltb 1 (suc (length ds)) (omega (arith, one))))
  | inr n ↦ and_left _ _ (ne_eqb d 48 n)
]

no_prefix : (ds rest : List ℕ) → 1 ≤ length ds → (slice_index ds 0 ≡ 48 → length ds ≡ 1) → next_is is_identifier_part rest ≡ false → has_prefix (ds ++ rest) ≡ false
no_prefix [] rest some h n = absurd (omega arith)
no_prefix (d ∷ []) [] some h n = and_right (eqb d 48) _ refl
no_prefix (d ∷ []) (c ∷ rest) some h n =
    let low : (c ≡ 120 → ⊥) = (λ e. let bad : is_identifier_part c ≡ true = ap is_identifier_part e in cc) in
    let high : (c ≡ 88 → ⊥) = (λ e. let bad : is_identifier_part c ≡ true = ap is_identifier_part e in cc) in
    and_right (eqb d 48) _ (or_from (eqb c 120) _ (ne_eqb c 120 low) (ne_eqb c 88 high))
no_prefix (d ∷ e ∷ ds) rest some h n = and_left _ _ (ne_eqb d 48 (λ z. let one : suc (suc (length ds)) ≡ 1 = h z in omega (arith, one)))

digits_begin : (ds rest : List ℕ) → AreDigits ds → 1 ≤ length ds → element (ds ++ rest) ≡ number_element (ds ++ rest)
digits_begin [] rest h some = absurd (omega arith)
digits_begin (d ∷ ds) rest h some = number_at_digit d (ds ++ rest) (and_parts (is_ascii_digit d) _ h).0

digits : (ds rest : List ℕ) → AreDigits ds → 1 ≤ length ds → (slice_index ds 0 ≡ 48 → length ds ≡ 1) → next_is is_identifier_part rest ≡ false → next_is (λ c. eqb c 46) rest ≡ false → digits_value 10 ds ≤ 9007199254740991
    → element (ds ++ rest) ≡ Take (Integer (digits_value 10 ds)) (length ds)
digits ds rest are some alone none point small =
    let run = run_only is_ascii_digit ds rest are (follows is_ascii_digit rest digit_part none) in
    let after : drop (prefix_len is_ascii_digit (ds ++ rest)) (ds ++ rest) ≡ rest = ap (λ k. drop k (ds ++ rest)) run ∙ drop_at ds rest (length ds) refl in
    let front : take (prefix_len is_ascii_digit (ds ++ rest)) (ds ++ rest) ≡ ds = ap (λ k. take k (ds ++ rest)) run ∙ take_at ds rest (length ds) refl in
    let zero_alone : (eqb (slice_index (ds ++ rest) 0) 48 && nat_lt 1 (prefix_len is_ascii_digit (ds ++ rest))) ≡ false = ap (λ k. eqb (slice_index (ds ++ rest) 0) 48 && nat_lt 1 k) run ∙ one_zero ds rest some alone in
    digits_begin ds rest are some ∙ cond-false (has_prefix (ds ++ rest)) _ _ (no_prefix ds rest some alone none)
    ∙ decimal_by (ds ++ rest) (ap fraction_length after ∙ no_fraction rest point) (ap exponent_length after ∙ no_exponent rest none) zero_alone
    ∙ ap (λ t. ended (ds ++ rest) (prefix_len is_ascii_digit (ds ++ rest)) (digits_value 10 t)) front ∙ ap (λ k. ended (ds ++ rest) k (digits_value 10 ds)) run
    ∙ ends (ds ++ rest) ds rest (digits_value 10 ds) refl none small

zero_digits : (v : ℕ) → v < 2 ^ 64 → slice_index (fmt.decimal v) 0 ≡ 48 → length (fmt.decimal v) ≡ 1
zero_digits zero h e = ap length (decimal_digit 0 (omega arith))
zero_digits (suc v) h e = let first = first_decimal (suc v) (omega arith) h in absurd (omega arith)

pub decimal_number : (value : ℕ) (rest : List ℕ) → value ≤ 9007199254740991 → next_is is_identifier_part rest ≡ false → next_is (λ c. eqb c 46) rest ≡ false → element (fmt.decimal value ++ rest) ≡ Take (Integer value) (length (fmt.decimal value))
decimal_number value rest small none point =
    let fits : value < 2 ^ 64 = omega arith in
    let ds = fmt.decimal value in
    let is : digits_value 10 ds ≡ value = digits_value-decimal own value fits in
    let some : 1 ≤ length ds = decimal_nonempty value fits in
    digits ds rest (digits_decimal own value fits) some (zero_digits value fits) none point (omega (arith, is)) ∙ ap (λ v. Take (Integer v) (length ds)) is

-- hexadecimal numbers
hexadecimal_by : (x : ℕ) (ds rest : List ℕ) → list_all is_ascii_hexdigit ds ≡ true → 1 ≤ length ds → next_is is_identifier_part rest ≡ false → hex_value ds ≤ 9007199254740991
    → hexadecimal (48 ∷ x ∷ (ds ++ rest)) ≡ Take (Integer (hex_value ds)) (length (48 ∷ x ∷ ds))
unfolding hexadecimal
hexadecimal_by x ds rest h some none small =
    let cs = 48 ∷ x ∷ (ds ++ rest) in
    let n = prefix_len is_ascii_hexdigit (ds ++ rest) in
    let run : n ≡ length ds = run_only is_ascii_hexdigit ds rest h (follows is_ascii_hexdigit rest hexdigit_part none) in
    let size : 2 + length ds ≡ suc (suc (length ds)) = omega arith in
    let front : take (length ds) (ds ++ rest) ≡ ds = take_at ds rest (length ds) refl in
    cond-false (eqb n 0) _ _ (ne_eqb n 0 (λ z. omega arith)) ∙ ap (λ k. ended cs (2 + k) (digits_value 16 (take k (ds ++ rest)))) run
    ∙ ap (λ t. ended cs (2 + length ds) (digits_value 16 t)) front ∙ ap (λ k. ended cs k (digits_value 16 ds)) size ∙ ends cs (48 ∷ x ∷ ds) rest (hex_value ds) refl none small

pub hexadecimal_number : (x : ℕ) (ds rest : List ℕ) → (eqb x 120 || eqb x 88) ≡ true → list_all is_ascii_hexdigit ds ≡ true → 1 ≤ length ds → next_is is_identifier_part rest ≡ false → hex_value ds ≤ 9007199254740991
    → element (48 ∷ x ∷ (ds ++ rest)) ≡ Take (Integer (hex_value ds)) (length (48 ∷ x ∷ ds))
hexadecimal_number x ds rest e h some none small =
    number_at_digit 48 (x ∷ (ds ++ rest)) refl ∙ cond-true (has_prefix (48 ∷ x ∷ (ds ++ rest))) _ _ e ∙ hexadecimal_by x ds rest h some none small
