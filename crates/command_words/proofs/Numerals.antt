-- What from one to 13 digits are read as.
use Rattle.std.proofs.Common.{◌≡◌, ◌∙◌, ◌<◌, ◌≤◌, ◌^◌, ◌==◌, ◌&&◌, ℕ, true, false, refl, sym, ap, subst, arith, List, [], ◌∷◌, length, Some, inl, inr}
use Rattle.std.specs.List.{list_all}
use Rattle.std.specs.Option.{option_and_then}
use Rattle.std.specs.Char.{is_ascii_digit}
use Rattle.std.specs.Str.{all_ascii_digits}
use Rattle.std.specs.Str.Parse.{AllDigits, IsNumeral, digits_value, without_leading_plus}
use Rattle.std.proofs.lemmas.Str.Parse.{tells_all_ascii_digits, numerals_by_value, digits_value_short}
use Rattle.std.proofs.lemmas.Bool.{cases_Bool, eqb-true}
use Rattle.module_paths.specs.Paths.{form_of}
use Rattle.command_words.specs.Said.{Parts}
use Rattle.command_words.specs.Words.{one_word, path_and_steps, steps_said}

same_digits : (w : List ℕ) → list_all is_ascii_digit w ≡ all_ascii_digits w
same_digits [] = refl
same_digits (c ∷ cs) = ap (λ b. is_ascii_digit c && b) (same_digits cs)

digits : (w : List ℕ) → list_all is_ascii_digit w ≡ true → AllDigits 10 w
digits w e = (numerals_by_value (λ ds. all_ascii_digits ds ≡ true) tells_all_ascii_digits).to w (sym (same_digits w) ∙ e)

no_plus : (w : List ℕ) → list_all is_ascii_digit w ≡ true → without_leading_plus w ≡ w
no_plus [] e = refl
no_plus (c ∷ cs) e = elim (cases_Bool (c == 43)) [
  | inl t ↦ let P : ℕ → Type 0 = λ z. list_all is_ascii_digit (z ∷ cs) ≡ true in let f : false ≡ true = subst P (eqb-true c 43 t) e in absurd (cc)
  | inr f ↦ rw f refl
]

pub reads : (w : List ℕ) → list_all is_ascii_digit w ≡ true → 1 ≤ length w → length w ≤ 13 → IsNumeral 10 (without_leading_plus w) × (digits_value 10 (without_leading_plus w) < 2 ^ 64)
reads w e some few =
    let P : List ℕ → Type 0 = λ z. IsNumeral 10 z × (digits_value 10 z < 2 ^ 64) in
    let below : digits_value 10 w < 10 ^ 13 = digits_value_short (numerals_by_value (λ ds. all_ascii_digits ds ≡ true) tells_all_ascii_digits) w 13 (sym (same_digits w) ∙ e) few in
    subst P (sym (no_plus w e)) ((omega (arith, some), digits w e), omega (arith, below))

pub paired : (parts : Parts) (path : List ℕ) (n : ℕ) → option_and_then form_of (one_word parts.plain []) ≡ Some path → steps_said parts.steps ≡ Some n → path_and_steps parts ≡ Some (path, n)
paired parts path n formed said = rw formed (rw said refl)
