-- Which characters begin which elements, and runs of one class.
use Rattle.std.proofs.Common.{◌≡◌, ℕ, ◌≤◌, ◌⊎◌, inl, inr, Bool, true, false, ◌||◌, List, [], ◌∷◌, ◌++◌, length, refl, ap, ◌∙◌, arith}
use Rattle.std.specs.Prelude.{eqb}
use Rattle.std.specs.List.{prefix_len, list_all}
use Rattle.std.specs.Char.{is_ascii_digit}
use Rattle.std.proofs.lemmas.Bool.{and_parts, or_cases, eqb-true, cond-true, cond-false, false_from_ne_true}
use Rattle.std.proofs.lemmas.Bool.Decides.{nat_tests}
use Rattle.es5_ast.specs.Lexical.{is_white_space, is_line_terminator, is_identifier_start, next_is}
use Rattle.es5_tokens.specs.declared.shape.Element.TheVariants.{Skip}
use Rattle.es5_tokens.specs.Elements.{element, word_element}
use Rattle.es5_tokens.specs.Numbers.{number_element}

-- a run of all characters of a text ends where what follows it fails
pub run_only : (p : ℕ → Bool) (cs after : List ℕ) → list_all p cs ≡ true → next_is p after ≡ false → prefix_len p (cs ++ after) ≡ length cs
run_only p [] [] h n = refl
run_only p [] (c ∷ after) h n = cond-false (p c) _ _ n
run_only p (c ∷ cs) after h n =
    let two = and_parts (p c) _ h in
    let ih = run_only p cs after two.1 n in
    cond-true (p c) _ _ two.0 ∙ omega (arith, ih)

-- the begin of an identifier is an ASCII character that is no space
start_range : (c : ℕ) → is_identifier_start c ≡ true → (36 ≤ c) × (c ≤ 122)
start_range c h = (grind (arith, nat_tests), grind (arith, nat_tests))

white_not : (c : ℕ) → 33 ≤ c → c ≤ 127 → is_white_space c ≡ false
white_not c low high = grind (arith, nat_tests)

line_not : (c : ℕ) → 14 ≤ c → c ≤ 127 → is_line_terminator c ≡ false
line_not c low high = grind (arith, nat_tests)

white_is_no_start : (c : ℕ) → is_white_space c ≡ true → is_identifier_start c ≡ false
white_is_no_start c h = false_from_ne_true (is_identifier_start c) (λ s.
    let range = start_range c s in
    let bad : is_white_space c ≡ false = white_not c (omega arith) (omega arith) in cc)

-- the line terminators
pub line_cases : (c : ℕ) → is_line_terminator c ≡ true → ((c ≡ 10) ⊎ (c ≡ 13)) ⊎ ((c ≡ 8232) ⊎ (c ≡ 8233))
line_cases c h = elim (or_cases (eqb c 10 || eqb c 13 || eqb c 8232) _ h) [
  | inr a ↦ inr (inr (eqb-true c 8233 a))
  | inl b ↦ elim (or_cases (eqb c 10 || eqb c 13) _ b) [
    | inr a ↦ inr (inl (eqb-true c 8232 a))
    | inl d ↦ elim (or_cases (eqb c 10) _ d) [
      | inr a ↦ inl (inr (eqb-true c 13 a))
      | inl a ↦ inl (inl (eqb-true c 10 a))
    ]
  ]
]

pub of_lines : (f : ℕ → Bool) (v : Bool) (c : ℕ) → is_line_terminator c ≡ true → f 10 ≡ v → f 13 ≡ v → f 8232 ≡ v → f 8233 ≡ v → f c ≡ v
of_lines f v c h a b d e = elim (line_cases c h) [
  | inl x ↦ elim x [ inl y ↦ ap f y ∙ a | inr y ↦ ap f y ∙ b ]
  | inr x ↦ elim x [ inl y ↦ ap f y ∙ d | inr y ↦ ap f y ∙ e ]
]

pub white_element : (c : ℕ) (cs : List ℕ) → is_white_space c ≡ true → element (c ∷ cs) ≡ Skip 1 false
unfolding element
white_element c cs h = cond-false (is_identifier_start c) _ _ (white_is_no_start c h) ∙ cond-true (is_white_space c) _ _ h

pub line_element : (c : ℕ) (cs : List ℕ) → is_line_terminator c ≡ true → element (c ∷ cs) ≡ Skip 1 true
unfolding element
line_element c cs h =
    cond-false (is_identifier_start c) _ _ (of_lines is_identifier_start false c h refl refl refl refl)
    ∙ cond-false (is_white_space c) _ _ (of_lines is_white_space false c h refl refl refl refl) ∙ cond-true (is_line_terminator c) _ _ h

pub word_at_start : (c : ℕ) (cs : List ℕ) → is_identifier_start c ≡ true → element (c ∷ cs) ≡ word_element (c ∷ cs)
unfolding element
word_at_start c cs h = cond-true (is_identifier_start c) _ _ h

digit_range : (c : ℕ) → is_ascii_digit c ≡ true → (48 ≤ c) × (c ≤ 57)
digit_range c h = (grind (arith, nat_tests), grind (arith, nat_tests))

digit_is_no_start : (c : ℕ) → 48 ≤ c → c ≤ 57 → is_identifier_start c ≡ false
digit_is_no_start c low high = grind (arith, nat_tests)

pub number_at_digit : (c : ℕ) (cs : List ℕ) → is_ascii_digit c ≡ true → element (c ∷ cs) ≡ number_element (c ∷ cs)
unfolding element
number_at_digit c cs h =
    let range = digit_range c h in
    cond-false (is_identifier_start c) _ _ (digit_is_no_start c range.0 range.1) ∙ cond-false (is_white_space c) _ _ (white_not c (omega arith) (omega arith))
    ∙ cond-false (is_line_terminator c) _ _ (line_not c (omega arith) (omega arith)) ∙ cond-true (is_ascii_digit c) _ _ h
