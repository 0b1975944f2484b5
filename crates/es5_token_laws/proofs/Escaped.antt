-- Escapes and line continuations are read as they are spelled.
use Rattle.std.proofs.Common.{◌≡◌, ℕ, inl, inr, true, false, ◌&&◌, List, [], ◌∷◌, ◌++◌, length, refl, ap, subst, ◌∙◌, arith}
use Rattle.std.specs.Prelude.{eqb, not, slice_index}
use Rattle.std.specs.List.{list_all, list_any}
use Rattle.std.specs.Char.{is_ascii_digit, is_ascii_hexdigit}
use Rattle.std.proofs.lemmas.Bool.{and_parts, and_from, and_left, and_right, or_cases, or_left, or_right, not-true, not_from_false, cond-true, cond-false, eqb-true}
use Rattle.std.proofs.lemmas.Bool.Decides.{nat_tests}
use Rattle.es5_ast.specs.Lexical.{is_line_terminator, is_line_terminator_sequence, is_single_escape, is_non_escape, single_escapes, units_of, hex_value}
use Rattle.es5_tokens.specs.declared.shape.Escape.TheVariants.{Stands, Continues}
use Rattle.es5_tokens.specs.Quoted.{escape, digit_escape, hexadecimal_escape, unicode_escape, plain_escape, escaped}
use Rattle.es5_tokens.proofs.Escapes.{by_rows}
use Rattle.es5_token_laws.proofs.Characters.{of_lines}

-- what a row says, each row says
abbrev EachRow : (ℕ → ℕ → Type 0) → List (ℕ × ℕ) → Type 0
EachRow P [] = Unit {0}
EachRow P (row ∷ rows) = P row.0 row.1 × EachRow P rows

of_row : (P : ℕ → ℕ → Type 0) (rows : List (ℕ × ℕ)) (c u : ℕ) → EachRow P rows → list_any (λ e. eqb e.0 c && eqb e.1 u) rows ≡ true → P c u
of_row P [] c u each h = cc
of_row P (row ∷ rows) c u each h = elim (or_cases (eqb row.0 c && eqb row.1 u) _ h) [
  | inl here ↦ (let two = and_parts (eqb row.0 c) _ here in
      subst (λ y. P c y) (eqb-true row.1 u two.1) (subst (λ x. P x row.1) (eqb-true row.0 c two.0) each.0))
  | inr there ↦ of_row P rows c u each.1 there
]

abbrev IsReadAs : ℕ → ℕ → Type 0
IsReadAs c u = ((cs : List ℕ) → escape (c ∷ cs) ≡ Stands u 1) × (units_of u ≡ u ∷ [])

each_single : EachRow IsReadAs single_escapes
unfolding escape plain_escape
each_single = ((λ cs. refl, refl), ((λ cs. refl, refl), ((λ cs. refl, refl), ((λ cs. refl, refl), ((λ cs. refl, refl), ((λ cs. refl, refl), ((λ cs. refl, refl), ((λ cs. refl, refl), ((λ cs. refl, refl), tt)))))))))

pub single_escape : (c u : ℕ) (cs : List ℕ) → is_single_escape c u ≡ true → (escape (c ∷ cs) ≡ Stands u 1) × (units_of u ≡ u ∷ [])
single_escape c u cs h = let row = of_row IsReadAs single_escapes c u each_single h in (row.0 cs, row.1)

escaped_itself : (c : ℕ) → list_any (λ e. eqb e.0 c) single_escapes ≡ false → escaped c ≡ c
escaped_itself c h = elim (by_rows single_escapes c refl) [
  | inl here ↦ (let bad = weaker single_escapes c (escaped c) here.0 in absurd (cc))
  | inr away ↦ away.1
] where
  weaker : (rows : List (ℕ × ℕ)) (c u : ℕ) → list_any (λ e. eqb e.0 c && eqb e.1 u) rows ≡ true → list_any (λ e. eqb e.0 c) rows ≡ true
  weaker [] c u h = h
  weaker (row ∷ rows) c u h = elim (or_cases (eqb row.0 c && eqb row.1 u) _ h) [
    | inl here ↦ or_left _ _ (and_parts (eqb row.0 c) _ here).0
    | inr there ↦ or_right (eqb row.0 c) _ (weaker rows c u there)
  ]

not_return : (c : ℕ) → is_line_terminator c ≡ false → eqb c 13 ≡ false
not_return c h = grind (arith, nat_tests)

pub non_escape : (c : ℕ) (cs : List ℕ) → is_non_escape c ≡ true → escape (c ∷ cs) ≡ Stands c 1
unfolding escape plain_escape
non_escape c cs h =
    let four = and_parts _ (not (is_line_terminator c)) h in
    let three = and_parts _ (not (eqb c 117)) four.0 in
    let two = and_parts _ (not (eqb c 120)) three.0 in
    let one = and_parts (not (list_any (λ e. eqb e.0 c) single_escapes)) (not (is_ascii_digit c)) two.0 in
    let line = not-true (is_line_terminator c) four.1 in
    cond-false (is_ascii_digit c) _ _ (not-true _ one.1) ∙ cond-false (eqb c 120) _ _ (not-true _ two.1) ∙ cond-false (eqb c 117) _ _ (not-true _ three.1)
    ∙ cond-false (eqb c 13 && eqb (slice_index cs 0) 10) _ _ (and_left (eqb c 13) (eqb (slice_index cs 0) 10) (not_return c line)) ∙ cond-false (is_line_terminator c) _ _ line
    ∙ ap (λ u. Stands u 1) (escaped_itself c (not-true _ one.0))

pub null_escape : (cs : List ℕ) → is_ascii_digit (slice_index cs 0) ≡ false → escape (48 ∷ cs) ≡ Stands 0 1
unfolding escape digit_escape
null_escape cs h = cond-true (not (is_ascii_digit (slice_index cs 0))) _ _ (not_from_false _ h)

pub two_digits : (a b : ℕ) (cs : List ℕ) → list_all is_ascii_hexdigit (a ∷ b ∷ []) ≡ true → escape (120 ∷ a ∷ b ∷ cs) ≡ Stands (hex_value (a ∷ b ∷ [])) 3
unfolding escape hexadecimal_escape
two_digits a b cs h =
    let first = and_parts (is_ascii_hexdigit a) _ h in
    let second = and_parts (is_ascii_hexdigit b) _ first.1 in
    cond-true (is_ascii_hexdigit a && is_ascii_hexdigit b) _ _ (and_from _ _ first.0 second.0)

pub four_digits : (a b c d : ℕ) (cs : List ℕ) → list_all is_ascii_hexdigit (a ∷ b ∷ c ∷ d ∷ []) ≡ true → escape (117 ∷ a ∷ b ∷ c ∷ d ∷ cs) ≡ Stands (hex_value (a ∷ b ∷ c ∷ d ∷ [])) 5
unfolding escape unicode_escape
four_digits a b c d cs h =
    let first = and_parts (is_ascii_hexdigit a) _ h in
    let second = and_parts (is_ascii_hexdigit b) _ first.1 in
    let third = and_parts (is_ascii_hexdigit c) _ second.1 in
    let fourth = and_parts (is_ascii_hexdigit d) _ third.1 in
    cond-true (is_ascii_hexdigit a && is_ascii_hexdigit b && is_ascii_hexdigit c && is_ascii_hexdigit d) _ _ (and_from _ _ (and_from _ _ (and_from _ _ first.0 second.0) third.0) fourth.0)

one_line : (c : ℕ) (cs : List ℕ) → is_line_terminator c ≡ true → eqb (slice_index cs 0) 10 ≡ false → escape (c ∷ cs) ≡ Continues 1
unfolding escape plain_escape
one_line c cs h next =
    cond-false (is_ascii_digit c) _ _ (of_lines is_ascii_digit false c h refl refl refl refl) ∙ cond-false (eqb c 120) _ _ (of_lines (λ x. eqb x 120) false c h refl refl refl refl)
    ∙ cond-false (eqb c 117) _ _ (of_lines (λ x. eqb x 117) false c h refl refl refl refl) ∙ cond-false (eqb c 13 && eqb (slice_index cs 0) 10) _ _ (and_right (eqb c 13) (eqb (slice_index cs 0) 10) next)
    ∙ cond-true (is_line_terminator c) _ _ h

two_lines : (cs : List ℕ) → escape (13 ∷ 10 ∷ cs) ≡ Continues 2
unfolding escape plain_escape
two_lines cs = refl

pub line_escape : (line cs : List ℕ) → is_line_terminator_sequence line ≡ true → eqb (slice_index cs 0) 10 ≡ false → escape (line ++ cs) ≡ Continues (length line)
line_escape [] cs h next = cc
line_escape (c ∷ []) cs h next = one_line c cs h next
line_escape (c ∷ d ∷ []) cs h next =
    let two = and_parts (eqb c 13) _ h in
    ap (λ x. escape (x ∷ d ∷ cs)) (eqb-true c 13 two.0) ∙ ap (λ x. escape (13 ∷ x ∷ cs)) (eqb-true d 10 two.1) ∙ two_lines cs
line_escape (c ∷ d ∷ e ∷ line) cs h next = cc
