-- What is read behind a `\` is an escape or a line continuation.
use Rattle.std.proofs.Common.{◌≡◌, ℕ, ◌<◌, ◌≤◌, ◌⊎◌, inl, inr, Bool, true, false, ◌&&◌, List, [], ◌∷◌, ◌++◌, length, take, drop, refl, sym, subst, ◌∙◌, arith}
use Rattle.std.specs.Prelude.{eqb, nat_le, not, slice_index}
use Rattle.std.specs.List.{list_all, list_any}
use Rattle.std.specs.Char.{digit_value, is_ascii_digit, is_ascii_hexdigit}
use Rattle.std.proofs.lemmas.Bool.{eqb-true, eq-eqb, and_parts, and_from, not-true, or_left, or_right, or_from, cond-true, leb-true, le-leb}
use Rattle.std.proofs.lemmas.Bool.Decides.{nat_tests}
use Rattle.es5_ast.specs.Lexical.{StringCharacters, none, itself, single, non_escape, null_unit, hexadecimal, unicode, continuation, is_line_terminator, is_non_escape, single_escapes, units_of, hex_value, next_is}
use Rattle.es5_tokens.specs.declared.shape.Escape.{Escape}
use Rattle.es5_tokens.specs.declared.shape.Escape.TheVariants.{Cut, Wrong, Stands, Continues}
use Rattle.es5_tokens.specs.Quoted.{escape, digit_escape, hexadecimal_escape, unicode_escape, plain_escape, escaped, escaped_by}
use Rattle.es5_tokens.proofs.Prefixes.{by_cases, next_none, begins}

-- no string literal's characters begin with a line terminator
no_line : (q : ℕ) (body us : List ℕ) → StringCharacters q body us → next_is (λ c. eqb c 10) body ≡ false
no_line _ _ _ none = refl
no_line _ _ _ (itself {c} a b l s) = not_line c (is_line_terminator c) l refl where
  not_line : (c : ℕ) (b : Bool) → b ≡ false → b ≡ is_line_terminator c → eqb c 10 ≡ false
  not_line c b e f = let known : is_line_terminator c ≡ false = sym f ∙ e in grind (arith, nat_tests)
no_line _ _ _ (single e s) = refl
no_line _ _ _ (non_escape e s) = refl
no_line _ _ _ (null_unit e s) = refl
no_line _ _ _ (hexadecimal e s) = refl
no_line _ _ _ (unicode e s) = refl
no_line _ _ _ (continuation line e f s) = refl

-- The characters of an escape, with those of a literal behind them, are those of a literal.
abbrev pub IsEscape : ℕ → List ℕ → Escape → Type 0
IsEscape q cs Cut = Unit {0}
IsEscape q cs Wrong = Unit {0}
IsEscape q cs (Stands code n) = (n ≤ length cs) × ((body after us : List ℕ) → drop n cs ≡ body ++ (q ∷ after) → StringCharacters q body us → StringCharacters q (92 ∷ (take n cs ++ body)) (units_of code ++ us))
IsEscape q cs (Continues n) = (n ≤ length cs) × ((body after us : List ℕ) → drop n cs ≡ body ++ (q ∷ after) → StringCharacters q body us → StringCharacters q (92 ∷ (take n cs ++ body)) us)

pub one_unit : (code : ℕ) → code ≤ 65535 → units_of code ≡ code ∷ []
one_unit code h = cond-true (nat_le code 65535) _ _ (le-leb code 65535 h)

with_unit : (q code : ℕ) (text us : List ℕ) → code ≤ 65535 → StringCharacters q text (code ∷ us) → StringCharacters q text (units_of code ++ us)
with_unit q code text us h s = subst (λ x. StringCharacters q text (x ++ us)) (sym (one_unit code h)) s

pub hex_small : (c : ℕ) → is_ascii_hexdigit c ≡ true → digit_value c < 16
hex_small c h = grind (arith, nat_tests)

digit_is : (q : ℕ) (cs : List ℕ) → IsEscape q cs (digit_escape cs)
unfolding digit_escape
digit_is q [] = tt
digit_is q (c ∷ cs) =
    by_cases (IsEscape q (c ∷ cs)) (eqb c 48 && not (is_ascii_digit (slice_index cs 0))) _ _
    (λ t. let two = and_parts (eqb c 48) _ t in (
      omega arith,
      λ body after us e s.
          subst (λ x. StringCharacters q (92 ∷ x ∷ body) (0 ∷ us)) (sym (eqb-true c 48 two.0)) (null_unit (next_none is_ascii_digit cs body (q ∷ after) e (not-true _ two.1)) s),
    ))
    (λ f. tt)

two_digits : (cs : List ℕ) → is_ascii_hexdigit (slice_index cs 0) ≡ true → is_ascii_hexdigit (slice_index cs 1) ≡ true → (rest : List ℕ) × (cs ≡ slice_index cs 0 ∷ slice_index cs 1 ∷ rest)
two_digits [] a b = cc
two_digits (x ∷ []) a b = cc
two_digits (x ∷ y ∷ cs) a b = (cs, refl)

hexadecimal_is : (q : ℕ) (cs : List ℕ) → IsEscape q (120 ∷ cs) (hexadecimal_escape (120 ∷ cs))
unfolding hexadecimal_escape
hexadecimal_is q cs =
    let a = slice_index cs 0 in
    let b = slice_index cs 1 in
    by_cases (IsEscape q (120 ∷ cs)) (is_ascii_hexdigit a && is_ascii_hexdigit b) _ _
    (λ t. let two = and_parts (is_ascii_hexdigit a) _ t in
    let split = two_digits cs two.0 two.1 in
    let code = hex_value (a ∷ b ∷ []) in
    let small : code ≤ 65535 = omega (arith, hex_small a two.0, hex_small b two.1) in
    let digits : list_all is_ascii_hexdigit (a ∷ b ∷ []) ≡ true = and_from _ _ two.0 (and_from _ _ two.1 refl) in
    subst (λ x. IsEscape q (120 ∷ x) (Stands code 3)) (sym split.1)
    (omega arith, λ body after us e s. with_unit q code _ us small (hexadecimal digits s)))
    (λ f. tt)

four_digits : (cs : List ℕ) → is_ascii_hexdigit (slice_index cs 0) ≡ true → is_ascii_hexdigit (slice_index cs 1) ≡ true → is_ascii_hexdigit (slice_index cs 2) ≡ true → is_ascii_hexdigit (slice_index cs 3) ≡ true
    → (rest : List ℕ) × (cs ≡ slice_index cs 0 ∷ slice_index cs 1 ∷ slice_index cs 2 ∷ slice_index cs 3 ∷ rest)
four_digits [] a b c d = cc
four_digits (x ∷ []) a b c d = cc
four_digits (x ∷ y ∷ []) a b c d = cc
four_digits (x ∷ y ∷ z ∷ []) a b c d = cc
four_digits (x ∷ y ∷ z ∷ w ∷ cs) a b c d = (cs, refl)

unicode_is : (q : ℕ) (cs : List ℕ) → IsEscape q (117 ∷ cs) (unicode_escape (117 ∷ cs))
unfolding unicode_escape
unicode_is q cs =
    let a = slice_index cs 0 in
    let b = slice_index cs 1 in
    let c = slice_index cs 2 in
    let d = slice_index cs 3 in
    by_cases (IsEscape q (117 ∷ cs)) (is_ascii_hexdigit a && is_ascii_hexdigit b && is_ascii_hexdigit c && is_ascii_hexdigit d) _ _
    (λ t. let last = and_parts _ (is_ascii_hexdigit d) t in
    let third = and_parts _ (is_ascii_hexdigit c) last.0 in
    let two = and_parts (is_ascii_hexdigit a) _ third.0 in
    let split = four_digits cs two.0 two.1 third.1 last.1 in
    let code = hex_value (a ∷ b ∷ c ∷ d ∷ []) in
    let small : code ≤ 65535 = omega (arith, hex_small a two.0, hex_small b two.1, hex_small c third.1, hex_small d last.1) in
    let digits : list_all is_ascii_hexdigit (a ∷ b ∷ c ∷ d ∷ []) ≡ true = and_from _ _ two.0 (and_from _ _ two.1 (and_from _ _ third.1 (and_from _ _ last.1 refl))) in
    subst (λ x. IsEscape q (117 ∷ x) (Stands code 5)) (sym split.1)
    (omega arith, λ body after us e s. with_unit q code _ us small (unicode digits s)))
    (λ f. tt)

-- a character that is in no row stands for itself, and each row's unit is small
pub by_rows : (rows : List (ℕ × ℕ)) (c : ℕ) → list_all (λ e. nat_le e.1 65535) rows ≡ true
    → ((list_any (λ e. eqb e.0 c && eqb e.1 (escaped_by rows c)) rows ≡ true) × (escaped_by rows c ≤ 65535)) ⊎ ((list_any (λ e. eqb e.0 c) rows ≡ false) × (escaped_by rows c ≡ c))
by_rows [] c h = inr (refl, refl)
by_rows (row ∷ rows) c h =
    let two = and_parts (nat_le row.1 65535) _ h in
    by_cases
    (λ u. ((list_any (λ e. eqb e.0 c && eqb e.1 u) (row ∷ rows) ≡ true) × (u ≤ 65535)) ⊎ ((list_any (λ e. eqb e.0 c) (row ∷ rows) ≡ false) × (u ≡ c)))
    (eqb row.0 c) row.1 (escaped_by rows c)
    (λ t. inl (or_left _ _ (and_from (eqb row.0 c) _ t (eq-eqb row.1 row.1 refl)), leb-true row.1 65535 two.0))
    (λ f. elim (by_rows rows c two.1) [
      | inl here ↦ inl (or_right (eqb row.0 c && eqb row.1 (escaped_by rows c)) _ here.0, here.1)
      | inr away ↦ inr (or_from (eqb row.0 c) _ f away.0, away.1)
    ])

stands_is : (q c : ℕ) (cs : List ℕ) → is_ascii_digit c ≡ false → eqb c 120 ≡ false → eqb c 117 ≡ false → is_line_terminator c ≡ false → IsEscape q (c ∷ cs) (Stands (escaped c) 1)
stands_is q c cs d x u l = (
  omega arith,
  λ body after us e s.
      elim (by_rows single_escapes c refl) [
        | inl here ↦ with_unit q (escaped c) (92 ∷ c ∷ body) us here.1 (single here.0 s)
        | inr away ↦ (let free : is_non_escape c ≡ true = rw (away.0, d, x, u, l) refl in
            subst (λ v. StringCharacters q (92 ∷ c ∷ body) (units_of v ++ us)) (sym away.1) (non_escape free s))
      ],
)

plain_is : (q c : ℕ) (cs : List ℕ) → is_ascii_digit c ≡ false → eqb c 120 ≡ false → eqb c 117 ≡ false → IsEscape q (c ∷ cs) (plain_escape (c ∷ cs))
unfolding plain_escape
plain_is q c cs d x u =
    let P : Escape → Type 0 = IsEscape q (c ∷ cs) in
    by_cases P (eqb c 13 && eqb (slice_index cs 0) 10) _ _
    (λ t. let two = and_parts (eqb c 13) _ t in let after = begins cs 9 (eqb-true _ 10 two.1) in
    subst (λ z. IsEscape q (z ∷ cs) (Continues 2)) (sym (eqb-true c 13 two.0)) (subst (λ z. IsEscape q (13 ∷ z) (Continues 2)) (sym after.1)
    (omega arith, λ body rest us e s. continuation (13 ∷ 10 ∷ []) refl (no_line q body us s) s)))
    (λ f. by_cases P (is_line_terminator c) _ _
    (λ t. (omega arith, λ body rest us e s. continuation (c ∷ []) t (no_line q body us s) s))
    (λ l. stands_is q c cs d x u l))

pub escape_is : (q : ℕ) (cs : List ℕ) → IsEscape q cs (escape cs)
unfolding escape
escape_is q [] = tt
escape_is q (c ∷ cs) =
    let P : Escape → Type 0 = IsEscape q (c ∷ cs) in
    by_cases P (is_ascii_digit c) _ _ (λ t. digit_is q (c ∷ cs))
    (λ d. by_cases P (eqb c 120) _ _ (λ t. subst (λ z. IsEscape q (z ∷ cs) (hexadecimal_escape (z ∷ cs))) (sym (eqb-true c 120 t)) (hexadecimal_is q cs))
    (λ x. by_cases P (eqb c 117) _ _ (λ t. subst (λ z. IsEscape q (z ∷ cs) (unicode_escape (z ∷ cs))) (sym (eqb-true c 117 t)) (unicode_is q cs))
    (λ u. plain_is q c cs d x u)))
