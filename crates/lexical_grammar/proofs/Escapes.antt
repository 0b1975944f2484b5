-- An escape has no more characters than there are.
use Rattle.std.proofs.Common.{◌≡◌, ℕ, ◌+◌, ◌<◌, Bool, true, false, cond, ◌&&◌, List, [], ◌∷◌, suc, length, drop, refl, sym, ap, ◌∙◌, arith}
use Rattle.std.specs.Prelude.{eqb, nat_lt, not, slice_index, take}
use Rattle.std.proofs.lemmas.Bool.{eqb-true}
use Rattle.es6_lexer.specs.declared.shape.EscapeEnd.{EscapeEnd}
use Rattle.es6_lexer.specs.declared.shape.EscapeEnd.TheVariants.{Cut, Spelled, Wrong}
use Rattle.es6_lexer.specs.declared.token.LexicalKind.{LexicalKind}
use Rattle.es6_lexer.specs.Classes.{is_decimal_digit, run_of}
use Rattle.es6_lexer.specs.Quoted.{IsWithin, escape, is_hex, is_code_point, braced_escape}
use Rattle.es6_lexer.proofs.Within.{is_there, is_there_eq}

pub by_cases : {A : Type 0} (P : A → Type 0) (b : Bool) (x y : A) → (b ≡ true → P x) → (b ≡ false → P y) → P (cond b x y)
by_cases P true x y p q = p refl
by_cases P false x y p q = q refl

pub both : (a b : Bool) → (a && b) ≡ true → (a ≡ true) × (b ≡ true)
both true b h = (refl, h)
both false b h = cc

hex_there : (cs : List ℕ) (i : ℕ) → is_hex (slice_index cs i) ≡ true → i < length cs
hex_there cs i e = is_there cs i (λ z. let bad : is_hex 0 ≡ true = ap is_hex (sym z) ∙ e in cc)

braced_within : (cs : List ℕ) → IsWithin (length cs) (braced_escape cs)
unfolding braced_escape
braced_within cs =
    let n = run_of is_hex (drop 2 cs) in
    by_cases (IsWithin (length cs)) (nat_lt 0 n && is_code_point (take n (drop 2 cs)) && eqb (slice_index cs (2 + n)) 125) _ _
    (λ t. let brace = eqb-true (slice_index cs (2 + n)) 125 ((both _ _ t).1) in let l = is_there_eq cs (2 + n) 124 brace in (omega arith, omega (arith, l)))
    (λ f. tt)

pub escape_within : (cs : List ℕ) → IsWithin (length cs) (escape cs)
unfolding escape
escape_within [] = tt
escape_within (c ∷ cs) =
    let P : EscapeEnd → Type 0 = IsWithin (suc (length cs)) in
    by_cases P (is_decimal_digit c) _ _
    (λ d. by_cases P (eqb c 48 && not (is_decimal_digit (slice_index (c ∷ cs) 1))) _ _ (λ t. (omega arith, omega arith)) (λ f. tt))
    (λ d. by_cases P (eqb c 120) _ _
    (λ x. by_cases P (is_hex (slice_index (c ∷ cs) 1) && is_hex (slice_index (c ∷ cs) 2)) _ _
    (λ t. let l = hex_there (c ∷ cs) 2 ((both _ _ t).1) in (omega arith, omega (arith, l))) (λ f. tt))
    (λ x. by_cases P (eqb c 117) _ _
    (λ u. by_cases P (eqb (slice_index (c ∷ cs) 1) 123) _ _ (λ b. braced_within (c ∷ cs))
    (λ b. by_cases P (is_hex (slice_index (c ∷ cs) 1) && is_hex (slice_index (c ∷ cs) 2) && is_hex (slice_index (c ∷ cs) 3) && is_hex (slice_index (c ∷ cs) 4)) _ _
    (λ t. let l = hex_there (c ∷ cs) 4 ((both _ _ t).1) in (omega arith, omega (arith, l))) (λ f. tt)))
    (λ u. by_cases P (eqb c 13) _ _
    (λ r. by_cases P (eqb (slice_index (c ∷ cs) 1) 10) _ _
    (λ t. let l = is_there_eq (c ∷ cs) 1 9 (eqb-true (slice_index (c ∷ cs) 1) 10 t) in (omega arith, omega (arith, l))) (λ f. (omega arith, omega arith)))
    (λ r. (omega arith, omega arith)))))

spelled_not_cut : (n : ℕ) → Spelled n ≡ Cut → ⊥
spelled_not_cut n e = cc

wrong_not_cut : (kind : LexicalKind) → Wrong kind ≡ Cut → ⊥
wrong_not_cut kind e = cc

either : (b : Bool) (n : ℕ) (kind : LexicalKind) → cond b (Spelled n) (Wrong kind) ≡ Cut → ⊥
either true n kind e = cc
either false n kind e = cc

braced_not_cut : (cs : List ℕ) → braced_escape cs ≡ Cut → ⊥
unfolding braced_escape
braced_not_cut cs = either (nat_lt 0 (run_of is_hex (drop 2 cs)) && is_code_point (take (run_of is_hex (drop 2 cs)) (drop 2 cs)) && eqb (slice_index cs (2 + run_of is_hex (drop 2 cs))) 125) _ _

not_cut : (c : ℕ) (cs : List ℕ) → escape (c ∷ cs) ≡ Cut → ⊥
unfolding escape
not_cut c cs =
    let P : EscapeEnd → Type 0 = λ v. v ≡ Cut → ⊥ in
    by_cases P (is_decimal_digit c) _ _
    (λ d. either (eqb c 48 && not (is_decimal_digit (slice_index (c ∷ cs) 1))) _ _)
    (λ d. by_cases P (eqb c 120) _ _
    (λ x. either (is_hex (slice_index (c ∷ cs) 1) && is_hex (slice_index (c ∷ cs) 2)) _ _)
    (λ x. by_cases P (eqb c 117) _ _
    (λ u. by_cases P (eqb (slice_index (c ∷ cs) 1) 123) _ _ (λ b. braced_not_cut (c ∷ cs))
    (λ b. either (is_hex (slice_index (c ∷ cs) 1) && is_hex (slice_index (c ∷ cs) 2) && is_hex (slice_index (c ∷ cs) 3) && is_hex (slice_index (c ∷ cs) 4)) _ _))
    (λ u. by_cases P (eqb c 13) _ _
    (λ r. by_cases P (eqb (slice_index (c ∷ cs) 1) 10) _ _ (λ t. spelled_not_cut 2) (λ f. spelled_not_cut 1))
    (λ r. spelled_not_cut 1))))

-- only the end cuts an escape off
pub cut_is_nil : (cs : List ℕ) → escape cs ≡ Cut → cs ≡ []
cut_is_nil [] e = refl
cut_is_nil (c ∷ cs) e = absurd (not_cut c cs e)
