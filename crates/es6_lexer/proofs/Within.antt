-- What is read at the front of a text ends within it.
use Rattle.std.proofs.Common.{◌≡◌, ℕ, zero, suc, ◌+◌, ◌-◌, ◌<◌, ◌≤◌, ◌⊎◌, inl, inr, Bool, true, false, cond, ◌&&◌, ◌||◌, List, [], ◌∷◌, length, take, drop, get_or, refl, sym, ap, subst, ◌∙◌, arith, length-drop}
use Rattle.std.specs.Prelude.{eqb, nat_lt, not, slice_index, Option, None, Some}
use Rattle.es6_lexer.specs.declared.token.NumberToken.{NumberToken}
use Rattle.es6_lexer.specs.declared.token.Punctuator.{Punctuator}
use Rattle.es6_lexer.specs.declared.shape.Element.{Element}
use Rattle.es6_lexer.specs.declared.shape.Element.TheVariants.{Finished, Skip, Take, Stop}
use Rattle.es6_lexer.specs.declared.shape.Shape.TheVariants.{OfPunctuator}
use Rattle.es6_lexer.specs.declared.shape.EscapeEnd.{EscapeEnd}
use Rattle.es6_lexer.specs.declared.shape.EscapeEnd.TheVariants.{Cut, Spelled, Wrong}
use Rattle.es6_lexer.specs.Classes.{is_line_terminator, is_not_line_terminator, is_identifier_start, is_identifier_part, is_white_space, is_decimal_digit, is_digit_of, is_quote, run_of, goes_on}
use Rattle.es6_lexer.specs.Punctuators.{extended, grown, longest_from, single, punctuator_element}
use Rattle.es6_lexer.specs.Numbers.{ended, prefixed, decimal, number_element, fraction_length, exponent_length, sign_end, radix_of}
use Rattle.es6_lexer.specs.Quoted.{escape, text_from, template_from, block_from, text_element, template_element, block_comment}
use Rattle.es6_lexer.specs.Elements.{IsInside, word_element, slash_element, marked_element, element}
use Rattle.es6_lexer.proofs.Runs.{run_within}
use Rattle.std.proofs.lemmas.Bool.{eqb-true, eqb-false}
use Rattle.std.proofs.lemmas.Bool.Decides.{nat_tests}
use Rattle.es6_lexer.specs.declared.token.LexicalKind.TheVariants.{OpenString, OpenTemplate}
use Rattle.es6_lexer.specs.declared.token.NumberToken.TheVariants.{Marked}

by_cond : {A : Type 0} (P : A → Type 0) (b : Bool) (x y : A) → P x → P y → P (cond b x y)
by_cond P true x y p q = p
by_cond P false x y p q = q

by_cases : {A : Type 0} (P : A → Type 0) (b : Bool) (x y : A) → (b ≡ true → P x) → (b ≡ false → P y) → P (cond b x y)
by_cases P true x y p q = p refl
by_cases P false x y p q = q refl

and_true_right : (a b : Bool) → (a && b) ≡ true → b ≡ true
and_true_right true b h = h
and_true_right false b h = cc

grown_inside : (p : Punctuator) (n : ℕ) (cs : List ℕ) → 1 ≤ n → IsInside (n + length cs) (grown p n cs)
grown_inside p n [] h = (h, omega arith)
grown_inside p n (c ∷ cs) h = elim (extended p c) as (λ o. IsInside (n + suc (length cs)) (elim o [ None ↦ Take (OfPunctuator p) n | Some q ↦ grown q (n + 1) cs ])) [
  | None ↦ (h, omega arith)
  | Some q ↦ (let e : n + suc (length cs) ≡ n + 1 + length cs = omega arith in rw e (grown_inside q (n + 1) cs (omega arith)))
]

single_inside : (o : Option Punctuator) (cs : List ℕ) → 0 < length cs → IsInside (length cs) (longest_from o cs)
single_inside None cs h = h
single_inside (Some p) cs h =
    let e : 1 + length (drop 1 cs) ≡ length cs = omega (arith, length-drop 1 cs) in
    subst (λ m. IsInside m (grown p 1 (drop 1 cs))) e (grown_inside p 1 (drop 1 cs) (omega arith))

-- a character that is not U+0000 is there
pub is_there : (cs : List ℕ) (i : ℕ) → (slice_index cs i ≡ 0 → ⊥) → i < length cs
is_there [] i h = absurd (h refl)
is_there (c ∷ cs) zero h = omega arith
is_there (c ∷ cs) (suc i) h = let ih = is_there cs i h in omega arith

pub is_there_eq : (cs : List ℕ) (i c : ℕ) → slice_index cs i ≡ suc c → i < length cs
is_there_eq cs i c e = is_there cs i (λ z. let bad : 0 ≡ suc c = sym z ∙ e in omega arith)

pub is_there_digit : (cs : List ℕ) (i : ℕ) → is_decimal_digit (slice_index cs i) ≡ true → i < length cs
is_there_digit cs i e = is_there cs i (λ z. let bad : is_decimal_digit 0 ≡ true = ap is_decimal_digit (sym z) ∙ e in cc)

punctuator_inside : (cs : List ℕ) → 0 < length cs → IsInside (length cs) (punctuator_element cs)
punctuator_inside cs h =
    by_cases (IsInside (length cs)) (eqb (slice_index cs 0) 46 && eqb (slice_index cs 1) 46 && eqb (slice_index cs 2) 46) _ _
    (λ t. let third : slice_index cs 2 ≡ 46 = grind (arith, nat_tests) in let l : 2 < length cs = is_there_eq cs 2 45 third in (omega arith, omega arith))
    (λ f. single_inside (single (slice_index cs 0)) cs h)

ended_inside : (v : NumberToken) (n : ℕ) (cs : List ℕ) → 1 ≤ n → n ≤ length cs → IsInside (length cs) (ended v n cs)
ended_inside v n cs h l = by_cond (IsInside (length cs)) (goes_on is_identifier_part (drop n cs)) _ _ (omega arith) (h, l)

prefixed_inside : (radix : ℕ) (cs : List ℕ) → 0 < length cs → IsInside (length cs) (prefixed radix cs)
unfolding prefixed
prefixed_inside radix cs h =
    let n = run_of (is_digit_of radix) (drop 2 cs) in
    let w = run_within (is_digit_of radix) (drop 2 cs) in
    by_cases (IsInside (length cs)) (eqb n 0) _ _ (λ t. h)
    (λ f. let some : n ≡ 0 → ⊥ = eqb-false n 0 f in ended_inside _ (2 + n) cs (omega arith) (omega (arith, w, length-drop 2 cs)))

fraction_inside : (cs : List ℕ) → fraction_length cs ≤ length cs
fraction_inside cs =
    by_cases (λ k. k ≤ length cs) (eqb (slice_index cs 0) 46) _ _
    (λ t. let l : 0 < length cs = is_there_eq cs 0 45 (eqb-true (slice_index cs 0) 46 t) in omega (arith, run_within (is_digit_of 10) (drop 1 cs), length-drop 1 cs))
    (λ f. omega arith)

exponent_inside : (cs : List ℕ) → exponent_length cs ≤ length cs
unfolding exponent_length
exponent_inside cs =
    by_cond (λ k. k ≤ length cs) (not (eqb (slice_index cs 0) 101) && not (eqb (slice_index cs 0) 69)) _ _ (omega arith)
    (by_cases (λ k. k ≤ length cs) (is_decimal_digit (slice_index cs (sign_end cs))) _ _
    (λ t. let l = is_there_digit cs (sign_end cs) t in omega (arith, l, run_within (is_digit_of 10) (drop (sign_end cs) cs), length-drop (sign_end cs) cs))
    (λ f. omega arith))

-- what a number begins with
abbrev pub BeginsNumber : List ℕ → Type 0
BeginsNumber cs = (is_decimal_digit (slice_index cs 0) ≡ true) ⊎ ((slice_index cs 0 ≡ 46) × (is_decimal_digit (slice_index cs 1) ≡ true))

pub decimal_digit : (c : ℕ) → is_decimal_digit c ≡ true → is_digit_of 10 c ≡ true
decimal_digit c h = let l : c ≤ 57 = grind (arith, nat_tests) in rw h (grind (arith, nat_tests))

run_first : (p : ℕ → Bool) (cs : List ℕ) → 0 < length cs → p (slice_index cs 0) ≡ true → 1 ≤ run_of p cs
run_first p [] h e = absurd (omega arith)
run_first p (c ∷ cs) h e = rw e (omega arith)

run_none : (p : ℕ → Bool) (cs : List ℕ) → p (slice_index cs 0) ≡ false → run_of p cs ≡ 0
run_none p [] e = refl
run_none p (c ∷ cs) e = rw e refl

number_has : (cs : List ℕ) → BeginsNumber cs → 1 ≤ run_of (is_digit_of 10) cs + fraction_length (drop (run_of (is_digit_of 10) cs) cs)
number_has cs (inl d) = omega (arith, run_first (is_digit_of 10) cs (is_there_digit cs 0 d) (decimal_digit (slice_index cs 0) d))
number_has cs (inr d) =
    let point : is_digit_of 10 (slice_index cs 0) ≡ false = rw d.0 refl in
    let none = run_none (is_digit_of 10) cs point in
    rw none (rw d.0 (omega arith))

decimal_inside : (cs : List ℕ) → BeginsNumber cs → 0 < length cs → IsInside (length cs) (decimal cs)
unfolding decimal
decimal_inside cs begins h =
    let n = run_of (is_digit_of 10) cs in
    let m = n + fraction_length (drop n cs) in
    let e = m + exponent_length (drop m cs) in
    let w : n ≤ length cs = run_within (is_digit_of 10) cs in
    let f : m ≤ length cs = omega (arith, w, fraction_inside (drop n cs), length-drop n cs) in
    let x : e ≤ length cs = omega (arith, f, exponent_inside (drop m cs), length-drop m cs) in
    let some : 1 ≤ m = number_has cs begins in
    by_cond (IsInside (length cs)) (eqb (slice_index cs 0) 48 && nat_lt 1 n) _ _ h
    (by_cases (IsInside (length cs)) (eqb e n) _ _
    (λ t. let same : e ≡ n = eqb-true e n t in ended_inside _ n cs (omega (arith, some)) w)
    (λ f. ended_inside Marked e cs (omega (arith, some)) x))

pub number_inside : (cs : List ℕ) → BeginsNumber cs → 0 < length cs → IsInside (length cs) (number_element cs)
number_inside cs begins h = by_cond (IsInside (length cs)) (eqb (radix_of cs) 10) _ _ (decimal_inside cs begins h) (prefixed_inside (radix_of cs) cs h)

-- an element from index i on, with a fault at 0 or from i on
abbrev pub IsFrom : ℕ → ℕ → Element → Type 0
IsFrom i m Finished = Unit {0}
IsFrom i m (Skip n line) = (i < n) × (n ≤ m)
IsFrom i m (Take shape n) = (i < n) × (n ≤ m)
IsFrom i m (Stop kind at) = at < m

from_later : (i m : ℕ) (e : Element) → IsFrom (i + 1) m e → IsFrom i m e
from_later i m Finished h = tt
from_later i m (Skip n line) h = (omega arith, omega arith)
from_later i m (Take shape n) h = (omega arith, omega arith)
from_later i m (Stop kind at) h = h

from_inside : (i m : ℕ) (e : Element) → IsFrom i m e → IsInside m e
from_inside i m Finished h = tt
from_inside i m (Skip n line) h = (omega arith, omega arith)
from_inside i m (Take shape n) h = (omega arith, omega arith)
from_inside i m (Stop kind at) h = h

text_inside : (q k i : ℕ) (cs : List ℕ) → 1 ≤ i → IsFrom i (i + length cs) (text_from q k i cs)
unfolding text_from
text_inside q k i [] h = omega arith
text_inside q (suc k) i (c ∷ cs) h =
    let e : i + 1 + length cs ≡ i + suc (length cs) = omega arith in
    from_later i _ _ (subst (λ m. IsFrom (i + 1) m (text_from q k (i + 1) cs)) e (text_inside q k (i + 1) cs (omega arith)))
text_inside q zero i (c ∷ cs) h =
    let e : i + 1 + length cs ≡ i + suc (length cs) = omega arith in
    let P : Element → Type 0 = IsFrom i (i + suc (length cs)) in
    by_cond P (eqb c q) _ _ (omega arith, omega arith)
    (by_cond P (eqb c 92) _ _
    (elim (escape cs) as (λ v. P (elim v [ Cut ↦ Stop OpenString 0 | Wrong kind ↦ Stop kind i | Spelled n ↦ text_from q n (i + 1) cs ])) [
      | Cut ↦ omega arith
      | Wrong kind ↦ omega arith
      | Spelled n ↦ from_later i _ _ (subst (λ m. IsFrom (i + 1) m (text_from q n (i + 1) cs)) e (text_inside q n (i + 1) cs (omega arith)))
    ])
    (by_cond P (is_line_terminator c) _ _ (omega arith)
    (from_later i _ _ (subst (λ m. IsFrom (i + 1) m (text_from q 0 (i + 1) cs)) e (text_inside q 0 (i + 1) cs (omega arith))))))

template_inside : (k i : ℕ) (cs : List ℕ) → 1 ≤ i → IsFrom i (i + length cs) (template_from k i cs)
unfolding template_from
template_inside k i [] h = omega arith
template_inside (suc k) i (c ∷ cs) h =
    let e : i + 1 + length cs ≡ i + suc (length cs) = omega arith in
    from_later i _ _ (subst (λ m. IsFrom (i + 1) m (template_from k (i + 1) cs)) e (template_inside k (i + 1) cs (omega arith)))
template_inside zero i (c ∷ cs) h =
    let e : i + 1 + length cs ≡ i + suc (length cs) = omega arith in
    let P : Element → Type 0 = IsFrom i (i + suc (length cs)) in
    by_cond P (eqb c 96) _ _ (omega arith, omega arith)
    (by_cond P (eqb c 92) _ _
    (elim (escape cs) as (λ v. P (elim v [ Cut ↦ Stop OpenTemplate 0 | Wrong kind ↦ Stop kind i | Spelled n ↦ template_from n (i + 1) cs ])) [
      | Cut ↦ omega arith
      | Wrong kind ↦ omega arith
      | Spelled n ↦ from_later i _ _ (subst (λ m. IsFrom (i + 1) m (template_from n (i + 1) cs)) e (template_inside n (i + 1) cs (omega arith)))
    ])
    (by_cases P (eqb c 36 && eqb (slice_index cs 0) 123) _ _
    (λ t. let brace : slice_index cs 0 ≡ 123 = grind (arith, nat_tests) in let l : 0 < length cs = is_there_eq cs 0 122 brace in (omega arith, omega arith))
    (λ f. from_later i _ _ (subst (λ m. IsFrom (i + 1) m (template_from 0 (i + 1) cs)) e (template_inside 0 (i + 1) cs (omega arith))))))

block_inside : (i : ℕ) (nl : Bool) (cs : List ℕ) → 1 ≤ i → IsFrom i (i + length cs) (block_from i nl cs)
unfolding block_from
block_inside i nl [] h = omega arith
block_inside i nl (c ∷ cs) h =
    let e : i + 1 + length cs ≡ i + suc (length cs) = omega arith in
    let P : Element → Type 0 = IsFrom i (i + suc (length cs)) in
    by_cases P (eqb c 42 && eqb (slice_index cs 0) 47) _ _
    (λ t. let slash : slice_index cs 0 ≡ 47 = grind (arith, nat_tests) in let l : 0 < length cs = is_there_eq cs 0 46 slash in (omega arith, omega arith))
    (λ f. from_later i _ _ (subst (λ m. IsFrom (i + 1) m (block_from (i + 1) (nl || is_line_terminator c) cs)) e (block_inside (i + 1) (nl || is_line_terminator c) cs (omega arith))))

from_whole : (i : ℕ) (cs : List ℕ) (e : Element) → i ≤ length cs → IsFrom i (i + length (drop i cs)) e → IsInside (length cs) e
from_whole i cs e h p = let l : i + length (drop i cs) ≡ length cs = omega (arith, length-drop i cs) in from_inside i _ e (subst (λ m. IsFrom i m e) l p)

slash_inside : (cs : List ℕ) → 0 < length cs → IsInside (length cs) (slash_element cs)
slash_inside cs h =
    by_cond (IsInside (length cs)) (eqb (slice_index cs 1) 47) _ _ (omega arith, omega (arith, run_within is_not_line_terminator (drop 1 cs), length-drop 1 cs))
    (by_cases (IsInside (length cs)) (eqb (slice_index cs 1) 42) _ _
    (λ t. let l : 1 < length cs = is_there_eq cs 1 41 (eqb-true (slice_index cs 1) 42 t) in from_whole 2 cs _ (omega arith) (block_inside 2 false (drop 2 cs) (omega arith)))
    (λ f. punctuator_inside cs h))

marked_inside : (b : Bool) (cs : List ℕ) → 0 < length cs → IsInside (length cs) (marked_element b cs)
unfolding marked_element
marked_inside b cs h =
    let c = slice_index cs 0 in
    by_cond (IsInside (length cs)) (eqb c 96 || (b && eqb c 125)) _ _ (from_whole 1 cs _ h (template_inside 0 1 (drop 1 cs) (omega arith)))
    (by_cond (IsInside (length cs)) (eqb c 92) _ _ h
    (by_cond (IsInside (length cs)) (eqb c 47) _ _ (slash_inside cs h)
    (by_cases (IsInside (length cs)) (eqb c 46 && is_decimal_digit (slice_index cs 1)) _ _
    (λ t. let point : c ≡ 46 = grind (arith, nat_tests) in let digit : is_decimal_digit (slice_index cs 1) ≡ true = and_true_right (eqb c 46) _ t in number_inside cs (inr (point, digit)) h)
    (λ f. punctuator_inside cs h))))

word_inside : (cs : List ℕ) → 0 < length cs → IsInside (length cs) (word_element cs)
word_inside cs h =
    let n = 1 + run_of is_identifier_part (drop 1 cs) in
    let w : n ≤ length cs = omega (arith, run_within is_identifier_part (drop 1 cs), length-drop 1 cs) in
    by_cases (IsInside (length cs)) (eqb (slice_index cs n) 92) _ _ (λ t. is_there_eq cs n 91 (eqb-true (slice_index cs n) 92 t)) (λ f. (omega arith, w))

-- what stands at the front ends within the text
pub element_inside : (b : Bool) (cs : List ℕ) → IsInside (length cs) (element b cs)
unfolding element
element_inside b [] = tt
element_inside b (c ∷ cs) =
    let P : Element → Type 0 = IsInside (suc (length cs)) in
    let h : 0 < length (c ∷ cs) = omega arith in
    by_cond P (is_identifier_start c) _ _ (word_inside (c ∷ cs) h)
    (by_cond P (is_white_space c) _ _ (omega arith, omega arith)
    (by_cond P (is_line_terminator c) _ _ (omega arith, omega arith)
    (by_cases P (is_decimal_digit c) _ _ (λ t. number_inside (c ∷ cs) (inl t) h)
    (λ f. by_cond P (is_quote c) _ _ (from_whole 1 (c ∷ cs) _ h (text_inside c 0 1 cs (omega arith))) (marked_inside b (c ∷ cs) h)))))

pub element_nil : (b : Bool) (cs : List ℕ) → length cs ≡ 0 → Finished ≡ element b cs
unfolding element
element_nil b [] h = refl
element_nil b (c ∷ cs) h = absurd (omega arith)
