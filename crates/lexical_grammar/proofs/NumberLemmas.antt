-- What is read where a number begins.
use Rattle.std.proofs.Common.{◌≡◌, ℕ, suc, ◌+◌, ◌-◌, ◌<◌, ◌≤◌, ◌⊎◌, inl, inr, Bool, true, false, cond, ◌&&◌, ◌||◌, List, [], ◌∷◌, ◌++◌, length, take, drop, refl, sym, ap, subst, ◌∙◌, arith, eq-eqb}
use Rattle.std.specs.Prelude.{eqb, nat_lt, nat_le, not, slice_index}
use Rattle.std.proofs.lemmas.Bool.Decides.{nat_tests}
use Rattle.std.specs.List.{list_all}
use Rattle.std.proofs.lemmas.Bool.{or_cases, cond-true, cond-false, cases_eq, not-false, eqb-true, eqb-false}
use Rattle.std.proofs.lemmas.List.{take-append-drop, length-take-le, take_at, drop_at, drop-drop}
use Rattle.es6_lexer.specs.declared.token.NumberToken.{NumberToken}
use Rattle.es6_lexer.specs.declared.token.NumberToken.TheVariants.{Marked}
use Rattle.es6_lexer.specs.declared.token.LexicalKind.TheVariants.{LegacyOctal, BadNumber}
use Rattle.es6_lexer.specs.declared.shape.Element.{Element}
use Rattle.es6_lexer.specs.declared.shape.Element.TheVariants.{Take, Stop}
use Rattle.es6_lexer.specs.declared.shape.Shape.TheVariants.{OfNumber}
use Rattle.es6_lexer.specs.Classes.{is_decimal_digit, is_digit_of, is_identifier_part, run_of, goes_on}
use Rattle.es6_lexer.specs.Numbers.{digits_value, whole, ended, prefixed, decimal, number_element, fraction_length, exponent_length, sign_end, radix_of}
use Rattle.es6_lexer.proofs.Runs.{run_within}
use Rattle.es6_lexer.proofs.Within.{decimal_digit, is_there_digit}
use Rattle.lexical_grammar.specs.Literals.{AreAllDigits, IsFraction, IsSign, IsExponent, IsPrefix, IsDecimal, IsPrefixed, IsNumber, ended_by, decimal_value}
use Rattle.lexical_grammar.proofs.Escapes.{by_cases, both}
use Rattle.lexical_grammar.proofs.WordLemmas.{run_passes, run_ends, begins}
use Rattle.lexical_grammar.proofs.WordOnly.{run_only}
use Rattle.lexical_grammar.proofs.TextOnly.{is_ne}

run_first : (p : ℕ → Bool) (cs : List ℕ) → 0 < length cs → p (slice_index cs 0) ≡ true → 1 ≤ run_of p cs
run_first p [] h e = absurd (omega arith)
run_first p (c ∷ cs) h e = rw e (omega arith)

digits_least : (cs : List ℕ) → is_decimal_digit (slice_index cs 0) ≡ true → 1 ≤ length (take (run_of (is_digit_of 10) cs) cs)
digits_least cs d =
    let some = run_first (is_digit_of 10) cs (is_there_digit cs 0 d) (decimal_digit (slice_index cs 0) d) in
    omega (arith, some, length-take-le (run_of (is_digit_of 10) cs) cs (run_within (is_digit_of 10) cs))

letter : (c : ℕ) → (not (eqb c 101) && not (eqb c 69)) ≡ false → (c ≡ 101) ⊎ (c ≡ 69)
letter c f = from (eqb c 101) (eqb c 69) refl refl f where
  from : (a b : Bool) → eqb c 101 ≡ a → eqb c 69 ≡ b → (not a && not b) ≡ false → (c ≡ 101) ⊎ (c ≡ 69)
  from true b p q g = inl (eqb-true c 101 p)
  from false true p q g = inr (eqb-true c 69 q)
  from false false p q g = cc

not_zero : (radix : ℕ) → IsPrefix radix 0 → ⊥
not_zero radix (inl (r, inl e)) = omega arith
not_zero radix (inl (r, inr e)) = omega arith
not_zero radix (inr (inl (r, inl e))) = omega arith
not_zero radix (inr (inl (r, inr e))) = omega arith
not_zero radix (inr (inr (r, inl e))) = omega arith
not_zero radix (inr (inr (r, inr e))) = omega arith

letters : (a b : ℕ) (c : ℕ) → (eqb c a || eqb c b) ≡ true → (c ≡ a) ⊎ (c ≡ b)
letters a b c t = elim (or_cases (eqb c a) (eqb c b) t) [ inl x ↦ inl (eqb-true c a x) | inr y ↦ inr (eqb-true c b y) ]

prefix_tests : (cs : List ℕ) → eqb (radix_of cs) 10 ≡ false → (slice_index cs 0 ≡ 48) × IsPrefix (radix_of cs) (slice_index cs 1)
prefix_tests cs f =
    let c = slice_index cs 1 in
    let Q : ℕ → Type 0 = λ r. eqb r 10 ≡ false → (slice_index cs 0 ≡ 48) × IsPrefix r c in
    by_cases Q (not (eqb (slice_index cs 0) 48)) _ _ (λ t. λ g. cc)
    (λ z. let zero_first : slice_index cs 0 ≡ 48 = eqb-true (slice_index cs 0) 48 (not-false (eqb (slice_index cs 0) 48) z) in
    by_cases Q (eqb c 120 || eqb c 88) _ _ (λ t. λ g. (zero_first, inl (refl, letters 120 88 c t)))
    (λ a. by_cases Q (eqb c 111 || eqb c 79) _ _ (λ t. λ g. (zero_first, inr (inl (refl, letters 111 79 c t))))
    (λ b. by_cases Q (eqb c 98 || eqb c 66) _ _ (λ t. λ g. (zero_first, inr (inr (refl, letters 98 66 c t))))
    (λ d. λ g. cc)))) f

prefix_is : (cs : List ℕ) → eqb (radix_of cs) 10 ≡ false → (mark : ℕ) × (after : List ℕ) × (cs ≡ 48 ∷ mark ∷ after) × IsPrefix (radix_of cs) mark
prefix_is [] f = absurd (let t = prefix_tests [] f in let z : 0 ≡ 48 = t.0 in omega arith)
prefix_is (c ∷ []) f = absurd (not_zero _ ((prefix_tests (c ∷ []) f).1))
prefix_is (c ∷ mark ∷ after) f = let t = prefix_tests (c ∷ mark ∷ after) f in (mark, after, ap (λ x. x ∷ mark ∷ after) t.0, t.1)

-- a fraction has its own length
fraction_len : (fs after : List ℕ) → IsFraction fs after → fraction_length (fs ++ after) ≡ length fs
fraction_len fs after (inl none) =
    ap (λ x. fraction_length (x ++ after)) none.0 ∙ cond-false (eqb (slice_index after 0) 46) _ _ (is_ne _ 46 none.1) ∙ ap length (sym none.0)
fraction_len fs after (inr (ds, is, all)) =
    let one : 1 + length ds ≡ suc (length ds) = omega arith in
    ap (λ x. fraction_length (x ++ after)) is ∙ ap (λ n. 1 + n) (run_only (is_digit_of 10) ds after all.0 all.1) ∙ one ∙ ap length (sym is)

fraction_there : (cs : List ℕ) → IsFraction (take (fraction_length cs) cs) (drop (fraction_length cs) cs)
fraction_there cs =
    by_cases (λ n. IsFraction (take n cs) (drop n cs)) (eqb (slice_index cs 0) 46) _ _
    (λ t. let b = begins cs 45 (eqb-true (slice_index cs 0) 46 t) in let n = run_of (is_digit_of 10) b.0 in let one : 1 + n ≡ suc n = omega arith in
    subst (λ x. IsFraction (take (1 + run_of (is_digit_of 10) (drop 1 x)) x) (drop (1 + run_of (is_digit_of 10) (drop 1 x)) x)) (sym b.1)
    (rw one (inr (take n b.0, refl, (run_passes (is_digit_of 10) b.0, run_ends (is_digit_of 10) b.0)))))
    (λ f. inl (refl, λ e. eqb-false (slice_index cs 0) 46 f e))

by_digit : (a b c : Bool) (x y z : ℕ) → nat_lt (cond a x (cond b y (cond c z 16))) 10 ≡ true → (b ≡ true → nat_lt y 10 ≡ false) → (c ≡ true → nat_lt z 10 ≡ false) → a ≡ true
by_digit true b c x y z h f g = refl
by_digit false true c x y z h f g = let no_digit = f refl in cc
by_digit false false true x y z h f g = let no_digit = g refl in cc
by_digit false false false x y z h f g = cc

ten_digit : (c : ℕ) → is_digit_of 10 c ≡ true → is_decimal_digit c ≡ true
ten_digit c h = by_digit (nat_le 48 c && nat_le c 57) (nat_le 97 c && nat_le c 102) (nat_le 65 c && nat_le c 70) (c - 48) (c - 97 + 10) (c - 65 + 10) h
    (λ t. grind (arith, nat_tests)) (λ t. grind (arith, nat_tests))

first_digit : (ds after : List ℕ) → 1 ≤ length ds → list_all (is_digit_of 10) ds ≡ true → is_decimal_digit (slice_index (ds ++ after) 0) ≡ true
first_digit [] after h all = absurd (omega arith)
first_digit (d ∷ ds) after h all = ten_digit d ((both _ _ all).0)

mark_test : (c : ℕ) → (c ≡ 101) ⊎ (c ≡ 69) → (not (eqb c 101) && not (eqb c 69)) ≡ false
mark_test c (inl a) = ap (λ x. not (eqb x 101) && not (eqb x 69)) a
mark_test c (inr b) = ap (λ x. not (eqb x 101) && not (eqb x 69)) b

digit_is_no_sign : (c : ℕ) → is_decimal_digit c ≡ true → (eqb c 43 || eqb c 45) ≡ false
digit_is_no_sign c d = let low : 48 ≤ c = grind (arith, nat_tests) in
    let a : eqb c 43 ≡ false = is_ne c 43 (λ e. omega arith) in let b : eqb c 45 ≡ false = is_ne c 45 (λ e. omega arith) in rw (a, b) refl

exponent_at : (cs : List ℕ) (k : ℕ) → (not (eqb (slice_index cs 0) 101) && not (eqb (slice_index cs 0) 69)) ≡ false → sign_end cs ≡ k → is_decimal_digit (slice_index cs k) ≡ true
    → exponent_length cs ≡ k + run_of (is_digit_of 10) (drop k cs)
unfolding exponent_length
exponent_at cs k m e d =
    cond-false _ _ _ m ∙ ap (λ j. cond (is_decimal_digit (slice_index cs j)) (j + run_of (is_digit_of 10) (drop j cs)) 0) e ∙ cond-true _ _ _ d

plain_end : (mark : ℕ) (cs : List ℕ) → is_decimal_digit (slice_index cs 0) ≡ true → sign_end (mark ∷ cs) ≡ 1
plain_end mark cs d = cond-false _ _ _ (digit_is_no_sign (slice_index cs 0) d)

signed_end : (mark s : ℕ) (cs : List ℕ) → (s ≡ 43) ⊎ (s ≡ 45) → sign_end (mark ∷ s ∷ cs) ≡ 2
signed_end mark s cs (inl a) = cond-true _ _ _ (ap (λ x. eqb x 43 || eqb x 45) a)
signed_end mark s cs (inr b) = cond-true _ _ _ (ap (λ x. eqb x 43 || eqb x 45) b)

with_sign : (mark s : ℕ) (ds after : List ℕ) → (mark ≡ 101) ⊎ (mark ≡ 69) → (s ≡ 43) ⊎ (s ≡ 45) → 1 ≤ length ds → AreAllDigits 10 ds after → exponent_length (mark ∷ s ∷ (ds ++ after)) ≡ suc (suc (length ds))
with_sign mark s ds after m sg least all =
    let two : 2 + length ds ≡ suc (suc (length ds)) = omega arith in
    exponent_at (mark ∷ s ∷ (ds ++ after)) 2 (mark_test mark m) (signed_end mark s (ds ++ after) sg) (first_digit ds after least all.0)
    ∙ ap (λ n. 2 + n) (run_only (is_digit_of 10) ds after all.0 all.1) ∙ two

exponent_len : (es after : List ℕ) → IsExponent es after → exponent_length (es ++ after) ≡ length es
exponent_len es after (inl none) = ap (λ x. exponent_length (x ++ after)) none.0 ∙ none.1 ∙ ap length (sym none.0)
exponent_len es after (inr (mark, sign, ds, is, m, inl no_sign, least, all)) =
    let one : 1 + length ds ≡ suc (length ds) = omega arith in
    let shape = is ∙ ap (λ x. mark ∷ (x ++ ds)) no_sign in
    ap (λ x. exponent_length (x ++ after)) shape
    ∙ exponent_at (mark ∷ (ds ++ after)) 1 (mark_test mark m) (plain_end mark (ds ++ after) (first_digit ds after least all.0)) (first_digit ds after least all.0)
    ∙ ap (λ n. 1 + n) (run_only (is_digit_of 10) ds after all.0 all.1) ∙ one ∙ ap length (sym shape)
exponent_len es after (inr (mark, sign, ds, is, m, inr (inl plus), least, all)) =
    let shape = is ∙ ap (λ x. mark ∷ (x ++ ds)) plus in
    ap (λ x. exponent_length (x ++ after)) shape ∙ with_sign mark 43 ds after m (inl refl) least all ∙ ap length (sym shape)
exponent_len es after (inr (mark, sign, ds, is, m, inr (inr minus), least, all)) =
    let shape = is ∙ ap (λ x. mark ∷ (x ++ ds)) minus in
    ap (λ x. exponent_length (x ++ after)) shape ∙ with_sign mark 45 ds after m (inr refl) least all ∙ ap length (sym shape)

plain_there : (mark : ℕ) (rest : List ℕ) → (mark ≡ 101) ⊎ (mark ≡ 69) → is_decimal_digit (slice_index rest 0) ≡ true
    → let n = 1 + run_of (is_digit_of 10) rest in IsExponent (take n (mark ∷ rest)) (drop n (mark ∷ rest))
plain_there mark rest m d =
    let n = run_of (is_digit_of 10) rest in
    let one : 1 + n ≡ suc n = omega arith in
    rw one (inr (mark, [], take n rest, refl, m, inl refl, digits_least rest d, (run_passes (is_digit_of 10) rest, run_ends (is_digit_of 10) rest)))

signed_there : (mark s : ℕ) (rest : List ℕ) → (mark ≡ 101) ⊎ (mark ≡ 69) → (s ≡ 43) ⊎ (s ≡ 45) → is_decimal_digit (slice_index rest 0) ≡ true
    → let n = 2 + run_of (is_digit_of 10) rest in IsExponent (take n (mark ∷ s ∷ rest)) (drop n (mark ∷ s ∷ rest))
signed_there mark s rest m sg d =
    let n = run_of (is_digit_of 10) rest in
    let two : 2 + n ≡ suc (suc n) = omega arith in
    let sign : IsSign (s ∷ []) = inr (elim sg [ inl a ↦ inl (ap (λ x. x ∷ []) a) | inr b ↦ inr (ap (λ x. x ∷ []) b) ]) in
    rw two (inr (mark, s ∷ [], take n rest, refl, m, sign, digits_least rest d, (run_passes (is_digit_of 10) rest, run_ends (is_digit_of 10) rest)))

signed_tail : (mark : ℕ) (rest : List ℕ) → (mark ≡ 101) ⊎ (mark ≡ 69) → (eqb (slice_index rest 0) 43 || eqb (slice_index rest 0) 45) ≡ true → is_decimal_digit (slice_index (mark ∷ rest) 2) ≡ true
    → let n = 2 + run_of (is_digit_of 10) (drop 2 (mark ∷ rest)) in IsExponent (take n (mark ∷ rest)) (drop n (mark ∷ rest))
signed_tail mark [] m t d = cc
signed_tail mark (s ∷ rest) m t d = signed_there mark s rest m (elim (or_cases (eqb s 43) (eqb s 45) t) [ inl a ↦ inl (eqb-true s 43 a) | inr b ↦ inr (eqb-true s 45 b) ]) d

marked_there : (cs : List ℕ) → (not (eqb (slice_index cs 0) 101) && not (eqb (slice_index cs 0) 69)) ≡ false → is_decimal_digit (slice_index cs (sign_end cs)) ≡ true
    → let n = sign_end cs + run_of (is_digit_of 10) (drop (sign_end cs) cs) in IsExponent (take n cs) (drop n cs)
marked_there [] f d = cc
marked_there (mark ∷ rest) f d =
    let m = letter mark f in
    by_cases (λ k. is_decimal_digit (slice_index (mark ∷ rest) k) ≡ true → let n = k + run_of (is_digit_of 10) (drop k (mark ∷ rest)) in IsExponent (take n (mark ∷ rest)) (drop n (mark ∷ rest)))
    (eqb (slice_index rest 0) 43 || eqb (slice_index rest 0) 45) 2 1 (λ t. λ digit. signed_tail mark rest m t digit) (λ t. λ digit. plain_there mark rest m digit) d

exponent_there : (cs : List ℕ) → IsExponent (take (exponent_length cs) cs) (drop (exponent_length cs) cs)
unfolding exponent_length
exponent_there cs =
    by_cases (λ n. exponent_length cs ≡ n → IsExponent (take n cs) (drop n cs)) (not (eqb (slice_index cs 0) 101) && not (eqb (slice_index cs 0) 69)) 0
    (cond (is_decimal_digit (slice_index cs (sign_end cs))) (sign_end cs + run_of (is_digit_of 10) (drop (sign_end cs) cs)) 0)
    (λ t. λ e. inl (refl, e))
    (λ f. by_cases (λ n. exponent_length cs ≡ n → IsExponent (take n cs) (drop n cs)) (is_decimal_digit (slice_index cs (sign_end cs))) (sign_end cs + run_of (is_digit_of 10) (drop (sign_end cs) cs)) 0
    (λ d. λ e. marked_there cs f d) (λ d. λ e. inl (refl, e))) refl

-- a decimal literal, by the numbers of its characters
decimal_by : List ℕ → ℕ → ℕ → Element
decimal_by cs n e =
    cond (eqb (slice_index cs 0) 48 && nat_lt 1 n) (Stop LegacyOctal 0) (cond (eqb e n) (ended (whole (digits_value 10 (take n cs))) n cs) (ended Marked e cs))

decimal_is_by : (cs : List ℕ) → let n = run_of (is_digit_of 10) cs in let m = n + fraction_length (drop n cs) in decimal cs ≡ decimal_by cs n (m + exponent_length (drop m cs))
unfolding decimal decimal_by
decimal_is_by cs = refl

ended_at : (v : NumberToken) (n : ℕ) (cs after : List ℕ) → drop n cs ≡ after → ended v n cs ≡ ended_by v n after
ended_at v n cs after e = ap (λ x. cond (goes_on is_identifier_part x) (Stop BadNumber 0) (Take (OfNumber v) n)) e

values_meet : (cs ds fs es after : List ℕ) → let n = length ds in let e = length ds + length fs + length es in take n cs ≡ ds → drop e cs ≡ after
    → cond (eqb e n) (ended (whole (digits_value 10 (take n cs))) n cs) (ended Marked e cs) ≡ ended_by (decimal_value ds fs es) e after
values_meet cs ds fs es after t d = elim (cases_eq (length fs + length es) 0) [
  | inl z ↦ (let n = length ds in let e = length ds + length fs + length es in let same : e ≡ n = omega arith in
      cond-true (eqb e n) _ _ (eq-eqb e n same) ∙ ap (λ x. ended (whole (digits_value 10 x)) n cs) t ∙ ended_at (whole (digits_value 10 ds)) n cs after (ap (λ k. drop k cs) (sym same) ∙ d)
      ∙ ap (λ k. ended_by (whole (digits_value 10 ds)) k after) (sym same)
      ∙ ap (λ v. ended_by v e after) (sym (cond-true (eqb (length fs + length es) 0) (whole (digits_value 10 ds)) Marked (eq-eqb _ 0 z))))
  | inr z ↦ (let n = length ds in let e = length ds + length fs + length es in
      cond-false (eqb e n) _ _ (is_ne e n (λ s. z (omega arith))) ∙ ended_at Marked e cs after d
      ∙ ap (λ v. ended_by v e after) (sym (cond-false (eqb (length fs + length es) 0) (whole (digits_value 10 ds)) Marked (is_ne _ 0 z))))
]

decimal_only : (cs : List ℕ) (e : Element) → IsDecimal cs e → decimal cs ≡ e
unfolding decimal_by
decimal_only cs e (ds, fs, es, after, split, all, fr, ex, result) =
    let rest1 = fs ++ (es ++ after) in
    let rest2 = es ++ after in
    let p1 = ap (run_of (is_digit_of 10)) split ∙ run_only (is_digit_of 10) ds rest1 all.0 all.1 in
    let d1 = ap (drop (length ds)) split ∙ drop_at ds rest1 (length ds) refl in
    let p2 = ap fraction_length (ap (λ k. drop k cs) p1 ∙ d1) ∙ fraction_len fs rest2 fr in
    let d2 = sym (drop-drop (length fs) (length ds) cs) ∙ ap (drop (length fs)) d1 ∙ drop_at fs rest2 (length fs) refl in
    let n = run_of (is_digit_of 10) cs in
    let m : n + fraction_length (drop n cs) ≡ length ds + length fs = omega (arith, p1, p2) in
    let p3 = ap exponent_length (ap (λ k. drop k cs) m ∙ d2) ∙ exponent_len es after ex in
    let d3 = sym (drop-drop (length es) (length ds + length fs) cs) ∙ ap (drop (length es)) d2 ∙ drop_at es after (length es) refl in
    let whole_length : n + fraction_length (drop n cs) + exponent_length (drop (n + fraction_length (drop n cs)) cs) ≡ length ds + length fs + length es = omega (arith, m, p3) in
    let front = ap (take (length ds)) split ∙ take_at ds rest1 (length ds) refl in
    decimal_is_by cs ∙ ap (λ k. decimal_by cs k (n + fraction_length (drop n cs) + exponent_length (drop (n + fraction_length (drop n cs)) cs))) p1
    ∙ ap (λ k. decimal_by cs (length ds) k) whole_length
    ∙ ap (λ x. cond (eqb (slice_index cs 0) 48 && nat_lt 1 (length ds)) (Stop LegacyOctal 0) x) (values_meet cs ds fs es after front d3)
    ∙ sym result

decimal_there : (cs : List ℕ) → (e : Element) × IsDecimal cs e
decimal_there cs =
    let n = run_of (is_digit_of 10) cs in
    let ds = take n cs in
    let rest1 = drop n cs in
    let f = fraction_length rest1 in
    let fs = take f rest1 in
    let rest2 = drop f rest1 in
    let x = exponent_length rest2 in
    let es = take x rest2 in
    let after = drop x rest2 in
    let split2 = sym (take-append-drop x rest2) in
    let split1 = sym (take-append-drop f rest1) ∙ ap (λ y. fs ++ y) split2 in
    let split = sym (take-append-drop n cs) ∙ ap (λ y. ds ++ y) split1 in
    let end1 = subst (λ y. goes_on (is_digit_of 10) y ≡ false) split1 (run_ends (is_digit_of 10) cs) in
    let fraction = subst (λ y. IsFraction fs y) split2 (fraction_there rest1) in (
      cond (eqb (slice_index cs 0) 48 && nat_lt 1 (length ds)) (Stop LegacyOctal 0) (ended_by (decimal_value ds fs es) (length ds + length fs + length es) after),
      (ds, fs, es, after, split, (run_passes (is_digit_of 10) cs, end1), fraction, exponent_there rest2, refl),
    )

prefixed_by : (radix letter : ℕ) (ds after : List ℕ) → AreAllDigits radix ds after
    → prefixed radix (48 ∷ letter ∷ (ds ++ after)) ≡ cond (eqb (length ds) 0) (Stop BadNumber 0) (ended_by (whole (digits_value radix ds)) (2 + length ds) after)
unfolding prefixed
prefixed_by radix letter ds after all =
    let cs = 48 ∷ letter ∷ (ds ++ after) in
    let run = run_only (is_digit_of radix) ds after all.0 all.1 in
    let two : 2 + length ds ≡ suc (suc (length ds)) = omega arith in
    let behind : drop (2 + length ds) cs ≡ after = ap (λ k. drop k cs) two ∙ drop_at ds after (length ds) refl in
    ap (λ n. cond (eqb n 0) (Stop BadNumber 0) (ended (whole (digits_value radix (take n (ds ++ after)))) (2 + n) cs)) run
    ∙ ap (λ x. cond (eqb (length ds) 0) (Stop BadNumber 0) (ended (whole (digits_value radix x)) (2 + length ds) cs)) (take_at ds after (length ds) refl)
    ∙ ap (λ x. cond (eqb (length ds) 0) (Stop BadNumber 0) x) (ended_at (whole (digits_value radix ds)) (2 + length ds) cs after behind)

prefixed_only : (cs : List ℕ) (e : Element) → IsPrefixed cs e → prefixed (radix_of cs) cs ≡ e
prefixed_only cs e (mark, ds, after, split, p, all, result) = ap (prefixed (radix_of cs)) split ∙ prefixed_by (radix_of cs) mark ds after all ∙ sym result

prefixed_there : (cs : List ℕ) → eqb (radix_of cs) 10 ≡ false → (e : Element) × IsPrefixed cs e
prefixed_there cs f =
    let p = prefix_is cs f in
    let radix = radix_of cs in
    let n = run_of (is_digit_of radix) p.1 in
    let ds = take n p.1 in
    let after = drop n p.1 in (
      cond (eqb (length ds) 0) (Stop BadNumber 0) (ended_by (whole (digits_value radix ds)) (2 + length ds) after),
      (p.0, ds, after, p.2 ∙ ap (λ y. 48 ∷ p.0 ∷ y) (sym (take-append-drop n p.1)), p.3, (run_passes (is_digit_of radix) p.1, run_ends (is_digit_of radix) p.1), refl),
    )

-- what is a number, or its fault, is read so
pub number_only : (cs : List ℕ) (e : Element) → IsNumber cs e → number_element cs ≡ e
number_only cs e (inl (ten, d)) = cond-true (eqb (radix_of cs) 10) _ _ (eq-eqb (radix_of cs) 10 ten) ∙ decimal_only cs e d
number_only cs e (inr (other, p)) = cond-false (eqb (radix_of cs) 10) _ _ (is_ne (radix_of cs) 10 other) ∙ prefixed_only cs e p

-- and what is read is a number, or its fault
pub number_is : (cs : List ℕ) → IsNumber cs (number_element cs)
number_is cs =
    let some : (e : Element) × IsNumber cs e = elim (cases_eq (radix_of cs) 10) [
      | inl ten ↦ (let d = decimal_there cs in (d.0, inl (ten, d.1)))
      | inr other ↦ (let p = prefixed_there cs (is_ne (radix_of cs) 10 other) in (p.0, inr (other, p.1)))
    ] in
    subst (IsNumber cs) (sym (number_only cs some.0 some.1)) some.1
