-- What is read at a quote, and in a template.
use Rattle.std.proofs.Common.{◌≡◌, ℕ, zero, suc, ◌+◌, ◌≤◌, ◌⊎◌, inl, inr, Bool, true, false, ◌||◌, List, [], ◌∷◌, ◌++◌, length, take, drop, refl, sym, ap, subst, ◌∙◌, arith, length-append, length-drop, append_assoc}
use Rattle.std.specs.Prelude.{eqb}
use Rattle.std.proofs.lemmas.Bool.{eqb-true, eqb-false}
use Rattle.std.proofs.lemmas.List.{take-append-drop, length-take-le}
use Rattle.es6_lexer.specs.declared.token.LexicalKind.TheVariants.{OpenString}
use Rattle.es6_lexer.specs.declared.shape.Element.{Element}
use Rattle.es6_lexer.specs.declared.shape.Element.TheVariants.{Finished, Skip, Take, Stop}
use Rattle.es6_lexer.specs.declared.shape.Shape.TheVariants.{OfWord, OfPunctuator, OfNumber, OfText, OfTemplate}
use Rattle.es6_lexer.specs.declared.shape.EscapeEnd.{EscapeEnd}
use Rattle.es6_lexer.specs.declared.shape.EscapeEnd.TheVariants.{Cut, Spelled, Wrong}
use Rattle.es6_lexer.specs.Classes.{is_line_terminator, goes_on}
use Rattle.es6_lexer.specs.Quoted.{IsWithin, escape, text_from, text_element}
use Rattle.es6_lexer.proofs.Steps.{text_skip}
use Rattle.lexical_grammar.specs.Grammar.{none, plain, escaped, IsText, IsAtEnd}
use Rattle.lexical_grammar.proofs.Escapes.{by_cases, escape_within, cut_is_nil}

not_stopped : (a b : Bool) → a ≡ false → b ≡ false → (a || b) ≡ false
not_stopped a b e f = rw (e, f) refl

-- one character more in front
text_plain : (q i c : ℕ) (cs : List ℕ) (e : Element) → eqb c q ≡ false → is_line_terminator c ≡ false → (c ≡ 92 → ⊥) → IsText q (i + 1) cs e → IsText q i (c ∷ cs) e
text_plain q i c cs (Take OfText n) f l s (body, after, split, size, chars) =
    (c ∷ body, after, ap (λ x. c ∷ x) split, omega (arith, size), plain c body (q ∷ after) (not_stopped _ _ f l) s chars)
text_plain q i c cs (Stop kind at) f l s (body, after, split, chars, why) =
    let place : i + 1 + length body ≡ i + length (c ∷ body) = omega arith in (
      c ∷ body,
      after,
      ap (λ x. c ∷ x) split,
      plain c body after (not_stopped _ _ f l) s chars,
      elim why [ inl open_end ↦ inl open_end | inr wrong ↦ inr (wrong.0, wrong.1, wrong.2, wrong.3 ∙ place) ],
    )
text_plain q i c cs Finished f l s h = absurd h
text_plain q i c cs (Skip n line) f l s h = absurd h
text_plain q i c cs (Take OfWord n) f l s h = absurd h
text_plain q i c cs (Take (OfPunctuator p) n) f l s h = absurd h
text_plain q i c cs (Take (OfNumber v) n) f l s h = absurd h
text_plain q i c cs (Take (OfTemplate last) n) f l s h = absurd h

-- an escape more in front
text_escaped : (q i : ℕ) (e cs : List ℕ) (r : Element) → escape (e ++ cs) ≡ Spelled (length e) → IsText q (i + 1 + length e) cs r → IsText q i (92 ∷ (e ++ cs)) r
text_escaped q i e cs (Take OfText n) s (body, after, split, size, chars) =
    let all = ap (λ x. 92 ∷ (e ++ x)) split ∙ ap (λ x. 92 ∷ x) (sym (append_assoc e body (q ∷ after))) in
    (92 ∷ (e ++ body), after, all, omega (arith, size, length-append e body), escaped e body (q ∷ after) (ap (λ x. escape (e ++ x)) (sym split) ∙ s) chars)
text_escaped q i e cs (Stop kind at) s (body, after, split, chars, why) =
    let all = ap (λ x. 92 ∷ (e ++ x)) split ∙ ap (λ x. 92 ∷ x) (sym (append_assoc e body after)) in
    let place : i + 1 + length e + length body ≡ i + length (92 ∷ (e ++ body)) = omega (arith, length-append e body) in (
      92 ∷ (e ++ body),
      after,
      all,
      escaped e body after (ap (λ x. escape (e ++ x)) (sym split) ∙ s) chars,
      elim why [ inl open_end ↦ inl open_end | inr wrong ↦ inr (wrong.0, wrong.1, wrong.2, wrong.3 ∙ place) ],
    )
text_escaped q i e cs Finished s h = absurd h
text_escaped q i e cs (Skip n line) s h = absurd h
text_escaped q i e cs (Take OfWord n) s h = absurd h
text_escaped q i e cs (Take (OfPunctuator p) n) s h = absurd h
text_escaped q i e cs (Take (OfNumber v) n) s h = absurd h
text_escaped q i e cs (Take (OfTemplate last) n) s h = absurd h

open_text : (q i : ℕ) (cs : List ℕ) → IsAtEnd cs ⊎ (goes_on is_line_terminator cs ≡ true) → IsText q i cs (Stop OpenString 0)
open_text q i cs why = ([], cs, refl, none cs, inl (refl, refl, why))

at_backslash : (q i : ℕ) (cs : List ℕ) (v : EscapeEnd) → escape cs ≡ v
    → ((k : ℕ) → v ≡ Spelled k → IsText q (i + 1 + k) (drop k cs) (text_from q 0 (i + 1 + k) (drop k cs)))
    → IsText q i (92 ∷ cs) (elim v [ Cut ↦ Stop OpenString 0 | Wrong kind ↦ Stop kind i | Spelled n ↦ text_from q n (i + 1) cs ])
at_backslash q i cs Cut e ih = open_text q i (92 ∷ cs) (inl (inr (ap (λ x. 92 ∷ x) (cut_is_nil cs e))))
at_backslash q i cs (Wrong kind) e ih = ([], 92 ∷ cs, refl, none (92 ∷ cs), inr (cs, refl, e, omega arith))
at_backslash q i cs (Spelled k) e ih =
    let within = subst (IsWithin (length cs)) e (escape_within cs) in
    let size = length-take-le k cs within.1 in
    let whole = take-append-drop k cs in
    let spelled : escape (take k cs ++ drop k cs) ≡ Spelled (length (take k cs)) = ap escape whole ∙ e ∙ ap Spelled (sym size) in
    let rest = subst (λ n. IsText q (i + 1 + n) (drop k cs) (text_from q 0 (i + 1 + k) (drop k cs))) (sym size) (ih k refl) in
    subst (λ x. IsText q i (92 ∷ x) (text_from q k (i + 1) cs)) whole
    (subst (λ r. IsText q i (92 ∷ (take k cs ++ drop k cs)) r) (sym (text_skip q k (i + 1) cs)) (text_escaped q i (take k cs) (drop k cs) _ spelled rest))

text_is : (m q i : ℕ) (cs : List ℕ) → length cs ≤ m → IsText q i cs (text_from q 0 i cs)
unfolding text_from
text_is m q i [] h = open_text q i [] (inl (inl refl))
text_is zero q i (c ∷ cs) h = absurd (omega arith)
text_is (suc m) q i (c ∷ cs) h =
    let P : Element → Type 0 = IsText q i (c ∷ cs) in
    by_cases P (eqb c q) _ _ (λ t. ([], cs, ap (λ x. x ∷ cs) (eqb-true c q t), omega arith, none (q ∷ cs)))
    (λ f. by_cases P (eqb c 92) _ _
    (λ t. subst (λ x. IsText q i (x ∷ cs) (elim (escape cs) [ Cut ↦ Stop OpenString 0 | Wrong kind ↦ Stop kind i | Spelled n ↦ text_from q n (i + 1) cs ])) (sym (eqb-true c 92 t))
    (at_backslash q i cs (escape cs) refl (λ k e. text_is m q (i + 1 + k) (drop k cs) (omega (arith, length-drop k cs)))))
    (λ b. by_cases P (is_line_terminator c) _ _ (λ l. open_text q i (c ∷ cs) (inr l))
    (λ l. text_plain q i c cs _ f l (eqb-false c 92 b) (text_is m q (i + 1) cs (omega arith)))))

pub text_element_is : (quote : ℕ) (rest : List ℕ) → IsText quote 1 rest (text_element (quote ∷ rest))
text_element_is quote rest = text_is (length rest) quote 1 rest (omega arith)
