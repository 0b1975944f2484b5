-- What is read in a template.
use Rattle.std.proofs.Common.{◌≡◌, ℕ, zero, suc, ◌+◌, ◌≤◌, inl, inr, Bool, false, ◌&&◌, ◌||◌, List, [], ◌∷◌, ◌++◌, length, take, drop, refl, sym, ap, subst, ◌∙◌, arith, length-append, length-drop, append_assoc}
use Rattle.std.specs.Prelude.{eqb, slice_index}
use Rattle.std.proofs.lemmas.Bool.{eqb-true, eqb-false}
use Rattle.std.proofs.lemmas.List.{take-append-drop, length-take-le}
use Rattle.es6_lexer.specs.declared.token.LexicalKind.TheVariants.{OpenTemplate}
use Rattle.es6_lexer.specs.declared.shape.Element.{Element}
use Rattle.es6_lexer.specs.declared.shape.Element.TheVariants.{Finished, Skip, Take, Stop}
use Rattle.es6_lexer.specs.declared.shape.Shape.TheVariants.{OfWord, OfPunctuator, OfNumber, OfText, OfTemplate}
use Rattle.es6_lexer.specs.declared.shape.EscapeEnd.{EscapeEnd}
use Rattle.es6_lexer.specs.declared.shape.EscapeEnd.TheVariants.{Cut, Spelled, Wrong}
use Rattle.es6_lexer.specs.Quoted.{IsWithin, escape, template_from, template_element}
use Rattle.es6_lexer.proofs.Steps.{template_skip}
use Rattle.lexical_grammar.specs.Grammar.{none, plain, escaped, stretch_end, IsTemplate, IsAtEnd}
use Rattle.lexical_grammar.proofs.Escapes.{by_cases, both, escape_within, cut_is_nil}
use Rattle.lexical_grammar.proofs.WordLemmas.{begins}

not_stopped : (a b : Bool) → a ≡ false → b ≡ false → (a || b) ≡ false
not_stopped a b e f = rw (e, f) refl

-- one character more in front
template_plain : (i c : ℕ) (cs : List ℕ) (e : Element) → eqb c 96 ≡ false → (eqb c 36 && eqb (slice_index cs 0) 123) ≡ false → (c ≡ 92 → ⊥) → IsTemplate (i + 1) cs e → IsTemplate i (c ∷ cs) e
template_plain i c cs (Take (OfTemplate last) n) f l s (body, after, split, size, chars) =
    let open_brace = ap (λ x. eqb c 36 && eqb (slice_index x 0) 123) (sym split) ∙ l in
    (c ∷ body, after, ap (λ x. c ∷ x) split, omega (arith, size), plain c body (stretch_end last ++ after) (not_stopped _ _ f open_brace) s chars)
template_plain i c cs (Stop kind at) f l s (body, after, split, chars, why) =
    let place : i + 1 + length body ≡ i + length (c ∷ body) = omega arith in
    let open_brace = ap (λ x. eqb c 36 && eqb (slice_index x 0) 123) (sym split) ∙ l in (
      c ∷ body,
      after,
      ap (λ x. c ∷ x) split,
      plain c body after (not_stopped _ _ f open_brace) s chars,
      elim why [ inl open_end ↦ inl open_end | inr wrong ↦ inr (wrong.0, wrong.1, wrong.2, wrong.3 ∙ place) ],
    )
template_plain i c cs Finished f l s h = absurd h
template_plain i c cs (Skip n line) f l s h = absurd h
template_plain i c cs (Take OfWord n) f l s h = absurd h
template_plain i c cs (Take (OfPunctuator p) n) f l s h = absurd h
template_plain i c cs (Take (OfNumber v) n) f l s h = absurd h
template_plain i c cs (Take OfText n) f l s h = absurd h

-- an escape more in front
template_escaped : (i : ℕ) (e cs : List ℕ) (r : Element) → escape (e ++ cs) ≡ Spelled (length e) → IsTemplate (i + 1 + length e) cs r → IsTemplate i (92 ∷ (e ++ cs)) r
template_escaped i e cs (Take (OfTemplate last) n) s (body, after, split, size, chars) =
    let all = ap (λ x. 92 ∷ (e ++ x)) split ∙ ap (λ x. 92 ∷ x) (sym (append_assoc e body (stretch_end last ++ after))) in
    (92 ∷ (e ++ body), after, all, omega (arith, size, length-append e body), escaped e body (stretch_end last ++ after) (ap (λ x. escape (e ++ x)) (sym split) ∙ s) chars)
template_escaped i e cs (Stop kind at) s (body, after, split, chars, why) =
    let all = ap (λ x. 92 ∷ (e ++ x)) split ∙ ap (λ x. 92 ∷ x) (sym (append_assoc e body after)) in
    let place : i + 1 + length e + length body ≡ i + length (92 ∷ (e ++ body)) = omega (arith, length-append e body) in (
      92 ∷ (e ++ body),
      after,
      all,
      escaped e body after (ap (λ x. escape (e ++ x)) (sym split) ∙ s) chars,
      elim why [ inl open_end ↦ inl open_end | inr wrong ↦ inr (wrong.0, wrong.1, wrong.2, wrong.3 ∙ place) ],
    )
template_escaped i e cs Finished s h = absurd h
template_escaped i e cs (Skip n line) s h = absurd h
template_escaped i e cs (Take OfWord n) s h = absurd h
template_escaped i e cs (Take (OfPunctuator p) n) s h = absurd h
template_escaped i e cs (Take (OfNumber v) n) s h = absurd h
template_escaped i e cs (Take OfText n) s h = absurd h

open_template : (i : ℕ) (cs : List ℕ) → IsAtEnd cs → IsTemplate i cs (Stop OpenTemplate 0)
open_template i cs why = ([], cs, refl, none cs, inl (refl, refl, why))

at_backslash : (i : ℕ) (cs : List ℕ) (v : EscapeEnd) → escape cs ≡ v
    → ((k : ℕ) → v ≡ Spelled k → IsTemplate (i + 1 + k) (drop k cs) (template_from 0 (i + 1 + k) (drop k cs)))
    → IsTemplate i (92 ∷ cs) (elim v [ Cut ↦ Stop OpenTemplate 0 | Wrong kind ↦ Stop kind i | Spelled n ↦ template_from n (i + 1) cs ])
at_backslash i cs Cut e ih = open_template i (92 ∷ cs) (inr (ap (λ x. 92 ∷ x) (cut_is_nil cs e)))
at_backslash i cs (Wrong kind) e ih = ([], 92 ∷ cs, refl, none (92 ∷ cs), inr (cs, refl, e, omega arith))
at_backslash i cs (Spelled k) e ih =
    let within = subst (IsWithin (length cs)) e (escape_within cs) in
    let size = length-take-le k cs within.1 in
    let whole = take-append-drop k cs in
    let spelled : escape (take k cs ++ drop k cs) ≡ Spelled (length (take k cs)) = ap escape whole ∙ e ∙ ap Spelled (sym size) in
    let rest = subst (λ n. IsTemplate (i + 1 + n) (drop k cs) (template_from 0 (i + 1 + k) (drop k cs))) (sym size) (ih k refl) in
    subst (λ x. IsTemplate i (92 ∷ x) (template_from k (i + 1) cs)) whole
    (subst (λ r. IsTemplate i (92 ∷ (take k cs ++ drop k cs)) r) (sym (template_skip k (i + 1) cs)) (template_escaped i (take k cs) (drop k cs) _ spelled rest))

template_is : (m i : ℕ) (cs : List ℕ) → length cs ≤ m → IsTemplate i cs (template_from 0 i cs)
unfolding template_from
template_is m i [] h = open_template i [] (inl refl)
template_is zero i (c ∷ cs) h = absurd (omega arith)
template_is (suc m) i (c ∷ cs) h =
    let P : Element → Type 0 = IsTemplate i (c ∷ cs) in
    by_cases P (eqb c 96) _ _ (λ t. ([], cs, ap (λ x. x ∷ cs) (eqb-true c 96 t), omega arith, none (96 ∷ cs)))
    (λ f. by_cases P (eqb c 92) _ _
    (λ t. subst (λ x. IsTemplate i (x ∷ cs) (elim (escape cs) [ Cut ↦ Stop OpenTemplate 0 | Wrong kind ↦ Stop kind i | Spelled n ↦ template_from n (i + 1) cs ])) (sym (eqb-true c 92 t))
    (at_backslash i cs (escape cs) refl (λ k e. template_is m (i + 1 + k) (drop k cs) (omega (arith, length-drop k cs)))))
    (λ b. by_cases P (eqb c 36 && eqb (slice_index cs 0) 123) _ _
    (λ t. let dollar = both _ _ t in let brace = begins cs 122 (eqb-true (slice_index cs 0) 123 dollar.1) in
    ([], brace.0, ap (λ x. x ∷ cs) (eqb-true c 36 dollar.0) ∙ ap (λ x. 36 ∷ x) brace.1, omega arith, none (36 ∷ 123 ∷ brace.0)))
    (λ l. template_plain i c cs _ f l (eqb-false c 92 b) (template_is m (i + 1) cs (omega arith)))))

pub template_element_is : (first : ℕ) (rest : List ℕ) → IsTemplate 1 rest (template_element (first ∷ rest))
template_element_is first rest = template_is (length rest) 1 rest (omega arith)
