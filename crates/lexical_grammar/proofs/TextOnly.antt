-- A string literal that is spelled is read so.
use Rattle.std.proofs.Common.{◌≡◌, ℕ, suc, ◌+◌, ◌⊎◌, inl, inr, Bool, true, false, ◌||◌, List, [], ◌∷◌, ◌++◌, length, drop, eq-eqb, refl, sym, ap, ◌∙◌, arith, append_assoc, length-append}
use Rattle.std.specs.Prelude.{eqb}
use Rattle.std.proofs.lemmas.Bool.{cond-true, cond-false, eqb-true, or_cases}
use Rattle.std.proofs.lemmas.Bool.Decides.{nat_tests}
use Rattle.std.proofs.lemmas.List.{drop_at}
use Rattle.es6_lexer.specs.declared.token.LexicalKind.{LexicalKind}
use Rattle.es6_lexer.specs.declared.token.LexicalKind.TheVariants.{OpenString}
use Rattle.es6_lexer.specs.declared.shape.Element.{Element}
use Rattle.es6_lexer.specs.declared.shape.Element.TheVariants.{Finished, Skip, Take, Stop}
use Rattle.es6_lexer.specs.declared.shape.Shape.TheVariants.{OfWord, OfPunctuator, OfNumber, OfText, OfTemplate}
use Rattle.es6_lexer.specs.declared.shape.EscapeEnd.{EscapeEnd}
use Rattle.es6_lexer.specs.declared.shape.EscapeEnd.TheVariants.{Cut, Spelled, Wrong}
use Rattle.es6_lexer.specs.Classes.{is_line_terminator, is_quote, goes_on}
use Rattle.es6_lexer.specs.Quoted.{escape, text_from}
use Rattle.es6_lexer.proofs.Steps.{text_skip}
use Rattle.lexical_grammar.specs.Grammar.{Characters, none, plain, escaped, text_stops, IsText}

pub is_ne : (a b : ℕ) → (a ≡ b → ⊥) → eqb a b ≡ false
is_ne a b e = grind (arith, nat_tests)

pub or_first : (a b : Bool) → (a || b) ≡ false → a ≡ false
or_first false b h = refl
or_first true b h = cc

pub or_second : (a b : Bool) → (a || b) ≡ false → b ≡ false
or_second false b h = h
or_second true b h = cc

at_slash : EscapeEnd → ℕ → ℕ → List ℕ → Element
at_slash v q i cs = elim v [ Cut ↦ Stop OpenString 0 | Wrong kind ↦ Stop kind i | Spelled n ↦ text_from q n (i + 1) cs ]

slash_step : (q i : ℕ) (cs : List ℕ) (v : EscapeEnd) → (q ≡ 92 → ⊥) → escape cs ≡ v → text_from q 0 i (92 ∷ cs) ≡ at_slash v q i cs
unfolding text_from at_slash
slash_step q i cs v n e = cond-false (eqb 92 q) _ _ (is_ne 92 q (λ s. n (sym s))) ∙ ap (λ x. at_slash x q i cs) e

step_spelled : (q i k : ℕ) (cs : List ℕ) → (q ≡ 92 → ⊥) → escape cs ≡ Spelled k → text_from q 0 i (92 ∷ cs) ≡ text_from q 0 (i + 1 + k) (drop k cs)
unfolding at_slash
step_spelled q i k cs n e = slash_step q i cs (Spelled k) n e ∙ text_skip q k (i + 1) cs

step_wrong : (q i : ℕ) (kind : LexicalKind) (cs : List ℕ) → (q ≡ 92 → ⊥) → escape cs ≡ Wrong kind → text_from q 0 i (92 ∷ cs) ≡ Stop kind i
unfolding at_slash
step_wrong q i kind cs n e = slash_step q i cs (Wrong kind) n e

step_cut : (q i : ℕ) → (q ≡ 92 → ⊥) → text_from q 0 i (92 ∷ []) ≡ Stop OpenString 0
unfolding at_slash escape
step_cut q i n = slash_step q i [] Cut n refl

step_plain : (q i c : ℕ) (cs : List ℕ) → eqb c q ≡ false → is_line_terminator c ≡ false → (c ≡ 92 → ⊥) → text_from q 0 i (c ∷ cs) ≡ text_from q 0 (i + 1) cs
unfolding text_from
step_plain q i c cs f l s = cond-false (eqb c q) _ _ f ∙ cond-false (eqb c 92) _ _ (is_ne c 92 s) ∙ cond-false (is_line_terminator c) _ _ l

step_quote : (q i : ℕ) (cs : List ℕ) → text_from q 0 i (q ∷ cs) ≡ Take OfText (i + 1)
unfolding text_from
step_quote q i cs = cond-true (eqb q q) _ _ (eq-eqb q q refl)

step_line : (q i c : ℕ) (cs : List ℕ) → eqb c q ≡ false → is_line_terminator c ≡ true → eqb c 92 ≡ false → text_from q 0 i (c ∷ cs) ≡ Stop OpenString 0
unfolding text_from
step_line q i c cs f l s = cond-false (eqb c q) _ _ f ∙ cond-false (eqb c 92) _ _ s ∙ cond-true (is_line_terminator c) _ _ l

step_end : (q i : ℕ) → text_from q 0 i [] ≡ Stop OpenString 0
unfolding text_from
step_end q i = refl

-- characters are passed over
text_prefix : (q i : ℕ) (body after : List ℕ) → (q ≡ 92 → ⊥) → Characters (text_stops q) body after → text_from q 0 i (body ++ after) ≡ text_from q 0 (i + length body) after
text_prefix q i _ _ n (none after) = let e : i + 0 ≡ i = omega arith in rw e refl
text_prefix q i _ _ n (plain c cs after stop s more) =
    let e : i + 1 + length cs ≡ i + suc (length cs) = omega arith in
    step_plain q i c (cs ++ after) (or_first _ _ stop) (or_second (eqb c q) _ stop) s ∙ text_prefix q (i + 1) cs after n more ∙ ap (λ m. text_from q 0 m after) e
text_prefix q i _ _ n (escaped e cs after spelled more) =
    let whole = append_assoc e cs after in
    let place : i + 1 + length e + length cs ≡ i + suc (length (e ++ cs)) = omega (arith, length-append e cs) in
    step_spelled q i (length e) ((e ++ cs) ++ after) n (ap escape whole ∙ spelled)
    ∙ ap (text_from q 0 (i + 1 + length e)) (ap (drop (length e)) whole ∙ drop_at e (cs ++ after) (length e) refl)
    ∙ text_prefix q (i + 1 + length e) cs after n more ∙ ap (λ m. text_from q 0 m after) place

quote_cases : (q : ℕ) → is_quote q ≡ true → (q ≡ 34) ⊎ (q ≡ 39)
quote_cases q h = elim (or_cases (eqb q 34) (eqb q 39) h) [ inl a ↦ inl (eqb-true q 34 a) | inr b ↦ inr (eqb-true q 39 b) ]

no_slash : (q : ℕ) → is_quote q ≡ true → q ≡ 92 → ⊥
no_slash q h e = elim (quote_cases q h) [ inl a ↦ omega arith | inr b ↦ omega arith ]

quote_is_no_line : (q : ℕ) → is_quote q ≡ true → is_line_terminator q ≡ false
quote_is_no_line q h = elim (quote_cases q h) [ inl a ↦ ap is_line_terminator a | inr b ↦ ap is_line_terminator b ]

line_is_no_quote : (q c : ℕ) → is_quote q ≡ true → is_line_terminator c ≡ true → c ≡ q → ⊥
line_is_no_quote q c h l e = let bad : is_line_terminator c ≡ false = ap is_line_terminator e ∙ quote_is_no_line q h in cc

line_is_no_slash : (c : ℕ) → is_line_terminator c ≡ true → c ≡ 92 → ⊥
line_is_no_slash c l e = let bad : is_line_terminator c ≡ false = ap is_line_terminator e in cc

line_stop : (q i : ℕ) (after : List ℕ) → is_quote q ≡ true → goes_on is_line_terminator after ≡ true → text_from q 0 i after ≡ Stop OpenString 0
line_stop q i [] h l = cc
line_stop q i (c ∷ cs) h l = step_line q i c cs (is_ne c q (line_is_no_quote q c h l)) l (is_ne c 92 (line_is_no_slash c l))

-- what is a string literal, or the fault that stops one, is read so
pub text_only : (q i : ℕ) (rest : List ℕ) (e : Element) → is_quote q ≡ true → IsText q i rest e → text_from q 0 i rest ≡ e
text_only q i rest (Take OfText n) h (body, after, split, size, chars) =
    ap (text_from q 0 i) split ∙ text_prefix q i body (q ∷ after) (no_slash q h) chars ∙ step_quote q (i + length body) after ∙ ap (Take OfText) (sym size)
text_only q i rest (Stop kind at) h (body, after, split, chars, why) =
    let front = ap (text_from q 0 i) split ∙ text_prefix q i body after (no_slash q h) chars in
    elim why [
      | inl (k, a, reason) ↦ (let same : Stop OpenString 0 ≡ Stop kind at = cc in elim reason [
        | inl (inl nil) ↦ front ∙ ap (text_from q 0 (i + length body)) nil ∙ step_end q (i + length body) ∙ same
        | inl (inr cut) ↦ front ∙ ap (text_from q 0 (i + length body)) cut ∙ step_cut q (i + length body) (no_slash q h) ∙ same
        | inr line ↦ front ∙ line_stop q (i + length body) after h line ∙ same
      ])
      | inr (e, is, wrong, place) ↦ front ∙ ap (text_from q 0 (i + length body)) is ∙ step_wrong q (i + length body) kind e (no_slash q h) wrong ∙ ap (Stop kind) (sym place)
    ]
text_only q i rest Finished h t = absurd t
text_only q i rest (Skip n line) h t = absurd t
text_only q i rest (Take OfWord n) h t = absurd t
text_only q i rest (Take (OfPunctuator p) n) h t = absurd t
text_only q i rest (Take (OfNumber v) n) h t = absurd t
text_only q i rest (Take (OfTemplate last) n) h t = absurd t
