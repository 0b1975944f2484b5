-- A stretch of a template that is spelled is read so.
use Rattle.std.proofs.Common.{◌≡◌, ℕ, suc, ◌+◌, inl, inr, Bool, true, false, ◌&&◌, List, [], ◌∷◌, ◌++◌, length, drop, refl, sym, ap, ◌∙◌, arith, append_assoc, length-append}
use Rattle.std.specs.Prelude.{eqb, slice_index}
use Rattle.std.proofs.lemmas.Bool.{cond-false}
use Rattle.std.proofs.lemmas.List.{drop_at}
use Rattle.es6_lexer.specs.declared.token.LexicalKind.{LexicalKind}
use Rattle.es6_lexer.specs.declared.token.LexicalKind.TheVariants.{OpenTemplate}
use Rattle.es6_lexer.specs.declared.shape.Element.{Element}
use Rattle.es6_lexer.specs.declared.shape.Element.TheVariants.{Finished, Skip, Take, Stop}
use Rattle.es6_lexer.specs.declared.shape.Shape.TheVariants.{OfWord, OfPunctuator, OfNumber, OfText, OfTemplate}
use Rattle.es6_lexer.specs.declared.shape.EscapeEnd.{EscapeEnd}
use Rattle.es6_lexer.specs.declared.shape.EscapeEnd.TheVariants.{Cut, Spelled, Wrong}
use Rattle.es6_lexer.specs.Quoted.{escape, template_from}
use Rattle.es6_lexer.proofs.Steps.{template_skip}
use Rattle.lexical_grammar.specs.Grammar.{Characters, none, plain, escaped, template_stops, stretch_end, IsTemplate}
use Rattle.lexical_grammar.proofs.TextOnly.{is_ne, or_first, or_second}

at_slash : EscapeEnd → ℕ → List ℕ → Element
at_slash v i cs = elim v [ Cut ↦ Stop OpenTemplate 0 | Wrong kind ↦ Stop kind i | Spelled n ↦ template_from n (i + 1) cs ]

slash_step : (i : ℕ) (cs : List ℕ) (v : EscapeEnd) → escape cs ≡ v → template_from 0 i (92 ∷ cs) ≡ at_slash v i cs
unfolding template_from at_slash
slash_step i cs v e = ap (λ x. at_slash x i cs) e

step_spelled : (i k : ℕ) (cs : List ℕ) → escape cs ≡ Spelled k → template_from 0 i (92 ∷ cs) ≡ template_from 0 (i + 1 + k) (drop k cs)
unfolding at_slash
step_spelled i k cs e = slash_step i cs (Spelled k) e ∙ template_skip k (i + 1) cs

step_wrong : (i : ℕ) (kind : LexicalKind) (cs : List ℕ) → escape cs ≡ Wrong kind → template_from 0 i (92 ∷ cs) ≡ Stop kind i
unfolding at_slash
step_wrong i kind cs e = slash_step i cs (Wrong kind) e

step_cut : (i : ℕ) → template_from 0 i (92 ∷ []) ≡ Stop OpenTemplate 0
unfolding at_slash escape
step_cut i = slash_step i [] Cut refl

step_plain : (i c : ℕ) (cs : List ℕ) → eqb c 96 ≡ false → (eqb c 36 && eqb (slice_index cs 0) 123) ≡ false → (c ≡ 92 → ⊥) → template_from 0 i (c ∷ cs) ≡ template_from 0 (i + 1) cs
unfolding template_from
step_plain i c cs f l s = cond-false (eqb c 96) _ _ f ∙ cond-false (eqb c 92) _ _ (is_ne c 92 s) ∙ cond-false (eqb c 36 && eqb (slice_index cs 0) 123) _ _ l

step_last : (last : Bool) (i : ℕ) (cs : List ℕ) → template_from 0 i (stretch_end last ++ cs) ≡ Take (OfTemplate last) (i + length (stretch_end last))
unfolding template_from
step_last true i cs = refl
step_last false i cs = refl

step_end : (i : ℕ) → template_from 0 i [] ≡ Stop OpenTemplate 0
unfolding template_from
step_end i = refl

-- characters are passed over
template_prefix : (i : ℕ) (body after : List ℕ) → Characters template_stops body after → template_from 0 i (body ++ after) ≡ template_from 0 (i + length body) after
template_prefix i _ _ (none after) = let e : i + 0 ≡ i = omega arith in rw e refl
template_prefix i _ _ (plain c cs after stop s more) =
    let e : i + 1 + length cs ≡ i + suc (length cs) = omega arith in
    step_plain i c (cs ++ after) (or_first _ _ stop) (or_second (eqb c 96) _ stop) s ∙ template_prefix (i + 1) cs after more ∙ ap (λ m. template_from 0 m after) e
template_prefix i _ _ (escaped e cs after spelled more) =
    let whole = append_assoc e cs after in
    let place : i + 1 + length e + length cs ≡ i + suc (length (e ++ cs)) = omega (arith, length-append e cs) in
    step_spelled i (length e) ((e ++ cs) ++ after) (ap escape whole ∙ spelled)
    ∙ ap (template_from 0 (i + 1 + length e)) (ap (drop (length e)) whole ∙ drop_at e (cs ++ after) (length e) refl)
    ∙ template_prefix (i + 1 + length e) cs after more ∙ ap (λ m. template_from 0 m after) place

-- what is a stretch, or the fault that stops one, is read so
pub template_only : (i : ℕ) (rest : List ℕ) (e : Element) → IsTemplate i rest e → template_from 0 i rest ≡ e
template_only i rest (Take (OfTemplate last) n) (body, after, split, size, chars) =
    ap (template_from 0 i) split ∙ template_prefix i body (stretch_end last ++ after) chars ∙ step_last last (i + length body) after ∙ ap (Take (OfTemplate last)) (sym size)
template_only i rest (Stop kind at) (body, after, split, chars, why) =
    let front = ap (template_from 0 i) split ∙ template_prefix i body after chars in
    elim why [
      | inl (k, a, reason) ↦ (let same : Stop OpenTemplate 0 ≡ Stop kind at = cc in elim reason [
        | inl nil ↦ front ∙ ap (template_from 0 (i + length body)) nil ∙ step_end (i + length body) ∙ same
        | inr cut ↦ front ∙ ap (template_from 0 (i + length body)) cut ∙ step_cut (i + length body) ∙ same
      ])
      | inr (e, is, wrong, place) ↦ front ∙ ap (template_from 0 (i + length body)) is ∙ step_wrong (i + length body) kind e wrong ∙ ap (Stop kind) (sym place)
    ]
template_only i rest Finished t = absurd t
template_only i rest (Skip n line) t = absurd t
template_only i rest (Take OfWord n) t = absurd t
template_only i rest (Take (OfPunctuator p) n) t = absurd t
template_only i rest (Take (OfNumber v) n) t = absurd t
template_only i rest (Take OfText n) t = absurd t
