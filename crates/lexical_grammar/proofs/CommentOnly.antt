-- A comment that is spelled is read so.
use Rattle.std.proofs.Common.{◌≡◌, ℕ, suc, ◌+◌, Bool, true, false, ◌&&◌, ◌||◌, List, [], ◌∷◌, ◌++◌, length, refl, sym, ap, ◌∙◌, arith}
use Rattle.std.specs.Prelude.{eqb, slice_index}
use Rattle.std.specs.List.{list_any}
use Rattle.std.proofs.lemmas.Bool.{cond-false, not-true}
use Rattle.es6_lexer.specs.declared.token.LexicalKind.TheVariants.{OpenComment}
use Rattle.es6_lexer.specs.declared.shape.Element.{Element}
use Rattle.es6_lexer.specs.declared.shape.Element.TheVariants.{Finished, Skip, Take, Stop}
use Rattle.es6_lexer.specs.Classes.{is_line_terminator}
use Rattle.es6_lexer.specs.Quoted.{block_from}
use Rattle.lexical_grammar.specs.Grammar.{IsComment, has_no_close}
use Rattle.lexical_grammar.proofs.Escapes.{both}
use Rattle.lexical_grammar.proofs.CommentLemmas.{head_same, or_assoc, or_false}

step : (i c : ℕ) (newline : Bool) (cs : List ℕ) → (eqb c 42 && eqb (slice_index cs 0) 47) ≡ false → block_from i newline (c ∷ cs) ≡ block_from (i + 1) (newline || is_line_terminator c) cs
unfolding block_from
step i c newline cs f = cond-false (eqb c 42 && eqb (slice_index cs 0) 47) _ _ f

closed : (i : ℕ) (newline : Bool) (body after : List ℕ) → has_no_close (body ++ (42 ∷ [])) ≡ true → block_from i newline (body ++ (42 ∷ 47 ∷ after)) ≡ Skip (i + length body + 2) (newline || list_any is_line_terminator body)
unfolding block_from
closed i newline [] after h = let e : i + 0 + 2 ≡ i + 2 = omega arith in rw (e, ← or_false newline) refl
closed i newline (c ∷ body) after h =
    let two = both _ (has_no_close (body ++ (42 ∷ []))) h in
    let none = ap (λ x. eqb c 42 && eqb x 47) (head_same c body after) ∙ not-true _ two.0 in
    let size : i + 1 + length body + 2 ≡ i + suc (length body) + 2 = omega arith in
    step i c newline (body ++ (42 ∷ 47 ∷ after)) none ∙ closed (i + 1) (newline || is_line_terminator c) body after two.1
    ∙ ap (λ n. Skip n ((newline || is_line_terminator c) || list_any is_line_terminator body)) size
    ∙ ap (Skip (i + suc (length body) + 2)) (or_assoc newline (is_line_terminator c) (list_any is_line_terminator body))

unclosed : (i : ℕ) (newline : Bool) (cs : List ℕ) → has_no_close cs ≡ true → block_from i newline cs ≡ Stop OpenComment 0
unfolding block_from
unclosed i newline [] h = refl
unclosed i newline (c ∷ cs) h = let two = both _ (has_no_close cs) h in step i c newline cs (not-true _ two.0) ∙ unclosed (i + 1) (newline || is_line_terminator c) cs two.1

pub comment_only : (i : ℕ) (newline : Bool) (rest : List ℕ) (e : Element) → IsComment i newline rest e → block_from i newline rest ≡ e
comment_only i newline rest (Skip n line) (body, after, split, size, open_still, mark) =
    ap (block_from i newline) split ∙ closed i newline body after open_still ∙ ap (λ m. Skip m (newline || list_any is_line_terminator body)) (sym size) ∙ ap (Skip n) (sym mark)
comment_only i newline rest (Stop kind at) (k, a, open_still) = let same : Stop OpenComment 0 ≡ Stop kind at = cc in unclosed i newline rest open_still ∙ same
comment_only i newline rest Finished h = absurd h
comment_only i newline rest (Take shape n) h = absurd h
