-- What is read behind `/*`.
use Rattle.std.proofs.Common.{◌≡◌, ℕ, ◌+◌, Bool, true, false, ◌&&◌, ◌||◌, List, [], ◌∷◌, ◌++◌, refl, sym, ap, ◌∙◌, arith}
use Rattle.std.specs.Prelude.{eqb, slice_index}
use Rattle.std.specs.List.{list_any}
use Rattle.std.proofs.lemmas.Bool.{eqb-true}
use Rattle.es6_lexer.specs.declared.shape.Element.{Element}
use Rattle.es6_lexer.specs.declared.shape.Element.TheVariants.{Finished, Skip, Take, Stop}
use Rattle.es6_lexer.specs.Classes.{is_line_terminator}
use Rattle.es6_lexer.specs.Quoted.{block_from, block_comment}
use Rattle.lexical_grammar.specs.Grammar.{IsComment}
use Rattle.lexical_grammar.proofs.Escapes.{by_cases, both}
use Rattle.lexical_grammar.proofs.WordLemmas.{begins}

pub or_assoc : (a b c : Bool) → ((a || b) || c) ≡ (a || (b || c))
or_assoc true b c = refl
or_assoc false b c = refl

pub or_false : (a : Bool) → a ≡ (a || false)
or_false true = refl
or_false false = refl

-- the first of a `*/` is looked for in what follows: the character behind c is the same with or without what comes later
pub head_same : (c : ℕ) (body after : List ℕ) → slice_index (body ++ (42 ∷ 47 ∷ after)) 0 ≡ slice_index (body ++ (42 ∷ [])) 0
head_same c [] after = refl
head_same c (x ∷ body) after = refl

more : (i c : ℕ) (newline : Bool) (cs : List ℕ) (e : Element) → (eqb c 42 && eqb (slice_index cs 0) 47) ≡ false → IsComment (i + 1) (newline || is_line_terminator c) cs e → IsComment i newline (c ∷ cs) e
more i c newline cs (Skip n line) f (body, after, split, size, open_still, mark) =
    let none : (eqb c 42 && eqb (slice_index (body ++ (42 ∷ [])) 0) 47) ≡ false =
    ap (λ x. eqb c 42 && eqb x 47) (sym (head_same c body after)) ∙ ap (λ x. eqb c 42 && eqb (slice_index x 0) 47) (sym split) ∙ f in
    (c ∷ body, after, ap (λ x. c ∷ x) split, omega (arith, size), rw (none, open_still) refl, mark ∙ or_assoc newline (is_line_terminator c) (list_any is_line_terminator body))
more i c newline cs (Stop kind at) f (k, a, open_still) = (k, a, rw (f, open_still) refl)
more i c newline cs Finished f h = absurd h
more i c newline cs (Take shape n) f h = absurd h

comment_is : (i : ℕ) (newline : Bool) (cs : List ℕ) → IsComment i newline cs (block_from i newline cs)
unfolding block_from
comment_is i newline [] = (refl, refl, refl)
comment_is i newline (c ∷ cs) =
    by_cases (IsComment i newline (c ∷ cs)) (eqb c 42 && eqb (slice_index cs 0) 47) _ _
    (λ t. let star = both _ _ t in let slash = begins cs 46 (eqb-true (slice_index cs 0) 47 star.1) in
    ([], slash.0, ap (λ x. x ∷ cs) (eqb-true c 42 star.0) ∙ ap (λ x. 42 ∷ x) slash.1, omega arith, refl, or_false newline))
    (λ f. more i c newline cs _ f (comment_is (i + 1) (newline || is_line_terminator c) cs))

pub block_comment_is : (a b : ℕ) (rest : List ℕ) → IsComment 2 false rest (block_comment (a ∷ b ∷ rest))
block_comment_is a b rest = comment_is 2 false rest
