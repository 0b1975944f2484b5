-- Comments are read as they are spelled.
use Rattle.std.proofs.Common.{◌≡◌, ℕ, suc, ◌+◌, Bool, true, false, ◌&&◌, ◌||◌, List, [], ◌∷◌, ◌++◌, length, refl, sym, ap, ◌∙◌, arith, length-append, append_assoc}
use Rattle.std.specs.Prelude.{eqb, not, slice_index}
use Rattle.std.specs.List.{list_all, list_any, prefix_len}
use Rattle.std.proofs.lemmas.Bool.{and_parts, and_from, or_parts, not-true, not_from_false, cond-false}
use Rattle.es5_ast.specs.Lexical.{is_line_terminator, next_is, has_no_end}
use Rattle.es5_tokens.specs.declared.shape.Element.TheVariants.{Skip}
use Rattle.es5_tokens.specs.Elements.{element, marked_element}
use Rattle.es5_tokens.specs.Quoted.{block_from}
use Rattle.es5_tokens.proofs.Comments.{head_same}
use Rattle.es5_token_laws.proofs.Characters.{run_only}

all_not : (p : ℕ → Bool) (cs : List ℕ) → list_any p cs ≡ false → list_all (λ c. not (p c)) cs ≡ true
all_not p [] h = refl
all_not p (c ∷ cs) h = let two = or_parts (p c) _ h in and_from _ _ (not_from_false (p c) two.0) (all_not p cs two.1)

stops : (rest : List ℕ) → (next_is is_line_terminator rest ≡ false → rest ≡ []) → next_is (λ c. not (is_line_terminator c)) rest ≡ false
stops [] h = refl
stops (c ∷ rest) h = by (is_line_terminator c) refl where
  by : (b : Bool) → is_line_terminator c ≡ b → not (is_line_terminator c) ≡ false
  by true e = rw e refl
  by false e = let bad : c ∷ rest ≡ [] = h e in cc

line_skip : (body rest : List ℕ) → element (47 ∷ 47 ∷ (body ++ rest)) ≡ Skip (1 + prefix_len (λ c. not (is_line_terminator c)) (47 ∷ (body ++ rest))) false
unfolding element marked_element
line_skip body rest = refl

pub line_comment : (body rest : List ℕ) → list_any is_line_terminator body ≡ false → (next_is is_line_terminator rest ≡ false → rest ≡ []) → element (47 ∷ 47 ∷ (body ++ rest)) ≡ Skip (length (47 ∷ 47 ∷ body)) false
line_comment body rest none ends =
    let run = run_only (λ c. not (is_line_terminator c)) body rest (all_not is_line_terminator body none) (stops rest ends) in
    let size : 1 + prefix_len (λ c. not (is_line_terminator c)) (47 ∷ (body ++ rest)) ≡ length (47 ∷ 47 ∷ body) = omega (arith, run) in
    line_skip body rest ∙ ap (λ n. Skip n false) size

or_assoc : (a b c : Bool) → ((a || b) || c) ≡ (a || (b || c))
or_assoc true b c = refl
or_assoc false b c = refl

or_false : (a : Bool) → a ≡ (a || false)
or_false true = refl
or_false false = refl

block_reads : (i : ℕ) (line : Bool) (body rest : List ℕ) → has_no_end (body ++ (42 ∷ [])) ≡ true → block_from i line (body ++ (42 ∷ 47 ∷ rest)) ≡ Skip (i + length body + 2) (line || list_any is_line_terminator body)
unfolding block_from
block_reads i line [] rest h =
    let size : i + 2 ≡ i + 0 + 2 = omega arith in
    ap (λ n. Skip n line) size ∙ ap (Skip (i + 0 + 2)) (or_false line)
block_reads i line (c ∷ body) rest h =
    let two = and_parts (not (eqb c 42 && next_is (λ d. eqb d 47) (body ++ (42 ∷ [])))) _ h in
    let none : (eqb c 42 && eqb (slice_index (body ++ (42 ∷ 47 ∷ rest)) 0) 47) ≡ false = ap (λ x. eqb c 42 && x) (sym (head_same body rest)) ∙ not-true _ two.0 in
    let size : i + 1 + length body + 2 ≡ i + suc (length body) + 2 = omega arith in
    cond-false _ _ _ none ∙ block_reads (i + 1) (line || is_line_terminator c) body rest two.1
    ∙ ap (λ n. Skip n ((line || is_line_terminator c) || list_any is_line_terminator body)) size ∙ ap (Skip (i + suc (length body) + 2)) (or_assoc line (is_line_terminator c) (list_any is_line_terminator body))

block_skip : (cs : List ℕ) → element (47 ∷ 42 ∷ cs) ≡ block_from 2 false cs
unfolding element marked_element
block_skip cs = refl

pub block_comment : (body rest : List ℕ) → has_no_end (body ++ (42 ∷ [])) ≡ true → element ((47 ∷ 42 ∷ (body ++ (42 ∷ 47 ∷ []))) ++ rest) ≡ Skip (length (47 ∷ 42 ∷ (body ++ (42 ∷ 47 ∷ [])))) (list_any is_line_terminator body)
block_comment body rest h =
    let whole = ap (λ x. 47 ∷ 42 ∷ x) (append_assoc body (42 ∷ 47 ∷ []) rest) in
    let size : 2 + length body + 2 ≡ length (47 ∷ 42 ∷ (body ++ (42 ∷ 47 ∷ []))) = omega (arith, length-append body (42 ∷ 47 ∷ [])) in
    ap element whole ∙ block_skip (body ++ (42 ∷ 47 ∷ rest)) ∙ block_reads 2 false body rest h ∙ ap (λ n. Skip n (list_any is_line_terminator body)) size
