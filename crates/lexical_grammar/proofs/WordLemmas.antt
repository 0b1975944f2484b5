-- What is read at the start of an identifier.
use Rattle.std.proofs.Common.{◌≡◌, ℕ, ◌+◌, Bool, true, false, List, [], ◌∷◌, ◌++◌, suc, take, drop, refl, sym, ap, ◌∙◌, arith}
use Rattle.std.specs.Prelude.{eqb, slice_index}
use Rattle.std.specs.List.{list_all}
use Rattle.std.proofs.lemmas.Bool.{eqb-true, eqb-false}
use Rattle.std.proofs.lemmas.List.{take-append-drop, length-take-le, get_or-drop}
use Rattle.es6_lexer.specs.Classes.{run_of, goes_on, is_identifier_part}
use Rattle.es6_lexer.specs.Elements.{word_element}
use Rattle.es6_lexer.proofs.Runs.{run_within}
use Rattle.lexical_grammar.specs.Grammar.{IsWordOrFault}
use Rattle.lexical_grammar.proofs.Escapes.{by_cases}

-- a run passes its test, and what follows it does not
pub run_passes : (p : ℕ → Bool) (cs : List ℕ) → list_all p (take (run_of p cs) cs) ≡ true
run_passes p [] = refl
run_passes p (c ∷ cs) = by_cases (λ n. list_all p (take n (c ∷ cs)) ≡ true) (p c) _ _ (λ t. rw t (run_passes p cs)) (λ f. refl)

pub run_ends : (p : ℕ → Bool) (cs : List ℕ) → goes_on p (drop (run_of p cs) cs) ≡ false
run_ends p [] = refl
run_ends p (c ∷ cs) = by_cases (λ n. goes_on p (drop n (c ∷ cs)) ≡ false) (p c) _ _ (λ t. run_ends p cs) (λ f. f)

head_tail : (cs : List ℕ) (n : ℕ) → slice_index (drop n cs) 0 ≡ slice_index cs n
head_tail cs n = let e : n + 0 ≡ n = omega arith in get_or-drop n cs 0 0 ∙ ap (slice_index cs) e

-- a character that is not U+0000 stands in front
pub begins : (cs : List ℕ) (c : ℕ) → slice_index cs 0 ≡ suc c → (after : List ℕ) × (cs ≡ suc c ∷ after)
begins [] c e = cc
begins (x ∷ cs) c e = (cs, ap (λ y. y ∷ cs) e)

pub word_is : (first : ℕ) (rest : List ℕ) → IsWordOrFault rest (word_element (first ∷ rest))
word_is first rest =
    let n = run_of is_identifier_part rest in
    let parts = take n rest in
    let size = length-take-le n rest (run_within is_identifier_part rest) in
    let split = sym (take-append-drop n rest) in
    let one : 1 + n ≡ suc n = omega arith in
    let at : slice_index (first ∷ rest) (1 + n) ≡ slice_index (drop n rest) 0 = ap (slice_index (first ∷ rest)) one ∙ sym (head_tail rest n) in
    by_cases (IsWordOrFault rest) (eqb (slice_index (first ∷ rest) (1 + n)) 92) _ _
    (λ t. let slash = sym at ∙ eqb-true _ 92 t in let b = begins (drop n rest) 91 slash in
    (parts, b.0, split ∙ ap (λ x. parts ++ x) b.1, ap (λ m. 1 + m) (sym size), run_passes is_identifier_part rest, refl))
    (λ f. (parts, drop n rest, split, ap (λ m. 1 + m) (sym size), run_passes is_identifier_part rest, run_ends is_identifier_part rest, λ z. eqb-false _ 92 f (at ∙ z)))
