-- What is read at `//` and at `/*`.
use Rattle.std.proofs.Common.{◌≡◌, ℕ, ◌+◌, Bool, true, false, ◌&&◌, ◌||◌, List, [], ◌∷◌, ◌++◌, length, take, drop, refl, sym, ap, subst, ◌∙◌, arith, length-append, append_assoc}
use Rattle.std.specs.Prelude.{eqb, not, slice_index}
use Rattle.std.specs.List.{list_any, list_all, prefix_len}
use Rattle.std.proofs.lemmas.Bool.{eqb-true, and_parts, not-true}
use Rattle.std.proofs.lemmas.List.{take-append-drop, length-take-le}
use Rattle.es5_ast.specs.Lexical.{is_line_terminator, next_is, has_no_end}
use Rattle.es5_tokens.specs.declared.shape.Element.{Element}
use Rattle.es5_tokens.specs.declared.shape.Element.TheVariants.{Finished, Skip, Take, Stop}
use Rattle.es5_tokens.specs.declared.token.TokenFault.TheVariants.{Lexical, Number}
use Rattle.es5_tokens.specs.Quoted.{block_from, block_comment}
use Rattle.es5_tokens.proofs.Prefixes.{by_cases, run_within, run_passes, run_ends, begins}
use Rattle.es5_tokens.proofs.Read.{single_line_comment, multi_line_comment, IsGap, IsRead}

none_of : (p : ℕ → Bool) (cs : List ℕ) → list_all (λ c. not (p c)) cs ≡ true → list_any p cs ≡ false
none_of p [] h = refl
none_of p (c ∷ cs) h = let two = and_parts (not (p c)) _ h in rw (not-true (p c) two.0, none_of p cs two.1) refl

ends_line : (cs : List ℕ) → next_is (λ c. not (is_line_terminator c)) cs ≡ false → next_is is_line_terminator cs ≡ false → cs ≡ []
ends_line [] h l = refl
ends_line (c ∷ cs) h l = let bad : not (is_line_terminator c) ≡ true = rw l refl in cc

pub line_comment_is : (cs : List ℕ) → IsRead (47 ∷ 47 ∷ cs) (Skip (1 + prefix_len (λ c. not (is_line_terminator c)) (47 ∷ cs)) false)
line_comment_is cs =
    let p : ℕ → Bool = λ c. not (is_line_terminator c) in
    let n = prefix_len p cs in
    let size = length-take-le n cs (run_within p cs) in (
      47 ∷ 47 ∷ take n cs,
      drop n cs,
      ap (λ x. 47 ∷ 47 ∷ x) (sym (take-append-drop n cs)),
      omega (arith, size),
      omega arith,
      single_line_comment (47 ∷ 47 ∷ take n cs) (take n cs) (drop n cs) refl (none_of is_line_terminator (take n cs) (run_passes p cs)) (ends_line (drop n cs) (run_ends p cs)),
    )

-- behind `/*`, of which i characters were read
abbrev IsComment : ℕ → Bool → List ℕ → Element → Type 0
IsComment i line cs (Skip n more) = (body : List ℕ) × (after : List ℕ) × (cs ≡ body ++ (42 ∷ 47 ∷ after)) × (n ≡ i + length body + 2) × (has_no_end (body ++ (42 ∷ [])) ≡ true) × (more ≡ (line || list_any is_line_terminator body))
IsComment i line cs (Stop Lexical at) = at ≡ 0
IsComment i line cs (Stop Number at) = ⊥
IsComment i line cs Finished = ⊥
IsComment i line cs (Take kind n) = ⊥

or_assoc : (a b c : Bool) → ((a || b) || c) ≡ (a || (b || c))
or_assoc true b c = refl
or_assoc false b c = refl

or_false : (a : Bool) → a ≡ (a || false)
or_false true = refl
or_false false = refl

-- the character behind is the same with or without what comes later
pub head_same : (body after : List ℕ) → next_is (λ d. eqb d 47) (body ++ (42 ∷ [])) ≡ eqb (slice_index (body ++ (42 ∷ 47 ∷ after)) 0) 47
head_same [] after = refl
head_same (x ∷ body) after = refl

more_comment : (i c : ℕ) (line : Bool) (cs : List ℕ) (e : Element) → (eqb c 42 && eqb (slice_index cs 0) 47) ≡ false → IsComment (i + 1) (line || is_line_terminator c) cs e → IsComment i line (c ∷ cs) e
more_comment i c line cs (Skip n more) f (body, after, split, size, open_still, mark) =
    let none : (eqb c 42 && next_is (λ d. eqb d 47) (body ++ (42 ∷ []))) ≡ false =
    ap (λ x. eqb c 42 && x) (head_same body after) ∙ ap (λ x. eqb c 42 && eqb (slice_index x 0) 47) (sym split) ∙ f in
    (c ∷ body, after, ap (λ x. c ∷ x) split, omega (arith, size), rw (none, open_still) refl, mark ∙ or_assoc line (is_line_terminator c) (list_any is_line_terminator body))
more_comment i c line cs (Stop Lexical at) f h = h
more_comment i c line cs (Stop Number at) f h = absurd h
more_comment i c line cs Finished f h = absurd h
more_comment i c line cs (Take kind n) f h = absurd h

comment_is : (i : ℕ) (line : Bool) (cs : List ℕ) → IsComment i line cs (block_from i line cs)
unfolding block_from
comment_is i line [] = refl
comment_is i line (c ∷ cs) =
    by_cases (IsComment i line (c ∷ cs)) (eqb c 42 && eqb (slice_index cs 0) 47) _ _
    (λ t. let star = and_parts _ _ t in let slash = begins cs 46 (eqb-true (slice_index cs 0) 47 star.1) in
    ([], slash.0, ap (λ x. x ∷ cs) (eqb-true c 42 star.0) ∙ ap (λ x. 42 ∷ x) slash.1, omega arith, refl, or_false line))
    (λ f. more_comment i c line cs _ f (comment_is (i + 1) (line || is_line_terminator c) cs))

read_comment : (cs : List ℕ) (e : Element) → IsComment 2 false cs e → IsRead (47 ∷ 42 ∷ cs) e
read_comment cs (Skip n more) (body, after, split, size, open_still, mark) =
    let text = 47 ∷ 42 ∷ (body ++ (42 ∷ 47 ∷ [])) in
    let whole : cs ≡ (body ++ (42 ∷ 47 ∷ [])) ++ after = split ∙ sym (append_assoc body (42 ∷ 47 ∷ []) after) in (
      text,
      after,
      ap (λ x. 47 ∷ 42 ∷ x) whole,
      omega (arith, size, length-append body (42 ∷ 47 ∷ [])),
      omega (arith, size),
      subst (λ m. IsGap text after m) (sym mark) (multi_line_comment text body after refl open_still),
    )
read_comment cs (Stop Lexical at) h = omega (arith, h)
read_comment cs (Stop Number at) h = absurd h
read_comment cs Finished h = absurd h
read_comment cs (Take kind n) h = absurd h

pub block_comment_is : (cs : List ℕ) → IsRead (47 ∷ 42 ∷ cs) (block_comment (47 ∷ 42 ∷ cs))
block_comment_is cs = read_comment cs _ (comment_is 2 false cs)
