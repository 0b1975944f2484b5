-- What is read at the front of a text is spelled there.
use Rattle.std.proofs.Common.{◌≡◌, ℕ, ◌+◌, inl, inr, Bool, true, false, ◌&&◌, ◌||◌, List, [], ◌∷◌, length, refl, sym, ap, subst, ◌∙◌, arith, length-append}
use Rattle.std.specs.Prelude.{eqb, not, slice_index, Result, Ok, Err, IfOk}
use Rattle.std.specs.List.{prefix_len}
use Rattle.std.specs.Char.{is_ascii_digit}
use Rattle.std.proofs.lemmas.Bool.{eqb-true, and_parts}
use Rattle.es5_ast.specs.Lexical.{is_white_space, is_line_terminator, is_identifier_start}
use Rattle.es5_tokens.specs.declared.shape.Element.{Element}
use Rattle.es5_tokens.specs.declared.shape.Element.TheVariants.{Finished, Skip, Take, Stop}
use Rattle.es5_tokens.specs.declared.token.TokenFault.TheVariants.{Lexical, Number}
use Rattle.es5_tokens.specs.Quoted.{is_quote, block_comment}
use Rattle.es5_tokens.specs.Elements.{element, marked_element, slash_element, IsInside}
use Rattle.es5_tokens.proofs.Prefixes.{by_cases, begins}
use Rattle.es5_tokens.proofs.Read.{white_space, line_terminator, IsRead}
use Rattle.es5_tokens.proofs.Comments.{line_comment_is, block_comment_is}
use Rattle.es5_tokens.proofs.Digits.{number_is}
use Rattle.es5_tokens.proofs.Punctuators.{BeginsComment, punctuator_is}
use Rattle.es5_tokens.proofs.Texts.{text_element_is}
use Rattle.es5_tokens.proofs.Within.{is_there_by}
use Rattle.es5_tokens.proofs.Words.{word_is}

-- a comment begins with `/`, and `/` or `*` behind it
no_comment : (c : ℕ) (cs : List ℕ) → (eqb c 47 ≡ true → (eqb (slice_index cs 0) 47 || eqb (slice_index cs 0) 42) ≡ false) → BeginsComment (c ∷ cs) → ⊥
no_comment c [] h b = grind arith
no_comment c (d ∷ cs) h b = grind arith

slash_is : (cs : List ℕ) → IsRead (47 ∷ cs) (slash_element (47 ∷ cs))
slash_is cs =
    by_cases (IsRead (47 ∷ cs)) (eqb (slice_index cs 0) 47) _ _
    (λ t. let b = begins cs 46 (eqb-true _ 47 t) in
    subst (λ x. IsRead (47 ∷ x) (Skip (1 + prefix_len (λ c. not (is_line_terminator c)) x) false)) (sym b.1) (line_comment_is b.0))
    (λ f. by_cases (IsRead (47 ∷ cs)) (eqb (slice_index cs 0) 42) _ _
    (λ t. let b = begins cs 41 (eqb-true _ 42 t) in
    subst (λ x. IsRead (47 ∷ x) (block_comment (47 ∷ x))) (sym b.1) (block_comment_is b.0))
    (λ g. punctuator_is (47 ∷ cs) (omega arith) (no_comment 47 cs (λ t. rw (f, g) refl)) (λ e. let bad : 47 ≡ 46 = e in absurd (omega arith))))

point_then : (c : ℕ) (digit : Bool) → (eqb c 46 && digit) ≡ false → c ≡ 46 → digit ≡ false
point_then c true f e = let bad : (eqb c 46 && true) ≡ true = rw e refl in absurd (cc)
point_then c false f e = refl

marked_is : (c : ℕ) (cs : List ℕ) → IsRead (c ∷ cs) (marked_element (c ∷ cs))
unfolding marked_element
marked_is c cs =
    let P : Element → Type 0 = IsRead (c ∷ cs) in
    by_cases P (eqb c 47) _ _ (λ t. subst (λ x. IsRead (x ∷ cs) (slash_element (x ∷ cs))) (sym (eqb-true c 47 t)) (slash_is cs))
    (λ f. by_cases P (eqb c 46 && is_ascii_digit (slice_index cs 0)) _ _
    (λ t. number_is (c ∷ cs) (omega arith) (let two = and_parts (eqb c 46) _ t in inr (eqb-true c 46 two.0, two.1)))
    (λ g. punctuator_is (c ∷ cs) (omega arith) (no_comment c cs (λ t. let bad : true ≡ false = sym t ∙ f in cc)) (point_then c (is_ascii_digit (slice_index cs 0)) g)))

pub element_is : (cs : List ℕ) → IsRead cs (element cs)
unfolding element
element_is [] = refl
element_is (c ∷ cs) =
    let P : Element → Type 0 = IsRead (c ∷ cs) in
    by_cases P (is_identifier_start c) _ _ (λ t. word_is c cs t)
    (λ w. by_cases P (is_white_space c) _ _ (λ t. (c ∷ [], cs, refl, refl, omega arith, white_space c cs t))
    (λ s. by_cases P (is_line_terminator c) _ _ (λ t. (c ∷ [], cs, refl, refl, omega arith, line_terminator c cs t))
    (λ l. by_cases P (is_ascii_digit c) _ _ (λ t. number_is (c ∷ cs) (omega arith) (inl t))
    (λ d. by_cases P (is_quote c) _ _ (λ t. text_element_is c cs t)
    (λ q. marked_is c cs)))))

-- an element is inside of the text
inside : (cs : List ℕ) (e : Element) → IsRead cs e → IsInside (length cs) e
inside cs Finished h = tt
inside cs (Skip n line) (text, rest, split, size, some, gap) = (some, omega (arith, size, ap length split, length-append text rest))
inside cs (Take kind n) (text, rest, split, size, some, spelled, whole) = (some, omega (arith, size, ap length split, length-append text rest))
inside cs (Stop Lexical at) h = h
inside cs (Stop Number at) (first, inl digit) = omega (arith, first, is_there_by is_ascii_digit cs 0 refl digit)
inside cs (Stop Number at) (first, inr point) = omega (arith, first, is_there_by is_ascii_digit cs 1 refl point.1)

pub element_inside : (cs : List ℕ) → IsInside (length cs) (element cs)
element_inside cs = inside cs (element cs) (element_is cs)

pub element_nil : (cs : List ℕ) → length cs ≡ 0 → Finished ≡ element cs
unfolding element
element_nil [] h = refl
element_nil (c ∷ cs) h = absurd (omega arith)

pub result_inside : {E : Type 0} (cs : List ℕ) (r : Result Element E) → IfOk r (λ e. e ≡ element cs) → IfOk r (λ e. IsInside (length cs) e)
result_inside cs (Ok e) h = subst (IsInside (length cs)) (sym h) (element_inside cs)
result_inside cs (Err e) h = tt
