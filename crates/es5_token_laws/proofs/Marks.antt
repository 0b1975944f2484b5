-- Punctuators are read as they are spelled.
use Rattle.std.proofs.Common.{◌≡◌, ℕ, ◌≤◌, inl, inr, Bool, true, false, ◌&&◌, ◌||◌, List, [], ◌∷◌, ◌++◌, length, take, map, codes, refl, sym, ap, subst, ◌∙◌, arith}
use Rattle.std.specs.Prelude.{eqb, nat_le, not, slice_index}
use Rattle.std.specs.List.{list_all, list_any, starts_with}
use Rattle.std.specs.Str.{bytes_eq}
use Rattle.std.specs.Char.{is_ascii_digit}
use Rattle.std.proofs.lemmas.Bool.{and_parts, and_from, or_cases, or_parts, not-true, cond-false, eq-eqb, leb-true}
use Rattle.std.proofs.lemmas.List.{take_at}
use lib.Pointwise.{pointwise}
use Rattle.es5_ast.specs.Lexical.{punctuators, is_one_of, is_longest_punctuator, next_is}
use Rattle.es5_tokens.specs.declared.token.Punctuator.{Punctuator}
use Rattle.es5_tokens.specs.declared.token.Punctuator.TheVariants.{LeftBrace, RightBrace, LeftParenthesis, RightParenthesis, LeftBracket, RightBracket, Dot, Semicolon, Comma, LessThan, GreaterThan, LessOrEqual, GreaterOrEqual, Equals, NotEquals, StrictEquals, StrictNotEquals, Plus, Minus, Star, Percent, PlusPlus, MinusMinus, ShiftLeft, ShiftRight, ShiftRightUnsigned, Ampersand, Bar, Caret, Exclamation, Tilde, AmpersandAmpersand, BarBar, Question, Colon, Assign, PlusAssign, MinusAssign, StarAssign, PercentAssign, ShiftLeftAssign, ShiftRightAssign, ShiftRightUnsignedAssign, AmpersandAssign, BarAssign, CaretAssign, Slash, SlashAssign}
use Rattle.es5_tokens.specs.declared.token.TokenKind.TheVariants as kinds
use Rattle.es5_tokens.specs.declared.token.TokenFault.TheVariants.{Lexical, Number}
use Rattle.es5_tokens.specs.declared.shape.Element.{Element}
use Rattle.es5_tokens.specs.declared.shape.Element.TheVariants.{Finished, Skip, Take, Stop}
use Rattle.es5_tokens.specs.Punctuators.{spelling, punctuator_element}
use Rattle.es5_tokens.specs.Elements.{element, marked_element}
use Rattle.es5_tokens.proofs.Punctuators.{IsSpelled, element_spelled, IsAtLeast, reads_own, all_of, punctuators_are, is_known, same_lists}

-- a punctuator is read where one is spelled, unless a comment or a number begins there
begins : (p : Punctuator) (rest : List ℕ) → (spelling p ≡ codes "/" → (eqb (slice_index rest 0) 47 || eqb (slice_index rest 0) 42) ≡ false) → (spelling p ≡ codes "." → is_ascii_digit (slice_index rest 0) ≡ false)
    → element (spelling p ++ rest) ≡ punctuator_element (spelling p ++ rest)
unfolding element marked_element
begins Slash rest slash point = let two = or_parts (eqb (slice_index rest 0) 47) _ (slash refl) in cond-false (eqb (slice_index rest 0) 47) _ _ two.0 ∙ cond-false (eqb (slice_index rest 0) 42) _ _ two.1
begins Dot rest slash point = cond-false (is_ascii_digit (slice_index rest 0)) _ _ (point refl)
begins LeftBrace rest slash point = refl
begins RightBrace rest slash point = refl
begins LeftParenthesis rest slash point = refl
begins RightParenthesis rest slash point = refl
begins LeftBracket rest slash point = refl
begins RightBracket rest slash point = refl
begins Semicolon rest slash point = refl
begins Comma rest slash point = refl
begins LessThan rest slash point = refl
begins GreaterThan rest slash point = refl
begins LessOrEqual rest slash point = refl
begins GreaterOrEqual rest slash point = refl
begins Equals rest slash point = refl
begins NotEquals rest slash point = refl
begins StrictEquals rest slash point = refl
begins StrictNotEquals rest slash point = refl
begins Plus rest slash point = refl
begins Minus rest slash point = refl
begins Star rest slash point = refl
begins Percent rest slash point = refl
begins PlusPlus rest slash point = refl
begins MinusMinus rest slash point = refl
begins ShiftLeft rest slash point = refl
begins ShiftRight rest slash point = refl
begins ShiftRightUnsigned rest slash point = refl
begins Ampersand rest slash point = refl
begins Bar rest slash point = refl
begins Caret rest slash point = refl
begins Exclamation rest slash point = refl
begins Tilde rest slash point = refl
begins AmpersandAmpersand rest slash point = refl
begins BarBar rest slash point = refl
begins Question rest slash point = refl
begins Colon rest slash point = refl
begins Assign rest slash point = refl
begins PlusAssign rest slash point = refl
begins MinusAssign rest slash point = refl
begins StarAssign rest slash point = refl
begins PercentAssign rest slash point = refl
begins ShiftLeftAssign rest slash point = refl
begins ShiftRightAssign rest slash point = refl
begins ShiftRightUnsignedAssign rest slash point = refl
begins AmpersandAssign rest slash point = refl
begins BarAssign rest slash point = refl
begins CaretAssign rest slash point = refl
begins SlashAssign rest slash point = refl

-- the row of the definition that is a punctuator's
of_rows : (p : List ℕ) (all : List Punctuator) → list_any (bytes_eq p) (map spelling all) ≡ true → (q : Punctuator) × (p ≡ spelling q)
of_rows p [] h = cc
of_rows p (q ∷ all) h = elim (or_cases (bytes_eq p (spelling q)) _ h) [
  | inl here ↦ (q, same_lists p (spelling q) here)
  | inr there ↦ of_rows p all there
]

known : (p : List ℕ) → is_one_of p punctuators ≡ true → (q : Punctuator) × (p ≡ spelling q)
known p h = of_rows p all_of (ap (list_any (bytes_eq p)) (sym punctuators_are) ∙ h)

same_itself : (a : List ℕ) → pointwise (λ x y. eqb x y) a a ≡ true
same_itself [] = refl
same_itself (x ∷ a) = and_from (eqb x x) _ (eq-eqb x x refl) (same_itself a)

starts : (q more : List ℕ) → starts_with (λ x y. eqb x y) (q ++ more) q ≡ true
starts q more = ap (pointwise (λ x y. eqb x y) q) (take_at q more (length q) refl) ∙ same_itself q

-- of all that stands in front none is longer
no_longer : (p q rest : List ℕ) (n : ℕ) (more : List ℕ) → (nat_le (length q) n || not (starts_with (λ x y. eqb x y) (p ++ rest) q)) ≡ true → p ++ rest ≡ q ++ more → length q ≤ n
no_longer p q rest n more h split = elim (or_cases (nat_le (length q) n) _ h) [
  | inl short ↦ leb-true (length q) n short
  | inr away ↦ (let there = ap (λ x. starts_with (λ x y. eqb x y) x q) split ∙ starts q more in let gone = not-true _ away in absurd (cc))
]

member : (f : List ℕ → Bool) (p : List ℕ) (all : List (List ℕ)) → list_all f all ≡ true → list_any (bytes_eq p) all ≡ true → f p ≡ true
member f p [] h m = cc
member f p (q ∷ all) h m =
    let two = and_parts (f q) _ h in
    elim (or_cases (bytes_eq p q) _ m) [
      | inl here ↦ ap f (same_lists p q here) ∙ two.0
      | inr there ↦ member f p all two.1 there
    ]

same_front : (p q rest more : List ℕ) → p ++ rest ≡ q ++ more → length q ≡ length p → p ≡ q
same_front p q rest more split size = sym (take_at p rest (length p) refl) ∙ ap (take (length p)) split ∙ take_at q more (length p) size

-- what is read at the longest punctuator is that one
reads : (p : Punctuator) (rest : List ℕ) (e : Element) → is_longest_punctuator (spelling p) rest ≡ true → IsSpelled (spelling p ++ rest) e → IsAtLeast (length (spelling p)) e
    → (q : Punctuator) × (spelling q ≡ spelling p) × (e ≡ Take (kinds.Punctuator q) (length (spelling p)))
reads p rest (Take (kinds.Punctuator q) n) longest (more, split, size) least =
    let pass : List ℕ → Bool = λ r. nat_le (length r) (length (spelling p)) || not (starts_with (λ a b. eqb a b) (spelling p ++ rest) r) in
    let rows = (and_parts (pass (codes "/*")) _ (and_parts (pass (codes "//")) _ longest).1).1 in
    let most : length (spelling q) ≤ length (spelling p) = no_longer (spelling p) (spelling q) rest (length (spelling p)) more (member pass (spelling q) punctuators rows (is_known q)) split in
    let same : length (spelling q) ≡ length (spelling p) = omega (arith, most, size, least) in
    (q, sym (same_front (spelling p) (spelling q) rest more split same), ap (Take (kinds.Punctuator q)) (size ∙ same))
reads p rest (Take (kinds.Word name) n) longest h least = absurd h
reads p rest (Take (kinds.Integer value) n) longest h least = absurd h
reads p rest (Take (kinds.Text us) n) longest h least = absurd h
reads p rest (Stop Lexical at) longest h least = absurd least
reads p rest (Stop Number at) longest h least = absurd h
reads p rest (Skip n line) longest h least = absurd h
reads p rest Finished longest h least = absurd h

-- no comment begins at the longest punctuator
slash_ends : (p rest : List ℕ) → is_longest_punctuator p rest ≡ true → p ≡ codes "/" → (eqb (slice_index rest 0) 47 || eqb (slice_index rest 0) 42) ≡ false
slash_ends p [] longest e = refl
slash_ends p (c ∷ rest) longest e =
    let alone : is_longest_punctuator (codes "/") (c ∷ rest) ≡ true = subst (λ x. is_longest_punctuator x (c ∷ rest) ≡ true) e longest in
    let line = and_parts (nat_le 2 1 || not (starts_with (λ a b. eqb a b) (47 ∷ c ∷ rest) (codes "//"))) _ alone in
    let block = and_parts (nat_le 2 1 || not (starts_with (λ a b. eqb a b) (47 ∷ c ∷ rest) (codes "/*"))) _ line.1 in
    grind (arith, line.0, block.0)

point_ends : (p rest : List ℕ) → not (bytes_eq p (codes ".") && next_is is_ascii_digit rest) ≡ true → p ≡ codes "." → is_ascii_digit (slice_index rest 0) ≡ false
point_ends p [] h e = refl
point_ends p (c ∷ rest) h e = let alone : not (is_ascii_digit c) ≡ true = subst (λ x. not (bytes_eq x (codes ".") && is_ascii_digit c) ≡ true) e h in not-true _ alone

pub punctuator_reads : (p rest : List ℕ) → is_one_of p punctuators ≡ true → is_longest_punctuator p rest ≡ true → not (bytes_eq p (codes ".") && next_is is_ascii_digit rest) ≡ true
    → (q : Punctuator) × (spelling q ≡ p) × (element (p ++ rest) ≡ Take (kinds.Punctuator q) (length p))
punctuator_reads p rest one longest point =
    let is = known p one in
    let q = is.0 in
    let found = reads q rest (punctuator_element (spelling q ++ rest)) (subst (λ x. is_longest_punctuator x rest ≡ true) is.1 longest) (element_spelled (spelling q ++ rest)) (reads_own q rest) in
    let begin = begins q rest (λ e. slash_ends p rest longest (is.1 ∙ e)) (λ e. point_ends p rest point (is.1 ∙ e)) in (
      found.0,
      found.1 ∙ sym is.1,
      ap (λ x. element (x ++ rest)) is.1 ∙ begin ∙ found.2 ∙ ap (λ x. Take (kinds.Punctuator found.0) (length x)) (sym is.1),
    )
