-- The punctuator at the front is the longest that is spelled there.
use Rattle.std.proofs.Common.{◌≡◌, ℕ, ◌+◌, ◌≤◌, Bool, true, false, cond, ◌&&◌, List, [], ◌∷◌, ◌++◌, length, refl, sym, ap, subst, ◌∙◌, arith, length-append, append_assoc}
use Rattle.std.specs.Prelude.{eqb, slice_index, Option, None, Some}
use Rattle.std.proofs.lemmas.Bool.{eqb-true}
use Rattle.es6_lexer.specs.declared.token.Punctuator.{Punctuator}
use Rattle.es6_lexer.specs.declared.token.Punctuator.TheVariants.{LeftBrace, RightBrace, LeftParenthesis, RightParenthesis, LeftBracket, RightBracket, Dot, Ellipsis, Semicolon, Comma, LessThan, GreaterThan, LessOrEqual, GreaterOrEqual, Equals, NotEquals, StrictEquals, StrictNotEquals, Plus, Minus, Star, Slash, Percent, StarStar, PlusPlus, MinusMinus, ShiftLeft, ShiftRight, ShiftRightUnsigned, Ampersand, Bar, Caret, Exclamation, Tilde, AmpersandAmpersand, BarBar, Question, Colon, Assign, PlusAssign, MinusAssign, StarAssign, SlashAssign, PercentAssign, StarStarAssign, ShiftLeftAssign, ShiftRightAssign, ShiftRightUnsignedAssign, AmpersandAssign, BarAssign, CaretAssign, Arrow}
use Rattle.es6_lexer.specs.declared.token.LexicalKind.TheVariants.{BadCharacter}
use Rattle.es6_lexer.specs.declared.shape.Element.{Element}
use Rattle.es6_lexer.specs.declared.shape.Element.TheVariants.{Finished, Skip, Take, Stop}
use Rattle.es6_lexer.specs.declared.shape.Shape.TheVariants.{OfWord, OfPunctuator, OfNumber, OfText, OfTemplate}
use Rattle.es6_lexer.specs.Punctuators.{spelling, beside, singles, single, extensions, extended, taken, grown, longest_from, punctuator_element}
use Rattle.lexical_grammar.specs.Grammar.{IsPunctuator}
use Rattle.lexical_grammar.proofs.Escapes.{by_cases, both}

-- the rows spell what stands before and one character more
abbrev AreSpelled : List ℕ → List (ℕ × Punctuator) → Type 0
AreSpelled front [] = Unit {0}
AreSpelled front (row ∷ rows) = (spelling row.1 ≡ front ++ (row.0 ∷ [])) × AreSpelled front rows

beside_spelled : (front : List ℕ) (rows : List (ℕ × Punctuator)) (c : ℕ) (q : Punctuator) → AreSpelled front rows → beside c rows ≡ Some q → spelling q ≡ front ++ (c ∷ [])
beside_spelled front [] c q ok e = cc
beside_spelled front (row ∷ rows) c q ok e =
    by_cases (λ o. o ≡ Some q → spelling q ≡ front ++ (c ∷ [])) (eqb c row.0) (Some row.1) (beside c rows)
    (λ t. λ s. let same : row.1 ≡ q = cc in ap spelling (sym same) ∙ ok.0 ∙ ap (λ x. front ++ (x ∷ [])) (sym (eqb-true c row.0 t)))
    (λ f. λ s. beside_spelled front rows c q ok.1 s) e

extensions_spelled : (p : Punctuator) → AreSpelled (spelling p) (extensions p)
extensions_spelled LeftBrace = tt
extensions_spelled RightBrace = tt
extensions_spelled LeftParenthesis = tt
extensions_spelled RightParenthesis = tt
extensions_spelled LeftBracket = tt
extensions_spelled RightBracket = tt
extensions_spelled Dot = tt
extensions_spelled Ellipsis = tt
extensions_spelled Semicolon = tt
extensions_spelled Comma = tt
extensions_spelled LessThan = (refl, (refl, tt))
extensions_spelled GreaterThan = (refl, (refl, tt))
extensions_spelled LessOrEqual = tt
extensions_spelled GreaterOrEqual = tt
extensions_spelled Equals = (refl, tt)
extensions_spelled NotEquals = (refl, tt)
extensions_spelled StrictEquals = tt
extensions_spelled StrictNotEquals = tt
extensions_spelled Plus = (refl, (refl, tt))
extensions_spelled Minus = (refl, (refl, tt))
extensions_spelled Star = (refl, (refl, tt))
extensions_spelled Slash = (refl, tt)
extensions_spelled Percent = (refl, tt)
extensions_spelled StarStar = (refl, tt)
extensions_spelled PlusPlus = tt
extensions_spelled MinusMinus = tt
extensions_spelled ShiftLeft = (refl, tt)
extensions_spelled ShiftRight = (refl, (refl, tt))
extensions_spelled ShiftRightUnsigned = (refl, tt)
extensions_spelled Ampersand = (refl, (refl, tt))
extensions_spelled Bar = (refl, (refl, tt))
extensions_spelled Caret = (refl, tt)
extensions_spelled Exclamation = (refl, tt)
extensions_spelled Tilde = tt
extensions_spelled AmpersandAmpersand = tt
extensions_spelled BarBar = tt
extensions_spelled Question = tt
extensions_spelled Colon = tt
extensions_spelled Assign = (refl, (refl, tt))
extensions_spelled PlusAssign = tt
extensions_spelled MinusAssign = tt
extensions_spelled StarAssign = tt
extensions_spelled SlashAssign = tt
extensions_spelled PercentAssign = tt
extensions_spelled StarStarAssign = tt
extensions_spelled ShiftLeftAssign = tt
extensions_spelled ShiftRightAssign = tt
extensions_spelled ShiftRightUnsignedAssign = tt
extensions_spelled AmpersandAssign = tt
extensions_spelled BarAssign = tt
extensions_spelled CaretAssign = tt
extensions_spelled Arrow = tt

singles_spelled : AreSpelled [] singles
singles_spelled = (refl, (refl, (refl, (refl, (refl, (refl, (refl, (refl, (refl, (refl, (refl, (refl, (refl, (refl, (refl, (refl, (refl, (refl, (refl, (refl, (refl, (refl, (refl, (refl, tt))))))))))))))))))))))))

-- a result of at least so many characters
abbrev pub IsAtLeast : ℕ → Element → Type 0
IsAtLeast k (Take shape n) = k ≤ n
IsAtLeast k (Skip n line) = k ≤ n
IsAtLeast k Finished = ⊥
IsAtLeast k (Stop kind at) = ⊥

at_least_more : (k m : ℕ) (e : Element) → m ≤ k → IsAtLeast k e → IsAtLeast m e
at_least_more k m (Take shape n) h l = omega arith
at_least_more k m (Skip n line) h l = omega arith
at_least_more k m Finished h l = absurd l
at_least_more k m (Stop kind at) h l = absurd l

grown_least : (p : Punctuator) (n : ℕ) (cs : List ℕ) → IsAtLeast n (grown p n cs)
grown_least p n [] = omega arith
grown_least p n (c ∷ cs) = elim (extended p c) as (λ o. IsAtLeast n (elim o [ None ↦ Take (OfPunctuator p) n | Some q ↦ grown q (n + 1) cs ])) [
  | None ↦ omega arith
  | Some q ↦ at_least_more (n + 1) n (grown q (n + 1) cs) (omega arith) (grown_least q (n + 1) cs)
]

by_cond : {A : Type 0} (P : A → Type 0) (b : Bool) (x y : A) → P x → P y → P (cond b x y)
by_cond P true x y p q = p
by_cond P false x y p q = q

-- where a punctuator is spelled, one of at least its characters is read
reads_own : (q : Punctuator) (more : List ℕ) → IsAtLeast (length (spelling q)) (punctuator_element (spelling q ++ more))
reads_own LeftBrace more = grown_least LeftBrace 1 more
reads_own RightBrace more = grown_least RightBrace 1 more
reads_own LeftParenthesis more = grown_least LeftParenthesis 1 more
reads_own RightParenthesis more = grown_least RightParenthesis 1 more
reads_own LeftBracket more = grown_least LeftBracket 1 more
reads_own RightBracket more = grown_least RightBracket 1 more
reads_own Dot more = by_cond (IsAtLeast 1) (eqb (slice_index more 0) 46 && eqb (slice_index more 1) 46) _ _ (omega arith) (grown_least Dot 1 more)
reads_own Ellipsis more = omega arith
reads_own Semicolon more = grown_least Semicolon 1 more
reads_own Comma more = grown_least Comma 1 more
reads_own LessThan more = grown_least LessThan 1 more
reads_own GreaterThan more = grown_least GreaterThan 1 more
reads_own LessOrEqual more = grown_least LessOrEqual 2 more
reads_own GreaterOrEqual more = grown_least GreaterOrEqual 2 more
reads_own Equals more = grown_least Equals 2 more
reads_own NotEquals more = grown_least NotEquals 2 more
reads_own StrictEquals more = grown_least StrictEquals 3 more
reads_own StrictNotEquals more = grown_least StrictNotEquals 3 more
reads_own Plus more = grown_least Plus 1 more
reads_own Minus more = grown_least Minus 1 more
reads_own Star more = grown_least Star 1 more
reads_own Slash more = grown_least Slash 1 more
reads_own Percent more = grown_least Percent 1 more
reads_own StarStar more = grown_least StarStar 2 more
reads_own PlusPlus more = grown_least PlusPlus 2 more
reads_own MinusMinus more = grown_least MinusMinus 2 more
reads_own ShiftLeft more = grown_least ShiftLeft 2 more
reads_own ShiftRight more = grown_least ShiftRight 2 more
reads_own ShiftRightUnsigned more = grown_least ShiftRightUnsigned 3 more
reads_own Ampersand more = grown_least Ampersand 1 more
reads_own Bar more = grown_least Bar 1 more
reads_own Caret more = grown_least Caret 1 more
reads_own Exclamation more = grown_least Exclamation 1 more
reads_own Tilde more = grown_least Tilde 1 more
reads_own AmpersandAmpersand more = grown_least AmpersandAmpersand 2 more
reads_own BarBar more = grown_least BarBar 2 more
reads_own Question more = grown_least Question 1 more
reads_own Colon more = grown_least Colon 1 more
reads_own Assign more = grown_least Assign 1 more
reads_own PlusAssign more = grown_least PlusAssign 2 more
reads_own MinusAssign more = grown_least MinusAssign 2 more
reads_own StarAssign more = grown_least StarAssign 2 more
reads_own SlashAssign more = grown_least SlashAssign 2 more
reads_own PercentAssign more = grown_least PercentAssign 2 more
reads_own StarStarAssign more = grown_least StarStarAssign 3 more
reads_own ShiftLeftAssign more = grown_least ShiftLeftAssign 3 more
reads_own ShiftRightAssign more = grown_least ShiftRightAssign 3 more
reads_own ShiftRightUnsignedAssign more = grown_least ShiftRightUnsignedAssign 4 more
reads_own AmpersandAssign more = grown_least AmpersandAssign 2 more
reads_own BarAssign more = grown_least BarAssign 2 more
reads_own CaretAssign more = grown_least CaretAssign 2 more
reads_own Arrow more = grown_least Arrow 2 more

-- what is read is spelled in front, or nothing is read
abbrev IsSpelled : List ℕ → Element → Type 0
IsSpelled rest (Take (OfPunctuator p) n) = (after : List ℕ) × (rest ≡ spelling p ++ after) × (n ≡ length (spelling p))
IsSpelled rest (Take OfWord n) = ⊥
IsSpelled rest (Take (OfNumber v) n) = ⊥
IsSpelled rest (Take OfText n) = ⊥
IsSpelled rest (Take (OfTemplate last) n) = ⊥
IsSpelled rest Finished = ⊥
IsSpelled rest (Skip n line) = ⊥
IsSpelled rest (Stop kind at) = (kind ≡ BadCharacter) × (at ≡ 0)

grown_next : (p : Punctuator) (n c : ℕ) (cs : List ℕ) (o : Option Punctuator) → extended p c ≡ o → n ≡ length (spelling p)
    → ((q : Punctuator) → n + 1 ≡ length (spelling q) → IsSpelled (spelling q ++ cs) (grown q (n + 1) cs))
    → IsSpelled (spelling p ++ (c ∷ cs)) (elim o [ None ↦ Take (OfPunctuator p) n | Some q ↦ grown q (n + 1) cs ])
grown_next p n c cs None e h ih = (c ∷ cs, refl, h)
grown_next p n c cs (Some q) e h ih =
    let more = beside_spelled (spelling p) (extensions p) c q (extensions_spelled p) e in
    let same : spelling q ++ cs ≡ spelling p ++ (c ∷ cs) = ap (λ x. x ++ cs) more ∙ append_assoc (spelling p) (c ∷ []) cs in
    let size : n + 1 ≡ length (spelling q) = omega (arith, h, ap length more, length-append (spelling p) (c ∷ [])) in
    subst (λ x. IsSpelled x (grown q (n + 1) cs)) same (ih q size)

grown_spelled : (p : Punctuator) (n : ℕ) (cs : List ℕ) → n ≡ length (spelling p) → IsSpelled (spelling p ++ cs) (grown p n cs)
grown_spelled p n [] h = ([], refl, h)
grown_spelled p n (c ∷ cs) h = grown_next p n c cs (extended p c) refl h (λ q size. grown_spelled q (n + 1) cs size)

single_spelled : (c : ℕ) (cs : List ℕ) (o : Option Punctuator) → single c ≡ o → IsSpelled (c ∷ cs) (longest_from o (c ∷ cs))
single_spelled c cs None e = (refl, refl)
single_spelled c cs (Some p) e =
    let one = beside_spelled [] singles c p singles_spelled e in
    subst (λ x. IsSpelled x (grown p 1 cs)) (ap (λ x. x ++ cs) one) (grown_spelled p 1 cs (sym (ap length one)))

ellipsis_spelled : (cs : List ℕ) → slice_index cs 0 ≡ 46 → slice_index cs 1 ≡ 46 → slice_index cs 2 ≡ 46 → IsSpelled cs (taken Ellipsis 3)
ellipsis_spelled [] a b c = cc
ellipsis_spelled (x ∷ []) a b c = cc
ellipsis_spelled (x ∷ y ∷ []) a b c = cc
ellipsis_spelled (x ∷ y ∷ z ∷ cs) a b c = (cs, ap (λ t. t ∷ y ∷ z ∷ cs) a ∙ ap (λ t. 46 ∷ t ∷ z ∷ cs) b ∙ ap (λ t. 46 ∷ 46 ∷ t ∷ cs) c, refl)

none_spelled : (cs : List ℕ) → IsSpelled cs (longest_from (single (slice_index cs 0)) cs)
none_spelled [] = (refl, refl)
none_spelled (c ∷ cs) = single_spelled c cs (single c) refl

element_spelled : (cs : List ℕ) → IsSpelled cs (punctuator_element cs)
element_spelled cs =
    by_cases (IsSpelled cs) (eqb (slice_index cs 0) 46 && eqb (slice_index cs 1) 46 && eqb (slice_index cs 2) 46) _ _
    (λ t. let last = both _ _ t in let first = both _ _ last.0 in
    ellipsis_spelled cs (eqb-true (slice_index cs 0) 46 first.0) (eqb-true (slice_index cs 1) 46 first.1) (eqb-true (slice_index cs 2) 46 last.1))
    (λ f. none_spelled cs)

with_longest : (rest : List ℕ) (e : Element) → IsSpelled rest e → ((q : Punctuator) (more : List ℕ) → rest ≡ spelling q ++ more → IsAtLeast (length (spelling q)) e) → IsPunctuator rest e
with_longest rest (Take (OfPunctuator p) n) (after, split, size) least = (after, split, size, λ q more s. least q more s)
with_longest rest (Stop kind at) (k, a) least = (k, a, λ q more s. least q more s)
with_longest rest (Take OfWord n) h least = absurd h
with_longest rest (Take (OfNumber v) n) h least = absurd h
with_longest rest (Take OfText n) h least = absurd h
with_longest rest (Take (OfTemplate last) n) h least = absurd h
with_longest rest Finished h least = absurd h
with_longest rest (Skip n line) h least = absurd h

pub punctuator_is : (rest : List ℕ) → IsPunctuator rest (punctuator_element rest)
punctuator_is rest =
    with_longest rest (punctuator_element rest) (element_spelled rest)
    (λ q more s. subst (λ x. IsAtLeast (length (spelling q)) (punctuator_element x)) (sym s) (reads_own q more))
