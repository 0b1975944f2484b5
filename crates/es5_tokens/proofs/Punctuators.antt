-- The punctuator at the front is the longest that is spelled there.
use Rattle.std.proofs.Common.{◌≡◌, ℕ, ◌+◌, ◌≤◌, inl, inr, Bool, true, false, ◌&&◌, ◌||◌, List, [], ◌∷◌, ◌++◌, length, take, drop, map, codes, refl, sym, ap, subst, ◌∙◌, arith, length-append, append_assoc}
use Rattle.std.specs.Prelude.{eqb, nat_le, not, slice_index, Option, None, Some}
use Rattle.std.specs.List.{list_all, starts_with}
use Rattle.std.specs.Str.{bytes_eq}
use Rattle.std.specs.Char.{is_ascii_digit}
use lib.Pointwise.{pointwise}
use Rattle.std.proofs.lemmas.Bool.{eqb-true, and_parts, and_from, or_left, or_right, not_from_false, cases_Bool, le-leb, and_left}
use Rattle.std.proofs.lemmas.List.{take-append-drop}
use Rattle.std.proofs.lemmas.List.Folds.{list_all-map}
use Rattle.es5_ast.specs.Lexical.{punctuator, punctuators, is_one_of, is_longest_punctuator, next_is}
use Rattle.es5_tokens.specs.declared.token.Punctuator.{Punctuator}
use Rattle.es5_tokens.specs.declared.token.Punctuator.TheVariants.{LeftBrace, RightBrace, LeftParenthesis, RightParenthesis, LeftBracket, RightBracket, Dot, Semicolon, Comma, LessThan, GreaterThan, LessOrEqual, GreaterOrEqual, Equals, NotEquals, StrictEquals, StrictNotEquals, Plus, Minus, Star, Percent, PlusPlus, MinusMinus, ShiftLeft, ShiftRight, ShiftRightUnsigned, Ampersand, Bar, Caret, Exclamation, Tilde, AmpersandAmpersand, BarBar, Question, Colon, Assign, PlusAssign, MinusAssign, StarAssign, PercentAssign, ShiftLeftAssign, ShiftRightAssign, ShiftRightUnsignedAssign, AmpersandAssign, BarAssign, CaretAssign, Slash, SlashAssign}
use Rattle.es5_tokens.specs.declared.token.TokenKind.TheVariants as kinds
use Rattle.es5_tokens.specs.declared.token.TokenFault.TheVariants.{Lexical, Number}
use Rattle.es5_tokens.specs.declared.shape.Element.{Element}
use Rattle.es5_tokens.specs.declared.shape.Element.TheVariants.{Finished, Skip, Take, Stop}
use Rattle.es5_tokens.specs.Punctuators.{spelling, beside, singles, single, extensions, extended, grown, longest_from, punctuator_element}
use Rattle.es5_tokens.proofs.Prefixes.{by_cases}
use Rattle.es5_tokens.proofs.Read.{IsRead}

-- the rows spell what stands before and one character more
abbrev AreSpelled : List ℕ → List (ℕ × Punctuator) → Type 0
AreSpelled front [] = Unit {0}
AreSpelled front (row ∷ rows) = (spelling row.1 ≡ front ++ (row.0 ∷ [])) × AreSpelled front rows

beside_spelled : (front : List ℕ) (rows : List (ℕ × Punctuator)) (c : ℕ) (q : Punctuator) → AreSpelled front rows → beside c rows ≡ Some q → spelling q ≡ front ++ (c ∷ [])
beside_spelled front [] c q ok e = cc
beside_spelled front (row ∷ rows) c q ok e =
    by_cases (λ o. o ≡ Some q → spelling q ≡ front ++ (c ∷ [])) (eqb c row.0) (Some row.1) (beside c rows)
    (λ t. λ s. let same : row.1 ≡ q = cc in ap spelling (sym same) ∙ ok.0 ∙ ap (λ x. front ++ (x ∷ [])) (sym (eqb-true c row.0 t)))
    (λ f. λ s. beside_spelled front rows c q ok.1 s) e

extensions_spelled : (p : Punctuator) → AreSpelled (spelling p) (extensions p)
extensions_spelled LeftBrace = tt
extensions_spelled RightBrace = tt
extensions_spelled LeftParenthesis = tt
extensions_spelled RightParenthesis = tt
extensions_spelled LeftBracket = tt
extensions_spelled RightBracket = tt
extensions_spelled Dot = tt
extensions_spelled Semicolon = tt
extensions_spelled Comma = tt
extensions_spelled LessThan = (refl, (refl, tt))
extensions_spelled GreaterThan = (refl, (refl, tt))
extensions_spelled LessOrEqual = tt
extensions_spelled GreaterOrEqual = tt
extensions_spelled Equals = (refl, tt)
extensions_spelled NotEquals = (refl, tt)
extensions_spelled StrictEquals = tt
extensions_spelled StrictNotEquals = tt
extensions_spelled Plus = (refl, (refl, tt))
extensions_spelled Minus = (refl, (refl, tt))
extensions_spelled Star = (refl, tt)
extensions_spelled Percent = (refl, tt)
extensions_spelled PlusPlus = tt
extensions_spelled MinusMinus = tt
extensions_spelled ShiftLeft = (refl, tt)
extensions_spelled ShiftRight = (refl, (refl, tt))
extensions_spelled ShiftRightUnsigned = (refl, tt)
extensions_spelled Ampersand = (refl, (refl, tt))
extensions_spelled Bar = (refl, (refl, tt))
extensions_spelled Caret = (refl, tt)
extensions_spelled Exclamation = (refl, tt)
extensions_spelled Tilde = tt
extensions_spelled AmpersandAmpersand = tt
extensions_spelled BarBar = tt
extensions_spelled Question = tt
extensions_spelled Colon = tt
extensions_spelled Assign = (refl, tt)
extensions_spelled PlusAssign = tt
extensions_spelled MinusAssign = tt
extensions_spelled StarAssign = tt
extensions_spelled PercentAssign = tt
extensions_spelled ShiftLeftAssign = tt
extensions_spelled ShiftRightAssign = tt
extensions_spelled ShiftRightUnsignedAssign = tt
extensions_spelled AmpersandAssign = tt
extensions_spelled BarAssign = tt
extensions_spelled CaretAssign = tt
extensions_spelled Slash = (refl, tt)
extensions_spelled SlashAssign = tt

singles_spelled : AreSpelled [] singles
singles_spelled = (refl, (refl, (refl, (refl, (refl, (refl, (refl, (refl, (refl, (refl, (refl, (refl, (refl, (refl, (refl, (refl, (refl, (refl, (refl, (refl, (refl, (refl, (refl, (refl, tt))))))))))))))))))))))))

-- a result of at least so many characters
abbrev pub IsAtLeast : ℕ → Element → Type 0
IsAtLeast k (Take kind n) = k ≤ n
IsAtLeast k (Skip n line) = k ≤ n
IsAtLeast k Finished = ⊥
IsAtLeast k (Stop fault at) = ⊥

at_least_more : (k m : ℕ) (e : Element) → m ≤ k → IsAtLeast k e → IsAtLeast m e
at_least_more k m (Take kind n) h l = omega arith
at_least_more k m (Skip n line) h l = omega arith
at_least_more k m Finished h l = absurd l
at_least_more k m (Stop fault at) h l = absurd l

grown_least : (p : Punctuator) (n : ℕ) (cs : List ℕ) → IsAtLeast n (grown p n cs)
grown_least p n [] = omega arith
grown_least p n (c ∷ cs) = elim (extended p c) as (λ o. IsAtLeast n (elim o [ None ↦ Take (kinds.Punctuator p) n | Some q ↦ grown q (n + 1) cs ])) [
  | None ↦ omega arith
  | Some q ↦ at_least_more (n + 1) n (grown q (n + 1) cs) (omega arith) (grown_least q (n + 1) cs)
]

-- where a punctuator is spelled, one of at least its characters is read
pub reads_own : (q : Punctuator) (more : List ℕ) → IsAtLeast (length (spelling q)) (punctuator_element (spelling q ++ more))
reads_own LeftBrace more = grown_least LeftBrace 1 more
reads_own RightBrace more = grown_least RightBrace 1 more
reads_own LeftParenthesis more = grown_least LeftParenthesis 1 more
reads_own RightParenthesis more = grown_least RightParenthesis 1 more
reads_own LeftBracket more = grown_least LeftBracket 1 more
reads_own RightBracket more = grown_least RightBracket 1 more
reads_own Dot more = grown_least Dot 1 more
reads_own Semicolon more = grown_least Semicolon 1 more
reads_own Comma more = grown_least Comma 1 more
reads_own LessThan more = grown_least LessThan 1 more
reads_own GreaterThan more = grown_least GreaterThan 1 more
reads_own LessOrEqual more = grown_least LessOrEqual 2 more
reads_own GreaterOrEqual more = grown_least GreaterOrEqual 2 more
reads_own Equals more = grown_least Equals 2 more
reads_own NotEquals more = grown_least NotEquals 2 more
reads_own StrictEquals more = grown_least StrictEquals 3 more
reads_own StrictNotEquals more = grown_least StrictNotEquals 3 more
reads_own Plus more = grown_least Plus 1 more
reads_own Minus more = grown_least Minus 1 more
reads_own Star more = grown_least Star 1 more
reads_own Percent more = grown_least Percent 1 more
reads_own PlusPlus more = grown_least PlusPlus 2 more
reads_own MinusMinus more = grown_least MinusMinus 2 more
reads_own ShiftLeft more = grown_least ShiftLeft 2 more
reads_own ShiftRight more = grown_least ShiftRight 2 more
reads_own ShiftRightUnsigned more = grown_least ShiftRightUnsigned 3 more
reads_own Ampersand more = grown_least Ampersand 1 more
reads_own Bar more = grown_least Bar 1 more
reads_own Caret more = grown_least Caret 1 more
reads_own Exclamation more = grown_least Exclamation 1 more
reads_own Tilde more = grown_least Tilde 1 more
reads_own AmpersandAmpersand more = grown_least AmpersandAmpersand 2 more
reads_own BarBar more = grown_least BarBar 2 more
reads_own Question more = grown_least Question 1 more
reads_own Colon more = grown_least Colon 1 more
reads_own Assign more = grown_least Assign 1 more
reads_own PlusAssign more = grown_least PlusAssign 2 more
reads_own MinusAssign more = grown_least MinusAssign 2 more
reads_own StarAssign more = grown_least StarAssign 2 more
reads_own PercentAssign more = grown_least PercentAssign 2 more
reads_own ShiftLeftAssign more = grown_least ShiftLeftAssign 3 more
reads_own ShiftRightAssign more = grown_least ShiftRightAssign 3 more
reads_own ShiftRightUnsignedAssign more = grown_least ShiftRightUnsignedAssign 4 more
reads_own AmpersandAssign more = grown_least AmpersandAssign 2 more
reads_own BarAssign more = grown_least BarAssign 2 more
reads_own CaretAssign more = grown_least CaretAssign 2 more
reads_own Slash more = grown_least Slash 1 more
reads_own SlashAssign more = grown_least SlashAssign 2 more

-- what is read is spelled in front, or nothing is read
abbrev pub IsSpelled : List ℕ → Element → Type 0
IsSpelled rest (Take (kinds.Punctuator p) n) = (after : List ℕ) × (rest ≡ spelling p ++ after) × (n ≡ length (spelling p))
IsSpelled rest (Take (kinds.Word name) n) = ⊥
IsSpelled rest (Take (kinds.Integer value) n) = ⊥
IsSpelled rest (Take (kinds.Text us) n) = ⊥
IsSpelled rest Finished = ⊥
IsSpelled rest (Skip n line) = ⊥
IsSpelled rest (Stop Lexical at) = at ≡ 0
IsSpelled rest (Stop Number at) = ⊥

grown_next : (p : Punctuator) (n c : ℕ) (cs : List ℕ) (o : Option Punctuator) → extended p c ≡ o → n ≡ length (spelling p)
    → ((q : Punctuator) → n + 1 ≡ length (spelling q) → IsSpelled (spelling q ++ cs) (grown q (n + 1) cs))
    → IsSpelled (spelling p ++ (c ∷ cs)) (elim o [ None ↦ Take (kinds.Punctuator p) n | Some q ↦ grown q (n + 1) cs ])
grown_next p n c cs None e h ih = (c ∷ cs, refl, h)
grown_next p n c cs (Some q) e h ih =
    let more = beside_spelled (spelling p) (extensions p) c q (extensions_spelled p) e in
    let same : spelling q ++ cs ≡ spelling p ++ (c ∷ cs) = ap (λ x. x ++ cs) more ∙ append_assoc (spelling p) (c ∷ []) cs in
    let size : n + 1 ≡ length (spelling q) = omega (arith, h, ap length more, length-append (spelling p) (c ∷ [])) in
    subst (λ x. IsSpelled x (grown q (n + 1) cs)) same (ih q size)

grown_spelled : (p : Punctuator) (n : ℕ) (cs : List ℕ) → n ≡ length (spelling p) → IsSpelled (spelling p ++ cs) (grown p n cs)
grown_spelled p n [] h = ([], refl, h)
grown_spelled p n (c ∷ cs) h = grown_next p n c cs (extended p c) refl h (λ q size. grown_spelled q (n + 1) cs size)

single_spelled : (c : ℕ) (cs : List ℕ) (o : Option Punctuator) → single c ≡ o → IsSpelled (c ∷ cs) (longest_from o (c ∷ cs))
single_spelled c cs None e = refl
single_spelled c cs (Some p) e =
    let one = beside_spelled [] singles c p singles_spelled e in
    subst (λ x. IsSpelled x (grown p 1 cs)) (ap (λ x. x ++ cs) one) (grown_spelled p 1 cs (sym (ap length one)))

pub element_spelled : (cs : List ℕ) → IsSpelled cs (punctuator_element cs)
element_spelled [] = refl
element_spelled (c ∷ cs) = single_spelled c cs (single c) refl

-- the rows of the definition are those of the punctuators
unfoldable pub all_of : List Punctuator
all_of = LeftBrace ∷ RightBrace ∷ LeftParenthesis ∷ RightParenthesis ∷ LeftBracket ∷ RightBracket ∷ Dot ∷ Semicolon ∷ Comma ∷ LessThan ∷ GreaterThan ∷ LessOrEqual ∷ GreaterOrEqual ∷ Equals ∷ NotEquals ∷ StrictEquals ∷ StrictNotEquals ∷ Plus ∷ Minus ∷ Star ∷ Percent ∷ PlusPlus ∷ MinusMinus ∷ ShiftLeft ∷ ShiftRight ∷ ShiftRightUnsigned ∷ Ampersand ∷ Bar ∷ Caret ∷ Exclamation ∷ Tilde ∷ AmpersandAmpersand ∷ BarBar ∷ Question ∷ Colon ∷ Assign ∷ PlusAssign ∷ MinusAssign ∷ StarAssign ∷ PercentAssign ∷ ShiftLeftAssign ∷ ShiftRightAssign ∷ ShiftRightUnsignedAssign ∷ AmpersandAssign ∷ BarAssign ∷ CaretAssign ∷ Slash ∷ SlashAssign ∷ []

pub punctuators_are : punctuators ≡ map spelling all_of
unfolding punctuators all_of
punctuators_are = refl

pub is_known : (p : Punctuator) → is_one_of (spelling p) punctuators ≡ true
unfolding punctuators
is_known LeftBrace = refl
is_known RightBrace = refl
is_known LeftParenthesis = refl
is_known RightParenthesis = refl
is_known LeftBracket = refl
is_known RightBracket = refl
is_known Dot = refl
is_known Semicolon = refl
is_known Comma = refl
is_known LessThan = refl
is_known GreaterThan = refl
is_known LessOrEqual = refl
is_known GreaterOrEqual = refl
is_known Equals = refl
is_known NotEquals = refl
is_known StrictEquals = refl
is_known StrictNotEquals = refl
is_known Plus = refl
is_known Minus = refl
is_known Star = refl
is_known Percent = refl
is_known PlusPlus = refl
is_known MinusMinus = refl
is_known ShiftLeft = refl
is_known ShiftRight = refl
is_known ShiftRightUnsigned = refl
is_known Ampersand = refl
is_known Bar = refl
is_known Caret = refl
is_known Exclamation = refl
is_known Tilde = refl
is_known AmpersandAmpersand = refl
is_known BarBar = refl
is_known Question = refl
is_known Colon = refl
is_known Assign = refl
is_known PlusAssign = refl
is_known MinusAssign = refl
is_known StarAssign = refl
is_known PercentAssign = refl
is_known ShiftLeftAssign = refl
is_known ShiftRightAssign = refl
is_known ShiftRightUnsignedAssign = refl
is_known AmpersandAssign = refl
is_known BarAssign = refl
is_known CaretAssign = refl
is_known Slash = refl
is_known SlashAssign = refl

all_pass : {X : Type 0} (f : X → Bool) (xs : List X) → ((x : X) → f x ≡ true) → list_all f xs ≡ true
all_pass f [] h = refl
all_pass f (x ∷ xs) h = and_from (f x) _ (h x) (all_pass f xs h)

pub same_lists : (a b : List ℕ) → pointwise (λ x y. eqb x y) a b ≡ true → a ≡ b
same_lists [] [] h = refl
same_lists [] (y ∷ b) h = cc
same_lists (x ∷ a) [] h = cc
same_lists (x ∷ a) (y ∷ b) h =
    let two = and_parts (eqb x y) _ h in
    let head = eqb-true x y two.0 in
    let tail = same_lists a b two.1 in
    cc

-- no longer punctuator stands in front, nor the begin of a comment
abbrev pub BeginsComment : List ℕ → Type 0
BeginsComment cs = (starts_with (λ x y. eqb x y) cs (codes "//") || starts_with (λ x y. eqb x y) cs (codes "/*")) ≡ true

no_longer : (cs q : List ℕ) (n : ℕ) → (starts_with (λ x y. eqb x y) cs q ≡ true → length q ≤ n) → (nat_le (length q) n || not (starts_with (λ x y. eqb x y) cs q)) ≡ true
no_longer cs q n h = elim (cases_Bool (starts_with (λ x y. eqb x y) cs q)) [
  | inl t ↦ or_left _ _ (le-leb (length q) n (h t))
  | inr f ↦ or_right (nat_le (length q) n) _ (not_from_false _ f)
]

pub begins_by : (cs q : List ℕ) → starts_with (λ x y. eqb x y) cs q ≡ true → cs ≡ q ++ drop (length q) cs
begins_by cs q h = sym (take-append-drop (length q) cs) ∙ ap (λ x. x ++ drop (length q) cs) (sym (same_lists q (take (length q) cs) h))

is_longest : (cs p after : List ℕ) → cs ≡ p ++ after → (BeginsComment cs → ⊥) → ((q : Punctuator) (more : List ℕ) → cs ≡ spelling q ++ more → length (spelling q) ≤ length p) → is_longest_punctuator p after ≡ true
is_longest cs p after split free least =
    let pass : List ℕ → Bool = λ q. nat_le (length q) (length p) || not (starts_with (λ x y. eqb x y) cs q) in
    let line = no_longer cs (codes "//") (length p) (λ t. absurd (free (or_left _ _ t))) in
    let block = no_longer cs (codes "/*") (length p) (λ t. absurd (free (or_right (starts_with (λ x y. eqb x y) cs (codes "//")) _ t))) in
    let each : (q : Punctuator) → pass (spelling q) ≡ true = λ q. no_longer cs (spelling q) (length p) (λ t. least q _ (begins_by cs (spelling q) t)) in
    let rows : list_all pass punctuators ≡ true = ap (list_all pass) punctuators_are ∙ list_all-map pass spelling all_of ∙ all_pass (λ q. pass (spelling q)) all_of each in
    subst (λ x. list_all (λ q. nat_le (length q) (length p) || not (starts_with (λ a b. eqb a b) x q)) (codes "//" ∷ codes "/*" ∷ punctuators) ≡ true) split
    (and_from _ _ line (and_from _ _ block rows))

-- a point that a digit follows begins a number
no_fraction : (p after cs : List ℕ) → cs ≡ p ++ after → (slice_index cs 0 ≡ 46 → is_ascii_digit (slice_index cs 1) ≡ false) → (bytes_eq p (codes ".") && next_is is_ascii_digit after) ≡ false
no_fraction p after cs split h = elim (cases_Bool (bytes_eq p (codes "."))) [
  | inl t ↦ (let point = same_lists p (codes ".") t in let whole : cs ≡ 46 ∷ after = split ∙ ap (λ x. x ++ after) point in
      rw t (next_of after (ap (λ x. is_ascii_digit (slice_index x 1)) (sym whole) ∙ h (ap (λ x. slice_index x 0) whole))))
  | inr f ↦ and_left _ _ f
] where
  next_of : (after : List ℕ) → is_ascii_digit (slice_index after 0) ≡ false → next_is is_ascii_digit after ≡ false
  next_of [] e = refl
  next_of (c ∷ after) e = e

has_one : (p : Punctuator) → 1 ≤ length (spelling p)
has_one LeftBrace = omega arith
has_one RightBrace = omega arith
has_one LeftParenthesis = omega arith
has_one RightParenthesis = omega arith
has_one LeftBracket = omega arith
has_one RightBracket = omega arith
has_one Dot = omega arith
has_one Semicolon = omega arith
has_one Comma = omega arith
has_one LessThan = omega arith
has_one GreaterThan = omega arith
has_one LessOrEqual = omega arith
has_one GreaterOrEqual = omega arith
has_one Equals = omega arith
has_one NotEquals = omega arith
has_one StrictEquals = omega arith
has_one StrictNotEquals = omega arith
has_one Plus = omega arith
has_one Minus = omega arith
has_one Star = omega arith
has_one Percent = omega arith
has_one PlusPlus = omega arith
has_one MinusMinus = omega arith
has_one ShiftLeft = omega arith
has_one ShiftRight = omega arith
has_one ShiftRightUnsigned = omega arith
has_one Ampersand = omega arith
has_one Bar = omega arith
has_one Caret = omega arith
has_one Exclamation = omega arith
has_one Tilde = omega arith
has_one AmpersandAmpersand = omega arith
has_one BarBar = omega arith
has_one Question = omega arith
has_one Colon = omega arith
has_one Assign = omega arith
has_one PlusAssign = omega arith
has_one MinusAssign = omega arith
has_one StarAssign = omega arith
has_one PercentAssign = omega arith
has_one ShiftLeftAssign = omega arith
has_one ShiftRightAssign = omega arith
has_one ShiftRightUnsignedAssign = omega arith
has_one AmpersandAssign = omega arith
has_one BarAssign = omega arith
has_one CaretAssign = omega arith
has_one Slash = omega arith
has_one SlashAssign = omega arith

read_punctuator : (cs : List ℕ) (e : Element) → 1 ≤ length cs → (BeginsComment cs → ⊥) → (slice_index cs 0 ≡ 46 → is_ascii_digit (slice_index cs 1) ≡ false) → IsSpelled cs e
    → ((q : Punctuator) (more : List ℕ) → cs ≡ spelling q ++ more → IsAtLeast (length (spelling q)) e) → IsRead cs e
read_punctuator cs (Take (kinds.Punctuator p) n) long free point (after, split, size) least = (
  spelling p,
  after,
  split,
  size,
  omega (arith, size, has_one p),
  punctuator (is_known p),
  and_from _ _ (is_longest cs (spelling p) after split free (λ q more s. omega (arith, least q more s, size))) (not_from_false _ (no_fraction (spelling p) after cs split point)),
)
read_punctuator cs (Take (kinds.Word name) n) long free point h least = absurd h
read_punctuator cs (Take (kinds.Integer value) n) long free point h least = absurd h
read_punctuator cs (Take (kinds.Text us) n) long free point h least = absurd h
read_punctuator cs (Stop Lexical at) long free point h least = omega (arith, h)
read_punctuator cs (Stop Number at) long free point h least = absurd h
read_punctuator cs (Skip n line) long free point h least = absurd h
read_punctuator cs Finished long free point h least = absurd h

pub punctuator_is : (cs : List ℕ) → 1 ≤ length cs → (BeginsComment cs → ⊥) → (slice_index cs 0 ≡ 46 → is_ascii_digit (slice_index cs 1) ≡ false) → IsRead cs (punctuator_element cs)
punctuator_is cs long free point =
    read_punctuator cs (punctuator_element cs) long free point (element_spelled cs)
    (λ q more s. subst (λ x. IsAtLeast (length (spelling q)) (punctuator_element x)) (sym s) (reads_own q more))
