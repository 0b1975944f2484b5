-- What the tests of single tokens mean in the grammar's terms.
use Rattle.std.proofs.Common.{◌≡◌, ◌⊎◌, inl, inr, ℕ, Bool, true, false, ◌&&◌, ◌||◌, not, cond, List, [], ◌∷◌, Option, Some, None, refl, sym, ap, ◌∙◌, subst}
use Rattle.std.specs.Prelude.{◌==◌, codes}
use Rattle.std.specs.Str.{bytes_eq}
use Rattle.std.proofs.Common.{eqb-true}
use Rattle.std.proofs.lemmas.Slice.Eq.{bytes_eq-Decides}
use Rattle.es_text.specs.declared.Span.{Span}
use Rattle.es6_lexer.specs.declared.token.TokenKind.{TokenKind}
use Rattle.es6_lexer.specs.declared.token.TokenKind.TheVariants as kinds
use Rattle.es6_lexer.specs.declared.token.NumberToken.TheVariants.{Whole}
use Rattle.es6_lexer.specs.declared.token.Punctuator.{Punctuator as Mark}
use Rattle.es6_lexer.specs.declared.token.Punctuator.TheVariants as marks
use Rattle.es6_lexer.specs.Punctuators.{spelling}
use Rattle.es6_ast.specs.declared.operators.UnaryOperator.{UnaryOperator}
use Rattle.es6_ast.specs.declared.operators.UpdateOperator.{UpdateOperator}
use Rattle.es6_ast.specs.declared.operators.UpdateOperator.TheVariants.{IncrementBefore, DecrementBefore, IncrementAfter, DecrementAfter}
use Rattle.es6_ast.specs.declared.operators.BinaryOperator.{BinaryOperator}
use Rattle.es6_ast.specs.declared.operators.AssignOperator.{AssignOperator}
use Rattle.es6_ast.specs.declared.operators.Literal.{Literal}
use Rattle.es6_ast.specs.declared.operators.Literal.TheVariants as literals
use Rattle.es6_ast.specs.declared.operators.VariableKind.{VariableKind}
use Rattle.es6_ast.specs.declared.operators.VariableKind.TheVariants.{Var, Let, Const}
use Rattle.es6_ast.specs.declared.tree.Stretch.{Stretch}
use Rattle.es6_ast.specs.declared.settings.Flags.{Flags}
use Rattle.es6_ast.specs.Tokens.{Filling, Read, Filled, IsWord, IsMark, is_word, is_identifier}
use Rattle.es6_ast.specs.Grammar.{IsEnd, IsDoWhileEnd, ends, is_in, is_before, is_lexical, unary_kind, update_kind, assign_kind, binary_kind, binary_level, literal_kind, kind_word}
use Rattle.es6_reading.specs.Parser.{is_mark, kept_if, mark, word, ending}
use Rattle.es6_reading.specs.Words.{name_if, any_name, any_name_in, free_name, free_name_in, same_kind, look_up, literal_word, literal_in, literal_at, text_in, text_at, KeyToken, WordToken, TextToken, IntegerToken, key_in, key_at, accessor_word, accessor_in, accessor_at, accessor_name, same_truth, stretch_if, stretch_in, stretch_at, unary_operators, unary_at, before_at, unless, after_at, assign_operators, assign_at, binary_operators, operator_of_level, binary_at, arrow_at, kind_at, lexical_kind_at}

pub same_bytes : (a b : List ℕ) → bytes_eq a b ≡ true → a ≡ b
same_bytes a b h = (bytes_eq-Decides a b).0 h

pub bytes_eq-refl : (a : List ℕ) → bytes_eq a a ≡ true
bytes_eq-refl a = (bytes_eq-Decides a a).1 refl

pub or_false : (a b : Bool) → (a || b) ≡ false → (a ≡ false) × (b ≡ false)
or_false true b h = absurd (cc)
or_false false b h = (refl, h)

pub and_true : (a b : Bool) → (a && b) ≡ true → (a ≡ true) × (b ≡ true)
and_true true b h = (refl, h)
and_true false b h = absurd (cc)

pub not_true : (a : Bool) → not a ≡ true → a ≡ false
not_true true h = absurd (cc)
not_true false h = refl

pub not_false : (a : Bool) → not a ≡ false → a ≡ true
not_false true h = refl
not_false false h = absurd (cc)

pub some_same : {A : Type 0} {x y : A} → Some x ≡ Some y → x ≡ y
some_same {A = A} {x = x} h = ap (λ o. unwrap o) h
  where
    unwrap : Option A → A
    unwrap (Some z) = z
    unwrap None = x

kept-true : (b : Bool) (t u : Filled) → kept_if b t ≡ Some u → (b ≡ true) × (t ≡ u)
kept-true true t u h = (refl, some_same h)
kept-true false t u h = absurd (cc)

kept-none : (b : Bool) (t : Filled) → kept_if b t ≡ None → b ≡ false
kept-none true t h = absurd (cc)
kept-none false t h = refl

-- ## Marks are told apart by what they spell

abbrev all_marks : List Mark
all_marks =
    marks.LeftBrace ∷ marks.RightBrace ∷ marks.LeftParenthesis ∷ marks.RightParenthesis ∷ marks.LeftBracket ∷ marks.RightBracket ∷ marks.Dot ∷ marks.Ellipsis ∷ marks.Semicolon
    ∷ marks.Comma ∷ marks.LessThan ∷ marks.GreaterThan ∷ marks.LessOrEqual ∷ marks.GreaterOrEqual ∷ marks.Equals ∷ marks.NotEquals ∷ marks.StrictEquals ∷ marks.StrictNotEquals
    ∷ marks.Plus ∷ marks.Minus ∷ marks.Star ∷ marks.Slash ∷ marks.Percent ∷ marks.StarStar ∷ marks.PlusPlus ∷ marks.MinusMinus ∷ marks.ShiftLeft
    ∷ marks.ShiftRight ∷ marks.ShiftRightUnsigned ∷ marks.Ampersand ∷ marks.Bar ∷ marks.Caret ∷ marks.Exclamation ∷ marks.Tilde ∷ marks.AmpersandAmpersand ∷ marks.BarBar
    ∷ marks.Question ∷ marks.Colon ∷ marks.Assign ∷ marks.PlusAssign ∷ marks.MinusAssign ∷ marks.StarAssign ∷ marks.SlashAssign ∷ marks.PercentAssign ∷ marks.StarStarAssign
    ∷ marks.ShiftLeftAssign ∷ marks.ShiftRightAssign ∷ marks.ShiftRightUnsignedAssign ∷ marks.AmpersandAssign ∷ marks.BarAssign ∷ marks.CaretAssign ∷ marks.Arrow ∷ []

abbrev spelled_so : List Mark → List ℕ → Option Mark
spelled_so [] w = None
spelled_so (p ∷ ps) w = cond (bytes_eq (spelling p) w) (Some p) (spelled_so ps w)

own-spelling : (p : Mark) → spelled_so all_marks (spelling p) ≡ Some p
own-spelling marks.LeftBrace = refl
own-spelling marks.RightBrace = refl
own-spelling marks.LeftParenthesis = refl
own-spelling marks.RightParenthesis = refl
own-spelling marks.LeftBracket = refl
own-spelling marks.RightBracket = refl
own-spelling marks.Dot = refl
own-spelling marks.Ellipsis = refl
own-spelling marks.Semicolon = refl
own-spelling marks.Comma = refl
own-spelling marks.LessThan = refl
own-spelling marks.GreaterThan = refl
own-spelling marks.LessOrEqual = refl
own-spelling marks.GreaterOrEqual = refl
own-spelling marks.Equals = refl
own-spelling marks.NotEquals = refl
own-spelling marks.StrictEquals = refl
own-spelling marks.StrictNotEquals = refl
own-spelling marks.Plus = refl
own-spelling marks.Minus = refl
own-spelling marks.Star = refl
own-spelling marks.Slash = refl
own-spelling marks.Percent = refl
own-spelling marks.StarStar = refl
own-spelling marks.PlusPlus = refl
own-spelling marks.MinusMinus = refl
own-spelling marks.ShiftLeft = refl
own-spelling marks.ShiftRight = refl
own-spelling marks.ShiftRightUnsigned = refl
own-spelling marks.Ampersand = refl
own-spelling marks.Bar = refl
own-spelling marks.Caret = refl
own-spelling marks.Exclamation = refl
own-spelling marks.Tilde = refl
own-spelling marks.AmpersandAmpersand = refl
own-spelling marks.BarBar = refl
own-spelling marks.Question = refl
own-spelling marks.Colon = refl
own-spelling marks.Assign = refl
own-spelling marks.PlusAssign = refl
own-spelling marks.MinusAssign = refl
own-spelling marks.StarAssign = refl
own-spelling marks.SlashAssign = refl
own-spelling marks.PercentAssign = refl
own-spelling marks.StarStarAssign = refl
own-spelling marks.ShiftLeftAssign = refl
own-spelling marks.ShiftRightAssign = refl
own-spelling marks.ShiftRightUnsignedAssign = refl
own-spelling marks.AmpersandAssign = refl
own-spelling marks.BarAssign = refl
own-spelling marks.CaretAssign = refl
own-spelling marks.Arrow = refl

same-mark : (p q : Mark) → spelling q ≡ spelling p → q ≡ p
same-mark p q h = some_same (sym (own-spelling q) ∙ ap (λ w. spelled_so all_marks w) h ∙ own-spelling p)

pub mark-is : (p : Mark) (k : Filling) → is_mark p k ≡ true → k ≡ Read (kinds.Punctuator p)
mark-is p (Read (kinds.Punctuator q)) h = ap (λ b. Read (kinds.Punctuator b)) (same-mark p q (same_bytes (spelling q) (spelling p) h))
mark-is p k h = absurd (cc)

pub is-mark-true : (p : Mark) (t : Filled) → IsMark p t → is_mark p t.kind ≡ true
is-mark-true p t h = rw h (bytes_eq-refl (spelling p))

pub word-is : (w : List ℕ) (k : Filling) → is_word w k ≡ true → k ≡ Read (kinds.Word w)
word-is w (Read (kinds.Word v)) h = ap (λ b. Read (kinds.Word b)) (same_bytes v w h)
word-is w k h = absurd (cc)

pub mark-means : (p : Mark) (t u : Filled) → mark p t ≡ Some u → IsMark p t × (t ≡ u)
mark-means p t u h = let e = kept-true (is_mark p t.kind) t u h in (mark-is p t.kind e.0, e.1)

pub word-means : (w : List ℕ) (t u : Filled) → word w t ≡ Some u → IsWord w t × (t ≡ u)
word-means w t u h = let e = kept-true (is_word w t.kind) t u h in (word-is w t.kind e.0, e.1)

pub ending-means : (t u : Filled) → ending false t ≡ Some u → IsEnd t
ending-means t u h = (kept-true (ends false t.kind) t u h).0

pub do-while-ending-means : (t u : Filled) → ending true t ≡ Some u → IsDoWhileEnd t
do-while-ending-means t u h = (kept-true (ends true t.kind) t u h).0

pub mark-misses : (p : Mark) (t : Filled) → mark p t ≡ None → is_mark p t.kind ≡ false
mark-misses p t h = kept-none (is_mark p t.kind) t h

pub word-misses : (w : List ℕ) (t : Filled) → word w t ≡ None → is_word w t.kind ≡ false
word-misses w t h = kept-none (is_word w t.kind) t h

-- ## Names, literals, keys

any-name-is : (k : Filling) (name : List ℕ) → any_name_in k ≡ Some name → k ≡ Read (kinds.Word name)
any-name-is (Read (kinds.Word v)) name h = ap (λ b. Read (kinds.Word b)) (some_same h)
any-name-is k name h = absurd (cc)

pub any-name-means : (name : List ℕ) (t : Filled) → any_name t ≡ Some name → IsWord name t
any-name-means name t h = any-name-is t.kind name h

name-if-is : (b : Bool) (v name : List ℕ) → name_if b v ≡ Some name → (v ≡ name) × (b ≡ true)
name-if-is true v name h = (some_same h, refl)
name-if-is false v name h = absurd (cc)

free-name-is : (k : Filling) (name : List ℕ) → free_name_in k ≡ Some name → (k ≡ Read (kinds.Word name)) × (is_identifier name ≡ true)
free-name-is (Read (kinds.Word v)) name h =
    let e = name-if-is (is_identifier v) v name h in
    (ap (λ b. Read (kinds.Word b)) e.0, subst (λ w. is_identifier w ≡ true) e.0 e.1)
free-name-is k name h = absurd (cc)

pub free-name-means : (name : List ℕ) (t : Filled) → free_name t ≡ Some name → IsWord name t × (is_identifier name ≡ true)
free-name-means name t h = free-name-is t.kind name h

cond-some : {A : Type 0} (b : Bool) (x y : A) (o : Option A) → cond b (Some x) o ≡ Some y → ((b ≡ true) × (x ≡ y)) ⊎ ((b ≡ false) × (o ≡ Some y))
cond-some true x y o h = inl (refl, some_same h)
cond-some false x y o h = inr (refl, h)

literal-word-is : (v : List ℕ) (value : Literal) → literal_word v ≡ Some value → kinds.Word v ≡ literal_kind value
literal-word-is v value h = elim (cond-some (bytes_eq v (codes "null")) literals.Null value (cond (bytes_eq v (codes "true")) (Some (literals.Truth true)) (cond (bytes_eq v (codes "false")) (Some (literals.Truth false)) None)) h) [
  | inl a ↦ subst (λ l. kinds.Word v ≡ literal_kind l) a.1 (ap (λ b. kinds.Word b) (same_bytes v (codes "null") a.0))
  | inr a ↦ elim (cond-some (bytes_eq v (codes "true")) (literals.Truth true) value (cond (bytes_eq v (codes "false")) (Some (literals.Truth false)) None) a.1) [
    | inl b ↦ subst (λ l. kinds.Word v ≡ literal_kind l) b.1 (ap (λ b. kinds.Word b) (same_bytes v (codes "true") b.0))
    | inr b ↦ elim (cond-some (bytes_eq v (codes "false")) (literals.Truth false) value None b.1) [
      | inl c ↦ subst (λ l. kinds.Word v ≡ literal_kind l) c.1 (ap (λ b. kinds.Word b) (same_bytes v (codes "false") c.0))
      | inr c ↦ absurd (cc)
    ]
  ]
]

literal-is : (k : Filling) (value : Literal) → literal_in k ≡ Some value → k ≡ Read (literal_kind value)
literal-is (Read (kinds.Word v)) value h = ap Read (literal-word-is v value h)
literal-is (Read (kinds.Number (Whole n))) value h = subst (λ l. Read (kinds.Number (Whole n)) ≡ Read (literal_kind l)) (some_same h) refl
literal-is (Read (kinds.Text us)) value h = subst (λ l. Read (kinds.Text us) ≡ Read (literal_kind l)) (some_same h) refl
literal-is k value h = absurd (cc)

pub literal-means : (value : Literal) (t : Filled) → literal_at t ≡ Some value → t.kind ≡ Read (literal_kind value)
literal-means value t h = literal-is t.kind value h

text-is : (k : Filling) (units : List ℕ) → text_in k ≡ Some units → k ≡ Read (kinds.Text units)
text-is (Read (kinds.Text us)) units h = ap (λ b. Read (kinds.Text b)) (some_same h)
text-is k units h = absurd (cc)

pub text-means : (units : List ℕ) (t : Filled) → text_at t ≡ Some units → t.kind ≡ Read (kinds.Text units)
text-means units t h = text-is t.kind units h

-- the token of a name or a literal as a key
abbrev pub key_kind : KeyToken → TokenKind
key_kind (WordToken name) = kinds.Word name
key_kind (TextToken units) = kinds.Text units
key_kind (IntegerToken value) = kinds.Number (Whole value)

key-is : (k : Filling) (value : KeyToken) → key_in k ≡ Some value → k ≡ Read (key_kind value)
key-is (Read (kinds.Word v)) value h = subst (λ l. Read (kinds.Word v) ≡ Read (key_kind l)) (some_same h) refl
key-is (Read (kinds.Number (Whole n))) value h = subst (λ l. Read (kinds.Number (Whole n)) ≡ Read (key_kind l)) (some_same h) refl
key-is (Read (kinds.Text us)) value h = subst (λ l. Read (kinds.Text us) ≡ Read (key_kind l)) (some_same h) refl
key-is k value h = absurd (cc)

pub key-means : (value : KeyToken) (t : Filled) → key_at t ≡ Some value → t.kind ≡ Read (key_kind value)
key-means value t h = key-is t.kind value h

accessor-word-is : (v : List ℕ) (setter : Bool) → accessor_word v ≡ Some setter → v ≡ accessor_name setter
accessor-word-is v setter h = elim (cond-some (bytes_eq v (codes "get")) false setter (cond (bytes_eq v (codes "set")) (Some true) None) h) [
  | inl a ↦ subst (λ b. v ≡ accessor_name b) a.1 (same_bytes v (codes "get") a.0)
  | inr a ↦ elim (cond-some (bytes_eq v (codes "set")) true setter None a.1) [
    | inl b ↦ subst (λ b. v ≡ accessor_name b) b.1 (same_bytes v (codes "set") b.0)
    | inr b ↦ absurd (cc)
  ]
]

accessor-is : (k : Filling) (setter : Bool) → accessor_in k ≡ Some setter → k ≡ Read (kinds.Word (accessor_name setter))
accessor-is (Read (kinds.Word v)) setter h = ap (λ b. Read (kinds.Word b)) (accessor-word-is v setter h)
accessor-is k setter h = absurd (cc)

pub accessor-means : (setter : Bool) (t : Filled) → accessor_at t ≡ Some setter → IsWord (accessor_name setter) t
accessor-means setter t h = accessor-is t.kind setter h

-- ## Templates

same-truth-is : (a b : Bool) → same_truth a b ≡ true → b ≡ a
same-truth-is true b h = h
same-truth-is false b h = not_true b h

stretch-if-is : (b : Bool) (span : Span) (cooked raw : List ℕ) (s : Stretch) → stretch_if b span cooked raw ≡ Some s → (b ≡ true) × (s ≡ record { span = span; cooked = cooked; raw = raw })
stretch-if-is true span cooked raw s h = (refl, sym (some_same h))
stretch-if-is false span cooked raw s h = absurd (cc)

stretch-kind : (first last a b : Bool) (cooked raw : List ℕ) → a ≡ first → b ≡ last → Read (kinds.Template cooked raw a b) ≡ Read (kinds.Template cooked raw first last)
stretch-kind first last a b cooked raw h k = rw h (rw k refl)

stretch-is : (first last : Bool) (span : Span) (k : Filling) (s : Stretch) → stretch_in first last span k ≡ Some s
    → (k ≡ Read (kinds.Template s.cooked s.raw first last)) × (s.span ≡ span)
stretch-is first last span (Read (kinds.Template cooked raw a b)) s h =
    let e = stretch-if-is (same_truth first a && same_truth last b) span cooked raw s h in
    let f = and_true (same_truth first a) (same_truth last b) e.0 in (
      stretch-kind first last a b cooked raw (same-truth-is first a f.0) (same-truth-is last b f.1)
          ∙ ap (λ r. Read (kinds.Template r.cooked r.raw first last)) (sym e.1),
      ap (λ r. r.span) e.1,
    )
stretch-is first last span k s h = absurd (cc)

-- the token is such a stretch of a template
abbrev pub IsStretch : Bool → Bool → Stretch → Filled → Type 0
IsStretch first last s t = (t.kind ≡ Read (kinds.Template s.cooked s.raw first last)) × (s.span ≡ t.span)

pub stretch-means : (first last : Bool) (s : Stretch) (t : Filled) → stretch_at first last t ≡ Some s → IsStretch first last s t
stretch-means first last s t h = stretch-is first last t.span t.kind s h

-- ## Operators

same-kind-is : (a : TokenKind) (k : Filling) → same_kind a k ≡ true → k ≡ Read a
same-kind-is (kinds.Word v) k h = word-is v k h
same-kind-is (kinds.Punctuator p) k h = mark-is p k h
same-kind-is a k h = absurd (cc)

look-up-is : {A : Type 0} (f : A → TokenKind) (xs : List A) (k : Filling) (x : A) → look_up f xs k ≡ Some x → k ≡ Read (f x)
look-up-is f [] k x h = absurd (cc)
look-up-is f (y ∷ ys) k x h = elim (cond-some (same_kind (f y) k) y x (look_up f ys k) h) [
  | inl a ↦ subst (λ z. k ≡ Read (f z)) a.1 (same-kind-is (f y) k a.0)
  | inr a ↦ look-up-is f ys k x a.1
]

pub unary-means : (op : UnaryOperator) (t : Filled) → unary_at t ≡ Some op → t.kind ≡ Read (unary_kind op)
unary-means op t h = look-up-is unary_kind unary_operators t.kind op h

pub assign-means : (op : AssignOperator) (t : Filled) → assign_at t ≡ Some op → t.kind ≡ Read (assign_kind op)
assign-means op t h = look-up-is assign_kind assign_operators t.kind op h

two-are : {A : Type 0} (kind_of : A → TokenKind) (test : A → Bool) (x y : A) (b : Bool) → test x ≡ b → test y ≡ b → (k : Filling) (op : A) → look_up kind_of (x ∷ y ∷ []) k ≡ Some op → test op ≡ b
two-are kind_of test x y b hx hy k op h = elim (cond-some (same_kind (kind_of x) k) x op (look_up kind_of (y ∷ []) k) h) [
  | inl a ↦ subst (λ z. test z ≡ b) a.1 hx
  | inr a ↦ elim (cond-some (same_kind (kind_of y) k) y op None a.1) [
    | inl e ↦ subst (λ z. test z ≡ b) e.1 hy
    | inr e ↦ absurd (cc)
  ]
]

pub before-means : (op : UpdateOperator) (t : Filled) → before_at t ≡ Some op → (t.kind ≡ Read (update_kind op)) × (is_before op ≡ true)
before-means op t h = (look-up-is update_kind (IncrementBefore ∷ DecrementBefore ∷ []) t.kind op h, two-are update_kind is_before IncrementBefore DecrementBefore true refl refl t.kind op h)

pub unless-is : {A : Type 0} (b : Bool) (o : Option A) (x : A) → unless b o ≡ Some x → (b ≡ false) × (o ≡ Some x)
unless-is true o x h = absurd (cc)
unless-is false o x h = (refl, h)

pub after-means : (op : UpdateOperator) (t : Filled) → after_at t ≡ Some op → (t.kind ≡ Read (update_kind op)) × (is_before op ≡ false) × (t.newline ≡ false)
after-means op t h =
    let e = unless-is t.newline (look_up update_kind (IncrementAfter ∷ DecrementAfter ∷ []) t.kind) op h in
    (look-up-is update_kind (IncrementAfter ∷ DecrementAfter ∷ []) t.kind op e.1, two-are update_kind is_before IncrementAfter DecrementAfter false refl refl t.kind op e.1, e.0)

-- an operator of the level that may stand there
abbrev pub IsOperator : Flags → ℕ → BinaryOperator → Filled → Type 0
IsOperator f level op t = (t.kind ≡ Read (binary_kind op)) × (binary_level op ≡ level) × ((f.has_in || not (is_in op)) ≡ true)

level-is : (f : Flags) (level : ℕ) (o : Option BinaryOperator) (op : BinaryOperator) → operator_of_level f level o ≡ Some op → (o ≡ Some op) × (binary_level op ≡ level) × ((f.has_in || not (is_in op)) ≡ true)
level-is f level None op h = absurd (cc)
level-is f level (Some x) op h =
    let e = unless-is (not (binary_level x == level) || not (f.has_in || not (is_in x))) (Some x) op h in
    let g = or_false (not (binary_level x == level)) (not (f.has_in || not (is_in x))) e.0 in
    let same = some_same e.1 in
    (e.1, subst (λ z. binary_level z ≡ level) same (eqb-true (binary_level x) level (not_false (binary_level x == level) g.0)), subst (λ z. (f.has_in || not (is_in z)) ≡ true) same (not_false (f.has_in || not (is_in x)) g.1))

pub binary-means : (f : Flags) (level : ℕ) (op : BinaryOperator) (t : Filled) → binary_at f level t ≡ Some op → IsOperator f level op t
binary-means f level op t h =
    let e = level-is f level (look_up binary_kind binary_operators t.kind) op h in
    (look-up-is binary_kind binary_operators t.kind op e.0, e.1, e.2)

-- ## Arrows and declarations

-- `=>` on the line of the token before it
abbrev pub IsArrow : Filled → Type 0
IsArrow t = IsMark marks.Arrow t × (t.newline ≡ false)

pub arrow-means : (t u : Filled) → arrow_at t ≡ Some u → IsArrow t
arrow-means t u h =
    let e = unless-is t.newline (cond (is_mark marks.Arrow t.kind) (Some t) None) u h in
    elim (cond-some (is_mark marks.Arrow t.kind) t u None e.1) [
      | inl a ↦ (mark-is marks.Arrow t.kind a.0, e.0)
      | inr a ↦ absurd (cc)
    ]

pub kind-means : (kind : VariableKind) (t : Filled) → kind_at t ≡ Some kind → IsWord (kind_word kind) t
kind-means kind t h = look-up-is (λ k. kinds.Word (kind_word k)) (Var ∷ Let ∷ Const ∷ []) t.kind kind h

pub lexical-kind-means : (kind : VariableKind) (t : Filled) → lexical_kind_at t ≡ Some kind → IsWord (kind_word kind) t × (is_lexical kind ≡ true)
lexical-kind-means kind t h =
    (look-up-is (λ k. kinds.Word (kind_word k)) (Let ∷ Const ∷ []) t.kind kind h, two-are (λ k. kinds.Word (kind_word k)) is_lexical Let Const true refl refl t.kind kind h)
