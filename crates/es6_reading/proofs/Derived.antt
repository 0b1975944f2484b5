-- Derivations of the grammar between two inputs: what each reader gives, if those of one construct deeper give it.
use Rattle.std.proofs.Common.{◌≡◌, ℕ, Bool, true, false, ◌&&◌, List, [], ◌∷◌, Option, Some, None, refl}
use Rattle.es6_lexer.specs.declared.token.TokenKind.{TokenKind}
use Rattle.es6_lexer.specs.declared.token.Punctuator.{Punctuator as Mark}
use Rattle.es6_lexer.specs.declared.token.Punctuator.TheVariants as marks
use Rattle.es6_ast.specs.declared.tree.Block.{Block}
use Rattle.es6_ast.specs.declared.tree.ClassMember.{ClassMember}
use Rattle.es6_ast.specs.declared.tree.Expression.{Expression}
use Rattle.es6_ast.specs.declared.tree.Function.{Function}
use Rattle.es6_ast.specs.declared.tree.Identifier.{Identifier}
use Rattle.es6_ast.specs.declared.tree.ObjectPart.{ObjectPart}
use Rattle.es6_ast.specs.declared.tree.Parameter.{Parameter}
use Rattle.es6_ast.specs.declared.tree.Part.{Part, roll-Part}
use Rattle.es6_ast.specs.declared.tree.Pattern.{Pattern}
use Rattle.es6_ast.specs.declared.tree.Property.{Property}
use Rattle.es6_ast.specs.declared.tree.Statement.{Statement}
use Rattle.es6_ast.specs.declared.tree.Statement.TheVariants as stat
use Rattle.es6_ast.specs.declared.settings.Flags.{Flags}
use Rattle.es6_ast.specs.declared.settings.Stand.{Stand}
use Rattle.es6_ast.specs.declared.settings.Stand.TheVariants.{Listed, Under, Labelled}
use Rattle.es6_ast.specs.declared.settings.Shape.{Shape}
use Rattle.es6_ast.specs.declared.settings.Shape.TheVariants.{Bare, Grouped, Covered, LeftHandSide, Other}
use Rattle.es6_ast.specs.Tokens.{Read, Filled, IsWord, IsMark, across, is_identifier}
use Rattle.es6_ast.specs.Grammar.{with_in, level_sequence, level_assignment, level_power, level_unary, level_left_hand_side, level_member, NotStar, name_alone, IsName, IsExpression, IsNewCallee, AreArrowParameters, IsPattern, IsTarget, IsPart, IsObjectPart, IsProperty, IsBlock, IsFunction, IsListed, IsStatement, AreMembers}
use Rattle.es6_reading.specs.Parser.{Input, Parser, on, next_is, take_as, is_mark, mark, word, next_mark, is_left, is_covered, Reading, Inner, on_group}
use Rattle.es6_reading.specs.Words.{is_arrow, is_template_head}
use Rattle.es6_reading.specs.Refine.{Fits}
use Rattle.es6_reading.specs.Expressions.{parameters_before}
use Rattle.es6_reading.specs.Statements.{label_of}
use Rattle.es6_reading.proofs.Posts.{Holds, fault, weaken, Taken, taken, Misses, on-holds, take-holds, choose-holds, if-holds}
use Rattle.es6_reading.proofs.Meanings.{mark-means, mark-misses, word-means}
use Rattle.es6_reading.proofs.Spans.{Moves}

-- ## What readers of expressions give

-- What is read is an expression: no parentheses that only an arrow's parameters have, or no arrow follows, which such stand before.
abbrev pub Uncovered : Shape → Input → Type 0
Uncovered shape c = (is_covered shape && next_is is_arrow c.tokens) ≡ false

pub by-token : (shape : Shape) {arrow : Bool} → arrow ≡ false → (is_covered shape && arrow) ≡ false
by-token Bare h = refl
by-token Grouped h = refl
by-token Covered h = h
by-token LeftHandSide h = refl
by-token Other h = refl

pub by-shape : (shape : Shape) (arrow : Bool) → is_covered shape ≡ false → (is_covered shape && arrow) ≡ false
by-shape Bare arrow h = refl
by-shape Grouped arrow h = refl
by-shape Covered arrow h = absurd (cc)
by-shape LeftHandSide arrow h = refl
by-shape Other arrow h = refl

pub by-left : (shape : Shape) (arrow : Bool) → is_left shape ≡ true → (is_covered shape && arrow) ≡ false
by-left Bare arrow h = refl
by-left Grouped arrow h = refl
by-left Covered arrow h = absurd (cc)
by-left LeftHandSide arrow h = refl
by-left Other arrow h = refl

-- what a reader below assignment gives
pub record ReadIn (f : Flags) (least : ℕ) (s : Input) (x : Reading) (c : Input) : Type 0 where
  pub moves : Moves s c
  pub derived : Uncovered x.shape c → IsExpression f least s.tokens x.value c.tokens
  pub left_side : is_left x.shape ≡ true → IsExpression f level_left_hand_side s.tokens x.value c.tokens
  pub named : (label : Identifier) → label_of x.shape x.value ≡ Some label → IsName s.tokens label c.tokens
  pub parameters : (n : ℕ) (es : List Parameter) → parameters_before n x.shape x.value ≡ Fits es → AreArrowParameters f s.tokens es c.tokens

-- what such a reader gives where no arrow's parameters may stand
pub record ReadAmong (f : Flags) (least : ℕ) (s : Input) (x : Reading) (c : Input) : Type 0 where
  pub moves : Moves s c
  pub derived : IsExpression f least s.tokens x.value c.tokens

pub among : {f : Flags} {least : ℕ} {s c : Input} {x : Reading} → ReadIn f least s x c → is_covered x.shape ≡ false → ReadAmong f least s x c
among {x = x} r h = record { moves = r.moves; derived = r.derived (by-shape x.shape _ h) }

-- what a reader of assignments or of expressions with commas gives
pub record ReadWhole (f : Flags) (least : ℕ) (s : Input) (x : Reading) (c : Input) : Type 0 where
  pub moves : Moves s c
  pub derived : IsExpression f least s.tokens x.value c.tokens
  pub left_side : is_left x.shape ≡ true → IsExpression f level_left_hand_side s.tokens x.value c.tokens
  pub named : (label : Identifier) → label_of x.shape x.value ≡ Some label → IsName s.tokens label c.tokens

-- the next token goes on with no access, and with no call where the mark says so
abbrev pub Stopped : Bool → List Filled → Type 0
Stopped calls ts =
    (next_is (next_mark marks.Dot) ts ≡ false) × (next_is (next_mark marks.LeftBracket) ts ≡ false) × (next_is (λ t. is_template_head t.kind) ts ≡ false)
    × (calls ≡ true → next_is (next_mark marks.LeftParenthesis) ts ≡ false)

-- what `new` has before its arguments
pub record CalleeRead (f : Flags) (s : Input) (x : Reading) (c : Input) : Type 0 where
  pub moves : Moves s c
  pub callee : IsNewCallee f s.tokens x.value c.tokens
  pub member : next_is (next_mark marks.LeftParenthesis) c.tokens ≡ true → IsExpression f level_member s.tokens x.value c.tokens
  pub stopped : Stopped false c.tokens

-- ## What the other readers give

abbrev pub NameIn : Input → Identifier → Input → Type 0
NameIn s n c = Moves s c × IsName s.tokens n c.tokens

abbrev pub BlockIn : Flags → Input → Block → Input → Type 0
BlockIn f s b c = Moves s c × IsBlock f s.tokens b c.tokens

abbrev pub PropertyIn : Flags → Input → Property → Input → Type 0
PropertyIn f s x c = Moves s c × IsProperty f s.tokens x c.tokens

abbrev pub TargetIn : Flags → Input → Pattern → Input → Type 0
TargetIn f s x c = Moves s c × IsTarget f true s.tokens x c.tokens

abbrev pub PartIn : Flags → Input → Part → Input → Type 0
PartIn f s q c = Moves s c × IsPart f true s.tokens q c.tokens

abbrev pub ObjectPartIn : Flags → Input → ObjectPart → Input → Type 0
ObjectPartIn f s e c = Moves s c × IsObjectPart f true s.tokens e c.tokens

-- what is bound, and the initializer that may follow it, with the flags of each
pub data IsInitialized (f g : Flags) : List Filled → Part → List Filled → Type 0 where
  lone_name : {ts us : List Filled} {q : Part} (n : Identifier) → IsName ts n us → q ≡ name_alone n → IsInitialized f g ts q us
  lone_pattern : {ts us : List Filled} {q : Part} (y : Pattern) → IsPattern f true ts y us → q ≡ roll-Part (record { span = across ts us; pattern = y; default = None }) → IsInitialized f g ts q us
  with_initializer : {equals : Filled} {ts us vs : List Filled} {q : Part} (y : Pattern) (value : Expression) → IsTarget f true ts y (equals ∷ us) → IsMark marks.Assign equals → IsExpression g level_assignment us value vs
      → q ≡ roll-Part (record { span = across ts vs; pattern = y; default = Some value }) → IsInitialized f g ts q vs

abbrev pub InitializedIn : Flags → Flags → Input → Part → Input → Type 0
InitializedIn f g s q c = Moves s c × IsInitialized f g s.tokens q c.tokens

-- a member, before whatever members follow it
pub record MemberIn (f : Flags) (s : Input) (m : ClassMember) (c : Input) : Type 0 where
  pub moves : Moves s c
  pub derived : (ms : List ClassMember) (us : List Filled) → AreMembers f c.tokens ms us → AreMembers f s.tokens (m ∷ ms) us

-- what stands under a label: a statement, or a function that is no generator
pub data IsUnderLabel (f : Flags) : List Filled → Statement → List Filled → Type 0 where
  statement_under : {ts us : List Filled} {x : Statement} → IsStatement f ts x us → IsUnderLabel f ts x us
  function_under : {t : Filled} {ts us : List Filled} {x : Statement} (g : Function) → NotStar ts → IsFunction false (t ∷ ts) g us → x ≡ stat.FunctionDeclaration g → IsUnderLabel f (t ∷ ts) x us

abbrev pub IsAtStand : Flags → Stand → List Filled → Statement → List Filled → Type 0
IsAtStand f Listed ts x us = IsListed f ts x us
IsAtStand f Under ts x us = IsStatement f ts x us
IsAtStand f Labelled ts x us = IsUnderLabel f ts x us

abbrev pub StatementIn : Flags → Stand → Input → Statement → Input → Type 0
StatementIn f stand s x c = Moves s c × IsAtStand f stand s.tokens x c.tokens

-- ## Readers of one construct deeper

-- The readers for one construct deeper give derivations. No semicolon is inserted. Within a pattern `in` is an operator.
pub record Sound (i : Inner) : Type 0 where
  pub plain : i.inserting ≡ false
  pub sequence : (f : Flags) (s : Input) → Holds (ReadWhole f level_sequence s) (i.sequence f s)
  pub assignment : (f : Flags) (s : Input) → Holds (ReadWhole f level_assignment s) (i.assignment f s)
  pub power : (f : Flags) (s : Input) → Holds (ReadAmong f level_power s) (i.power f s)
  pub unary : (f : Flags) (s : Input) → Holds (ReadAmong f level_unary s) (i.unary f s)
  pub callee : (f : Flags) (s : Input) → Holds (CalleeRead f s) (i.callee f s)
  pub heritage : (f : Flags) (s : Input) → Holds (ReadAmong f level_left_hand_side s) (i.heritage f s)
  pub block : (f : Flags) (s : Input) → Holds (BlockIn f s) (i.block f s)
  pub property : (f : Flags) (s : Input) → Holds (PropertyIn f s) (i.property f s)
  pub target : (f : Flags) (s : Input) → Holds (TargetIn f s) (i.target f s)
  pub part : (f : Flags) (s : Input) → Holds (PartIn (with_in f) s) (i.part f s)
  pub object_part : (f : Flags) (s : Input) → Holds (ObjectPartIn (with_in f) s) (i.object_part f s)
  pub variable : (f : Flags) (s : Input) → Holds (InitializedIn f f s) (i.variable f s)
  pub member : (f : Flags) (s : Input) → Holds (MemberIn f s) (i.member f s)
  pub statement : (f : Flags) (stand : Stand) (s : Input) → Holds (StatementIn f stand s) (i.statement f stand s)

-- ## Next tokens

-- the input begins with a token of which this holds, and goes on so
pub data Next (P : Filled → Type 0) : Input → Input → Type 0 where
  next : {t : Filled} {ts : List Filled} {last : ℕ} → P t → Next P (record { tokens = t ∷ ts; last = last }) (record { tokens = ts; last = t.span.end })

as-next : {B : Type 0} (test : Filled → Option B) (P : B → Filled → Type 0) (means : (x : B) (t : Filled) → test t ≡ Some x → P x t) {s c : Input} {x : B} → Taken test s x c → Next (P x) s c
as-next test P means {x = x} (taken {t = t} e) = next (means x t e)

pub on-means : {A B : Type 0} {Q : A → Input → Type 0} (test : Filled → Option B) (P : B → Filled → Type 0) (means : (x : B) (t : Filled) → test t ≡ Some x → P x t) (f : B → Parser A) (q : Parser A) (s : Input)
    → ((x : B) (c : Input) → Next (P x) s c → Holds Q (f x c)) → (Misses test s.tokens → Holds Q (q s)) → Holds Q (on test f q s)
on-means test P means f q s here there = on-holds test f q s (λ x c h. here x c (as-next test P means h)) there

pub take-means : {B : Type 0} (test : Filled → Option B) (P : B → Filled → Type 0) (means : (x : B) (t : Filled) → test t ≡ Some x → P x t) (s : Input) → Holds (λ x c. Next (P x) s c) (take_as test s)
take-means test P means s = weaken (take-holds s) (λ x c h. as-next test P means h)

pub one : {t : Filled} {ts : List Filled} {last : ℕ} → Moves (record { tokens = t ∷ ts; last = last }) (record { tokens = ts; last = t.span.end })
one {t = t} = record { first = t; tokens = []; all = refl; end = refl }

pub step : {P : Filled → Type 0} {s c : Input} → Next P s c → Moves s c
step (next h) = one

-- the token is no arrow
pub not-arrow : (k : TokenKind) (t : Filled) → t.kind ≡ Read k → is_mark marks.Arrow (Read k) ≡ false → is_arrow t ≡ false
not-arrow k t e h = rw e (rw h refl)

-- ## Marks, words and groups

abbrev pub IsKind : TokenKind → Filled → Type 0
IsKind k t = t.kind ≡ Read k

abbrev pub IsFree : List ℕ → Filled → Type 0
IsFree name t = IsWord name t × (is_identifier name ≡ true)

misses-mark : (p : Mark) (ts : List Filled) → Misses (mark p) ts → next_is (next_mark p) ts ≡ false
misses-mark p [] h = refl
misses-mark p (t ∷ ts) h = mark-misses p t h

pub on-mark : {A : Type 0} {Q : A → Input → Type 0} (p : Mark) (f : Filled → Parser A) (q : Parser A) (s : Input)
    → ((t : Filled) (c : Input) → Next (IsMark p) s c → Holds Q (f t c)) → (next_is (next_mark p) s.tokens ≡ false → Holds Q (q s)) → Holds Q (on (mark p) f q s)
on-mark p f q s here there = on-means (mark p) (λ u t. IsMark p t) (λ u t h. (mark-means p t u h).0) f q s here (λ h. there (misses-mark p s.tokens h))

pub take-mark : (p : Mark) (s : Input) → Holds (λ t c. Next (IsMark p) s c) (take_as (mark p) s)
take-mark p s = take-means (mark p) (λ u t. IsMark p t) (λ u t h. (mark-means p t u h).0) s

pub on-word : {A : Type 0} {Q : A → Input → Type 0} (w : List ℕ) (f : Filled → Parser A) (q : Parser A) (s : Input)
    → ((t : Filled) (c : Input) → Next (IsWord w) s c → Holds Q (f t c)) → (Misses (word w) s.tokens → Holds Q (q s)) → Holds Q (on (word w) f q s)
on-word w f q s here there = on-means (word w) (λ u t. IsWord w t) (λ u t h. (word-means w t u h).0) f q s here there

pub take-word : (w : List ℕ) (s : Input) → Holds (λ t c. Next (IsWord w) s c) (take_as (word w) s)
take-word w s = take-means (word w) (λ u t. IsWord w t) (λ u t h. (word-means w t u h).0) s

pub group-holds : {A : Type 0} {Q : A → Input → Type 0} (i : Inner) (p : Mark) (inside otherwise : Parser A) (s : Input)
    → ((c : Input) → Next (IsMark p) s c → Holds Q (inside c)) → (next_is (next_mark p) s.tokens ≡ false → Holds Q (otherwise s)) → Holds Q (on_group i p inside otherwise s)
group-holds i p inside otherwise s here there =
    if-holds _ _ _ s (λ h. choose-holds _ _ i.may_open s (λ o. on-mark p _ _ s (λ t c n. here c n) there) (λ o. fault)) there
