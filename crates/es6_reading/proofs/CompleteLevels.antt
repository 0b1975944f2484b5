-- An expression that is read at its own level is read at each lower one, if the next token goes on with nothing there.
use Rattle.std.proofs.Common.{◌≡◌, ℕ, zero, suc, ◌+◌, ◌≤◌, Bool, true, false, ◌&&◌, List, [], ◌∷◌, None, refl, sym, ap, subst, ◌∙◌, arith}
use Rattle.std.specs.Prelude.{codes, is_some}
use Rattle.es6_lexer.specs.declared.token.TokenKind.TheVariants as kinds
use Rattle.es6_lexer.specs.declared.token.Punctuator.{Punctuator as Mark}
use Rattle.es6_lexer.specs.declared.token.Punctuator.TheVariants as marks
use Rattle.es6_ast.specs.declared.tree.Expression.{Expression}
use Rattle.es6_ast.specs.declared.settings.Flags.{Flags}
use Rattle.es6_ast.specs.declared.settings.Role.{Role}
use Rattle.es6_ast.specs.declared.settings.Role.TheVariants.{Leading, Among}
use Rattle.es6_ast.specs.declared.settings.Shape.{Shape}
use Rattle.es6_ast.specs.Settings.{has_calls}
use Rattle.es6_ast.specs.Tokens.{Filling, Filled, Read, begin_of}
use Rattle.es6_reading.specs.Parser.{Input, Took, Parser, returns, next_is, mark, word, next_mark, Reading, is_left, Inner, choose}
use Rattle.es6_reading.specs.Words.{same_truth, stretch_if, stretch_in, stretch_at, is_template_head, is_arrow, unary_at, before_at, after_at, assign_at, binary_at, begins_operand, begins_unary, unary_operators, operand_words}
use Rattle.es6_reading.specs.Expressions.{head, links, chain, postfix, update, unary, power, raised, operands, binary_from, conditional, without_yield, after_conditional, assignment, sequence}
use Rattle.es_outside.specs.HostNames.{reserved_words}
use Rattle.es6_reading.proofs.Posts.{Misses}
use Rattle.es6_reading.proofs.Reading.{Eventually, always, then_, both, turn, begin, on-miss-is}
use Rattle.es6_reading.proofs.Exactly.{exactly, ReadsExactly, and_then, miss, if-no, if-is, either-choice, known}
use Rattle.es6_reading.proofs.CompleteTokens.{no-word, word-miss, mark-miss, operand-no-unary, operand-no-before, Closes, closes-up}
use Rattle.es6_reading.proofs.CompleteImports.{R, readers-fuel}

abbrev pub reading : Expression → Shape → Reading
reading x shape = record { value = x; shape = shape }

-- ## From heads to chains

-- the next token goes on with no access, and with no call where the mark says so
pub record Stops (calls : Bool) (us : List Filled) : Type 0 where
  pub dot : next_is (next_mark marks.Dot) us ≡ false
  pub bracket : next_is (next_mark marks.LeftBracket) us ≡ false
  pub template : next_is (λ t. is_template_head t.kind) us ≡ false
  pub paren : calls ≡ true → next_is (next_mark marks.LeftParenthesis) us ≡ false

pub mark-missed : (p : Mark) (ts : List Filled) → next_is (next_mark p) ts ≡ false → Misses (mark p) ts
mark-missed p [] h = tt
mark-missed p (t ∷ ts) h = mark-miss p t h

stretch-none : (last : Bool) (t : Filled) (k : Filling) → is_template_head k ≡ false → stretch_in true last t.span k ≡ None
stretch-none last t (Read (kinds.Template cooked raw first end)) h = ap (λ b. stretch_if (b && same_truth last end) t.span cooked raw) h
stretch-none last t k h = refl

pub stretch-missed : (last : Bool) (ts : List Filled) → next_is (λ t. is_template_head t.kind) ts ≡ false → Misses (stretch_at true last) ts
stretch-missed last [] h = tt
stretch-missed last (t ∷ ts) h = stretch-none last t t.kind h

pub stretch-unopened : (ts : List Filled) → next_is (λ t. is_template_head t.kind) ts ≡ false → next_is (λ t. is_some (stretch_at true false t)) ts ≡ false
stretch-unopened [] h = refl
stretch-unopened (t ∷ ts) h = ap (λ o. is_some o) (stretch-none false t t.kind h)

choose-same : {A : Type 0} (b : Bool) (p q : Parser A) (c : Input) → (b ≡ true → p c ≡ q c) → choose b p q c ≡ q c
choose-same true p q c h = h refl
choose-same false p q c h = refl

abbrev LinksNone : Flags → Bool → List Filled → ℕ → ℕ → ℕ → Type 0
LinksNone f calls us t k r = (last : ℕ) → links (R k r) f calls t (record { tokens = us; last = last }) ≡ Took [] (record { tokens = us; last = last })

pub links-none : (f : Flags) (calls : Bool) (us : List Filled) → Stops calls us → Eventually (LinksNone f calls us)
unfolding links
links-none f calls us s = turn (always {P = λ t k r. Unit {0}} (λ t k r. tt)) (λ t k r _ last.
    on-miss-is (mark marks.Dot) _ _ us last (mark-missed marks.Dot us s.dot) ∙ if-is (next_mark marks.LeftBracket) _ _ us last s.bracket
    ∙ on-miss-is (stretch_at true true) _ _ us last (stretch-missed true us s.template) ∙ if-is (λ u. is_some (stretch_at true false u)) _ _ us last (stretch-unopened us s.template)
    ∙ choose-same calls _ (returns []) (record { tokens = us; last = last }) (λ c. if-is (next_mark marks.LeftParenthesis) _ _ us last (s.paren c)))

abbrev pub HeadReads : Flags → Role → Reading → List Filled → List Filled → Type 0
HeadReads f role x ts us = Eventually (λ t k r. ReadsExactly (head (R k r) f role (begin_of ts)) x ts us)

abbrev pub ChainReads : Flags → Role → Reading → List Filled → List Filled → Type 0
ChainReads f role x ts us = Eventually (λ t k r. ReadsExactly (chain (R k r) f role) x ts us)

pub head-chain : (f : Flags) (role : Role) (x : Reading) (ts us : List Filled) → HeadReads f role x ts us → Stops (has_calls role) us → ChainReads f role x ts us
unfolding chain
head-chain f role x ts us h s = both h (begin (links-none f (has_calls role) us s) (λ t k r y. at-turns k r y)) (λ t k r y z last. and_then _ (y last) (λ end mv. known _ (z end) (exactly mv)))
  where
    at-turns : (k r : ℕ) → LinksNone f (has_calls role) us k k r → (last : ℕ) → links (R k r) f (has_calls role) (R k r).fuel (record { tokens = us; last = last }) ≡ Took [] (record { tokens = us; last = last })
    at-turns k r y = subst (λ n. (last : ℕ) → links (R k r) f (has_calls role) n (record { tokens = us; last = last }) ≡ Took [] (record { tokens = us; last = last })) (sym (readers-fuel k r)) y

-- ## From chains to unary expressions and powers

abbrev pub UpdateReads : Flags → Role → Reading → List Filled → List Filled → Type 0
UpdateReads f role x ts us = Eventually (λ t k r. ReadsExactly (update (R k r) f role) x ts us)

abbrev pub UnaryReads : Flags → Reading → List Filled → List Filled → Type 0
UnaryReads f x ts us = Eventually (λ t k r. ReadsExactly (unary (R k r) f) x ts us)

abbrev pub PowerReads : Flags → Role → Reading → List Filled → List Filled → Type 0
PowerReads f role x ts us = Eventually (λ t k r. ReadsExactly (power (R k r) f role) x ts us)

pub no-unary : (ts : List Filled) → next_is begins_operand ts ≡ true → Misses unary_at ts
no-unary [] h = tt
no-unary (t ∷ ts) h = operand-no-unary t h

pub no-before : (ts : List Filled) → next_is begins_operand ts ≡ true → Misses before_at ts
no-before [] h = tt
no-before (t ∷ ts) h = operand-no-before t h

pub chain-update : (f : Flags) (role : Role) (x : Reading) (ts us : List Filled) → ChainReads f role x ts us → next_is begins_operand ts ≡ true → Misses after_at us → UpdateReads f role x ts us
unfolding update postfix
chain-update f role x ts us h o m = then_ h (λ t k r y last. miss before_at _ _ ts last (no-before ts o) (and_then _ (y last) (λ end mv. miss after_at _ _ us end m (exactly mv))))

pub update-unary : (f : Flags) (x : Reading) (ts us : List Filled) → UpdateReads f Among x ts us → Misses unary_at ts → UnaryReads f x ts us
unfolding unary
update-unary f x ts us h m = then_ h (λ t k r y last. miss unary_at _ _ ts last m (y last))

pub update-power : (f : Flags) (role : Role) (x : Reading) (ts us : List Filled) → UpdateReads f role x ts us → Misses unary_at ts → Misses (mark marks.StarStar) us → PowerReads f role x ts us
unfolding power raised
update-power f role x ts us h m s = then_ h (λ t k r y last. miss unary_at _ _ ts last m (and_then _ (y last) (λ end mv. miss (mark marks.StarStar) _ _ us end s (exactly mv))))

-- ## From operators to lower ones

OperandsNone : (ℕ → ℕ → Parser Reading) → Flags → ℕ → List Filled → ℕ → ℕ → ℕ → Type 0
OperandsNone q f level us t k r = (last : ℕ) → operands (q k r) f level t (record { tokens = us; last = last }) ≡ Took [] (record { tokens = us; last = last })

operands-none : (q : ℕ → ℕ → Parser Reading) (f : Flags) (level : ℕ) (us : List Filled) → Misses (binary_at f level) us → Eventually (OperandsNone q f level us)
unfolding operands OperandsNone
operands-none q f level us m = turn (always {P = λ t k r. Unit {0}} (λ t k r. tt)) (λ t k r _ last. on-miss-is (binary_at f level) _ _ us last m)

abbrev pub BinaryReads : Flags → Role → ℕ → ℕ → Reading → List Filled → List Filled → Type 0
BinaryReads f role above level x ts us = Eventually (λ t k r. ReadsExactly (binary_from (R k r) f role above level) x ts us)

lift-one : (f : Flags) (role : Role) (above level : ℕ) (x : Reading) (ts us : List Filled) → BinaryReads f role above (level + 1) x ts us → Misses (binary_at f level) us → BinaryReads f role (suc above) level x ts us
unfolding binary_from OperandsNone
lift-one f role above level x ts us h m = both h (begin (operands-none (λ k r. binary_from (R k r) f Among above (level + 1)) f level us m) (λ t k r y. at-turns k r y)) (λ t k r y z last.
    and_then _ (y last) (λ end mv. known _ (z end) (exactly mv)))
  where
    at-turns : (k r : ℕ) → OperandsNone (λ k r. binary_from (R k r) f Among above (level + 1)) f level us k k r → (last : ℕ) → operands (binary_from (R k r) f Among above (level + 1)) f level (R k r).fuel (record { tokens = us; last = last }) ≡ Took [] (record { tokens = us; last = last })
    at-turns k r y = subst (λ n. (last : ℕ) → operands (binary_from (R k r) f Among above (level + 1)) f level n (record { tokens = us; last = last }) ≡ Took [] (record { tokens = us; last = last })) (sym (readers-fuel k r)) y

lift-binaries : (n above high above' level : ℕ) (f : Flags) (role : Role) (x : Reading) (ts us : List Filled) → high ≡ level + n → above + high ≡ 13 → above' + level ≡ 13 → BinaryReads f role above high x ts us → Closes f level us → BinaryReads f role above' level x ts us
lift-binaries zero above high above' level f role x ts us e s s' h c =
    subst (λ l. BinaryReads f role above' l x ts us) (same-level high level e) (subst (λ a. BinaryReads f role a high x ts us) (same-above above high above' level e s s') h)
  where
    same-level : (high level : ℕ) → high ≡ level + zero → high ≡ level
    same-level high level e = omega arith

    same-above : (above high above' level : ℕ) → high ≡ level + zero → above + high ≡ 13 → above' + level ≡ 13 → above ≡ above'
    same-above above high above' level e s s' = omega arith
lift-binaries (suc n) above high above' level f role x ts us e s s' h c =
    lift-binaries n (suc above) (level + n) above' level f role x ts us refl (sum above high level n e s) s'
    (lift-one f role above (level + n) x ts us (subst (λ l. BinaryReads f role above l x ts us) (next-level high level n e) h) (c.operator (level + n) (fits level n) (low above high level n e s))) c
  where
    sum : (above high level n : ℕ) → high ≡ level + suc n → above + high ≡ 13 → suc above + (level + n) ≡ 13
    sum above high level n e s = omega arith

    next-level : (high level n : ℕ) → high ≡ level + suc n → high ≡ (level + n) + 1
    next-level high level n e = omega arith

    fits : (level n : ℕ) → level ≤ level + n
    fits level n = omega arith

    low : (above high level n : ℕ) → high ≡ level + suc n → above + high ≡ 13 → level + n ≤ 12
    low above high level n e s = omega arith

-- ## Levels

-- operands of binary operators stand at the begin of an assignment, or among operators
pub data Stand : Role → Type 0 where
  leads : Stand Leading
  among : Stand Among

-- the levels at which expressions are read
pub data Level : ℕ → Type 0 where
  sequence_level : Level 0
  assignment_level : Level 1
  binary_level_ : (role : Role) → Stand role → (above : ℕ) {level : ℕ} → above + level ≡ 13 → 3 ≤ level → Level level
  unary_level : Level 14

abbrev pub level_reader : Inner → Flags → {least : ℕ} → Level least → Parser Reading
level_reader i f sequence_level = sequence i f
level_reader i f assignment_level = assignment i f
level_reader i f (binary_level_ role stand above {level = level} e h) = binary_from i f role above level
level_reader i f unary_level = unary i f

abbrev pub LevelReads : Flags → Reading → List Filled → List Filled → {least : ℕ} → Level least → Type 0
LevelReads f x ts us v = Eventually (λ t k r. ReadsExactly (level_reader (R k r) f v) x ts us)

abbrev pub ConditionalReads : Flags → Reading → List Filled → List Filled → Type 0
ConditionalReads f x ts us = Eventually (λ t k r. ReadsExactly (conditional (R k r) f) x ts us)

abbrev pub AssignmentReads : Flags → Reading → List Filled → List Filled → Type 0
AssignmentReads f x ts us = Eventually (λ t k r. ReadsExactly (assignment (R k r) f) x ts us)

abbrev pub SequenceReads : Flags → Reading → List Filled → List Filled → Type 0
SequenceReads f x ts us = Eventually (λ t k r. ReadsExactly (sequence (R k r) f) x ts us)

pub no-yield : (ts : List Filled) → next_is begins_unary ts ≡ true → Misses (word (codes "yield")) ts
unfolding begins_unary begins_operand reserved_words operand_words unary_operators
no-yield [] h = tt
no-yield (t ∷ ts) h = word-miss (codes "yield") t (no-word begins_unary (codes "yield") t h refl)

pub to-conditional : (f : Flags) (x : Reading) (ts us : List Filled) → BinaryReads f Leading 10 3 x ts us → Closes f 2 us → ConditionalReads f x ts us
unfolding conditional
to-conditional f x ts us h c = then_ h (λ t k r y last. and_then _ (y last) (λ end mv. miss (mark marks.Question) _ _ us end (c.question (omega arith)) (exactly mv)))

-- where no `yield` begins it
pub from-without-yield : (f : Flags) (x : Reading) (ts us : List Filled) → next_is begins_unary ts ≡ true → Eventually (λ t k r. ReadsExactly (without_yield (R k r) f (begin_of ts)) x ts us) → AssignmentReads f x ts us
unfolding assignment
from-without-yield f x ts us o h = then_ h (λ t k r y last. either-choice f.has_yield _ _ _ (λ e. miss (word (codes "yield")) _ _ ts last (no-yield ts o) (y last)) (λ e. y last))

pub to-assignment : (f : Flags) (x : Reading) (ts us : List Filled) → next_is begins_unary ts ≡ true → ConditionalReads f x ts us → Closes f 1 us → AssignmentReads f x ts us
unfolding without_yield after_conditional
to-assignment f x ts us o h c = from-without-yield f x ts us o (then_ h (λ t k r y last. and_then _ (y last) (λ end mv. if-no is_arrow _ _ us end (c.arrow (omega arith))
    (either-choice (is_left x.shape) _ _ _ (λ l. miss assign_at _ _ us end (c.assigns (omega arith)) (exactly mv)) (λ l. exactly mv)))))

to-sequence : (f : Flags) (x : Reading) (ts us : List Filled) → AssignmentReads f x ts us → Closes f 0 us → SequenceReads f x ts us
unfolding sequence
to-sequence f x ts us h c = then_ h (λ t k r y last. and_then _ (y last) (λ end mv. miss (mark marks.Comma) _ _ us end (c.comma (omega arith)) (exactly mv)))

up : (f : Flags) (a b : ℕ) (us : List Filled) → a ≤ b → Closes f a us → Closes f b us
up f a b us h c = closes-up f a b us h c

difference : (high low : ℕ) → low ≤ high → (n : ℕ) × (high ≡ low + n)
difference high zero h = (high, omega arith)
difference zero (suc low) h = absurd (none low h)
  where
    none : (low : ℕ) → suc low ≤ zero → ⊥
    none low h = omega arith
difference (suc high) (suc low) h = let d = difference high low (down low high h) in (d.0, more high low d.0 d.1)
  where
    down : (low high : ℕ) → suc low ≤ suc high → low ≤ high
    down low high h = omega arith

    more : (high low n : ℕ) → high ≡ low + n → suc high ≡ suc low + n
    more high low n e = omega arith

to-three : (above high : ℕ) (f : Flags) (x : Reading) (ts us : List Filled) → above + high ≡ 13 → 3 ≤ high → BinaryReads f Leading above high x ts us → Closes f 3 us → BinaryReads f Leading 10 3 x ts us
to-three above high f x ts us e h r c = let d = difference high 3 h in lift-binaries d.0 above high 10 3 f Leading x ts us d.1 e refl r c

high-unary : (level : ℕ) → 14 ≤ level → level ≤ 13 → ⊥
high-unary level a b = omega arith

thirteen : (above high : ℕ) → above + high ≡ 13 → 14 ≤ high → ⊥
thirteen above high e l = omega arith

pub from-binary : (above high : ℕ) (f : Flags) (x : Reading) (ts us : List Filled) → above + high ≡ 13 → 3 ≤ high → next_is begins_unary ts ≡ true → ((role : Role) → Stand role → BinaryReads f role above high x ts us) → (least : ℕ) (v : Level least) → least ≤ high → Closes f least us → LevelReads f x ts us v
from-binary above high f x ts us e h o r least sequence_level l c = to-sequence f x ts us (to-assignment f x ts us o (to-conditional f x ts us (to-three above high f x ts us e h (r Leading leads) (up f 0 3 us (omega arith) c)) (up f 0 2 us (omega arith) c)) (up f 0 1 us (omega arith) c)) c
from-binary above high f x ts us e h o r least assignment_level l c = to-assignment f x ts us o (to-conditional f x ts us (to-three above high f x ts us e h (r Leading leads) (up f 1 3 us (omega arith) c)) (up f 1 2 us (omega arith) c)) c
from-binary above high f x ts us e h o r least (binary_level_ role stand above' {level = level} e' h') l c = let d = difference high level l in lift-binaries d.0 above high above' level f role x ts us d.1 e e' (r role stand) c
from-binary above high f x ts us e h o r least unary_level l c = absurd (thirteen above high e l)

too-low : (level : ℕ) → level ≤ 2 → 3 ≤ level → ⊥
too-low level a b = omega arith

no-low : (a b : ℕ) → suc b ≤ a → a ≤ b → ⊥
no-low a b h l = omega arith

le-two : (a : ℕ) → a ≤ 1 → a ≤ 2
le-two a h = omega arith

le-two' : (a : ℕ) → a ≤ 0 → a ≤ 2
le-two' a h = omega arith

pub from-conditional : (f : Flags) (x : Reading) (ts us : List Filled) → next_is begins_unary ts ≡ true → ConditionalReads f x ts us → (least : ℕ) (v : Level least) → least ≤ 2 → Closes f least us → LevelReads f x ts us v
from-conditional f x ts us o r least sequence_level l c = to-sequence f x ts us (to-assignment f x ts us o r (up f 0 1 us (omega arith) c)) c
from-conditional f x ts us o r least assignment_level l c = to-assignment f x ts us o r c
from-conditional f x ts us o r least (binary_level_ role stand above {level = level} e h) l c = absurd (too-low level l h)
from-conditional f x ts us o r least unary_level l c = absurd (no-low 14 2 (omega arith) l)

pub from-assignment : (f : Flags) (x : Reading) (ts us : List Filled) → AssignmentReads f x ts us → (least : ℕ) (v : Level least) → least ≤ 1 → Closes f least us → LevelReads f x ts us v
from-assignment f x ts us r least sequence_level l c = to-sequence f x ts us r c
from-assignment f x ts us r least assignment_level l c = r
from-assignment f x ts us r least (binary_level_ role stand above {level = level} e h) l c = absurd (too-low level (le-two level l) h)
from-assignment f x ts us r least unary_level l c = absurd (no-low 14 1 (omega arith) l)

pub from-sequence : (f : Flags) (x : Reading) (ts us : List Filled) → SequenceReads f x ts us → (least : ℕ) (v : Level least) → least ≤ 0 → LevelReads f x ts us v
from-sequence f x ts us r least sequence_level l = r
from-sequence f x ts us r least assignment_level l = absurd (no-low 1 0 (omega arith) l)
from-sequence f x ts us r least (binary_level_ role stand above {level = level} e h) l = absurd (too-low level (le-two' level l) h)
from-sequence f x ts us r least unary_level l = absurd (no-low 14 0 (omega arith) l)

pub from-power : (f : Flags) (x : Reading) (ts us : List Filled) → next_is begins_unary ts ≡ true → ((role : Role) → Stand role → PowerReads f role x ts us) → (least : ℕ) (v : Level least) → least ≤ 13 → Closes f least us → LevelReads f x ts us v
unfolding binary_from
from-power f x ts us o h least v l c = from-binary 0 13 f x ts us refl (omega arith) o h least v l c

pub level-at-most : {least : ℕ} (v : Level least) → least ≤ 14
level-at-most sequence_level = omega arith
level-at-most assignment_level = omega arith
level-at-most (binary_level_ role stand above {level = level} e h) = sum above level e
  where
    sum : (above level : ℕ) → above + level ≡ 13 → level ≤ 14
    sum above level e = omega arith
level-at-most unary_level = omega arith

-- a unary expression, at all levels
pub from-unary : (f : Flags) (x : Reading) (ts us : List Filled) → next_is begins_unary ts ≡ true → UnaryReads f x ts us → (Misses (mark marks.StarStar) us → (role : Role) → Stand role → PowerReads f role x ts us) → (least : ℕ) (v : Level least) → Closes f least us → LevelReads f x ts us v
from-unary f x ts us o u h least unary_level c = u
from-unary f x ts us o u h least sequence_level c = from-power f x ts us o (h (c.raised (omega arith))) 0 sequence_level (omega arith) c
from-unary f x ts us o u h least assignment_level c = from-power f x ts us o (h (c.raised (omega arith))) 1 assignment_level (omega arith) c
from-unary f x ts us o u h least (binary_level_ role stand above {level = level} e h') c = from-power f x ts us o (h (c.raised (low above level e))) level (binary_level_ role stand above e h') (low above level e) c
  where
    low : (above level : ℕ) → above + level ≡ 13 → level ≤ 13
    low above level e = omega arith

-- before an assignment operator or an arrow
pub power-conditional : (f : Flags) (x : Reading) (ts us : List Filled) → PowerReads f Leading x ts us → Closes f 2 us → ConditionalReads f x ts us
unfolding binary_from
power-conditional f x ts us h c = to-conditional f x ts us (to-three 0 13 f x ts us refl (omega arith) h (up f 2 3 us (omega arith) c)) c
