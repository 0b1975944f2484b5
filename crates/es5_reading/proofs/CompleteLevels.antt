-- An expression that is read at its own level is read at each lower one, if the next token goes on with nothing there.
use Rattle.std.proofs.Common.{◌≡◌, ℕ, zero, suc, ◌+◌, ◌≤◌, Bool, true, false, List, [], ◌∷◌, refl, sym, subst, arith}
use Rattle.std.specs.Prelude.{codes}
use Rattle.es5_ast.specs.declared.tree.Expr5.{Expr5}
use Rattle.es5_ast.specs.Lexical.{Token5}
use Rattle.es5_ast.specs.Grammar.{begin_of}
use Rattle.es5_reading.specs.Parser.{Parser, next_is, mark, next_mark, Shape5, LeftHandSide, Other, Read5, is_left, Inner5}
use Rattle.es5_reading.specs.Expressions.{head, links, chain, postfix, unary, operands, binary_from, conditional, assignment, sequence, unary_at, before_at, after_at, assign_at, binary_at}
use Rattle.es5_reading.specs.Programs.{readers}
use Rattle.es5_reading.proofs.Posts.{Misses}
use Rattle.es5_reading.proofs.Spans.{stays, then-goes}
use Rattle.es5_reading.proofs.Insertion.{readers-fuel}
use Rattle.es5_reading.proofs.Reading.{reads_, Reads, Passes, bind-reads, on-miss, choose-either, group-miss, Eventually, then_, both, once, begin}
use Rattle.es5_reading.proofs.CompleteTokens.{BeginsOperand, begins_operand_at, BeginsFirst, begins-first, operand-no-unary, operand-no-before, Closes, closes-up, mark-miss}

abbrev pub R : ℕ → ℕ → Inner5
R f r = readers false f r

-- the turns that a reader begins with are all that there are
pub at-fuel : {A : Type 0} (loop : ℕ → Parser A) (x : A) (ts us : List Token5) (f r : ℕ) → Reads (loop f) x ts us → Reads (loop (R f r).fuel) x ts us
at-fuel loop x ts us f r h = subst (λ n. Reads (loop n) x ts us) (sym (readers-fuel false f r)) h

pub at-fuel' : {A : Type 0} (loop : ℕ → Parser A) (x : A) (ts us : List Token5) (f r : ℕ) → Passes (loop f) x ts us → Passes (loop (R f r).fuel) x ts us
at-fuel' loop x ts us f r h = subst (λ n. Passes (loop n) x ts us) (sym (readers-fuel false f r)) h

abbrev pub reading : Expr5 → Shape5 → Read5
reading x shape = record { value = x; shape = shape }

-- ## From heads to chains

pub mark-missed : (p : List ℕ) (ts : List Token5) → next_is (next_mark p) ts ≡ false → Misses (mark p) ts
mark-missed p [] h = tt
mark-missed p (t ∷ ts) h = mark-miss p t h

pub links-none : {n : ℕ} (calls : Bool) (us : List Token5) → next_is (next_mark (codes ".")) us ≡ false → next_is (next_mark (codes "[")) us ≡ false → (calls ≡ true → next_is (next_mark (codes "(")) us ≡ false)
    → Eventually n (λ t f r. Passes (links (R f r) calls t) [] us us)
unfolding links
links-none calls us d b p = once (λ t f r last. on-miss _ _ _ us last (mark-missed (codes ".") us d) (group-miss (R f r) _ _ _ us last b
    (choose-either calls _ _ (record { tokens = us; last = last }) (λ c. group-miss (R f r) _ _ _ us last (p c) (reads_ (stays _))) (λ c. reads_ (stays _)))))

abbrev pub HeadReads : ℕ → List Token5 → Read5 → List Token5 → Type 0
HeadReads n ts x us = Eventually n (λ t f r. Reads (head (R f r) (begin_of ts)) x ts us)

abbrev pub ChainReads : ℕ → Bool → List Token5 → Read5 → List Token5 → Type 0
ChainReads n calls ts x us = Eventually n (λ t f r. Reads (chain (R f r) calls) x ts us)

pub head-chain : {n : ℕ} (calls : Bool) (ts : List Token5) (x : Read5) (us : List Token5) → HeadReads n ts x us → next_is (next_mark (codes ".")) us ≡ false → next_is (next_mark (codes "[")) us ≡ false → (calls ≡ true → next_is (next_mark (codes "(")) us ≡ false) → ChainReads n calls ts x us
unfolding chain
head-chain calls ts x us h d b p = both h (begin (links-none calls us d b p) (λ t f r k. at-fuel' (λ n. links (R f r) calls n) [] us us f r k)) (λ t f r y z last.
    bind-reads _ (y last) (λ m v. bind-reads _ (z m) (λ j g. reads_ (then-goes v g))))

-- ## From chains to unary expressions

pub chain-unary : {n : ℕ} (x : Read5) (ts us : List Token5) → ChainReads n true ts x us → BeginsOperand ts → Misses after_at us → Eventually n (λ t f r. Reads (unary (R f r)) x ts us)
unfolding unary postfix
chain-unary x ts us h (begins_operand_at {t = u} {ts = vs} o) m = then_ h (λ t f r y last.
    on-miss unary_at _ _ (u ∷ vs) last (operand-no-unary u o) (on-miss before_at _ _ (u ∷ vs) last (operand-no-before u o)
    (bind-reads _ (y last) (λ j v. on-miss after_at _ _ us j m (reads_ v)))))

-- ## From operators to lower ones

operands-none : {n : ℕ} (q : ℕ → ℕ → Parser Read5) (k : Bool) (level : ℕ) (us : List Token5) → Misses (binary_at k level) us → Eventually n (λ t f r. Passes (operands (q f r) k level t) [] us us)
unfolding operands
operands-none q k level us m = once (λ t f r last. on-miss (binary_at k level) _ _ us last m (reads_ (stays _)))

abbrev pub BinaryReads : ℕ → Bool → ℕ → ℕ → Read5 → List Token5 → List Token5 → Type 0
BinaryReads n k above level x ts us = Eventually n (λ t f r. Reads (binary_from (R f r) k above level) x ts us)

lift-one : {n : ℕ} (k : Bool) (above level : ℕ) (x : Read5) (ts us : List Token5) → BinaryReads n k above (level + 1) x ts us → Misses (binary_at k level) us → BinaryReads n k (suc above) level x ts us
unfolding binary_from
lift-one k above level x ts us h m = both h (begin (operands-none (λ f r. binary_from (R f r) k above (level + 1)) k level us m) (λ t f r y. at-fuel' (λ n. operands (binary_from (R f r) k above (level + 1)) k level n) [] us us f r y)) (λ t f r y z last.
    bind-reads _ (y last) (λ j v. bind-reads _ (z j) (λ i g. reads_ (then-goes v g))))

lift-binaries : {d : ℕ} (n above high above' level : ℕ) (k : Bool) (x : Read5) (ts us : List Token5) → high ≡ level + n → above + high ≡ 13 → above' + level ≡ 13 → BinaryReads d k above high x ts us → Closes k level us → BinaryReads d k above' level x ts us
lift-binaries {d = d} zero above high above' level k x ts us e s s' h c =
    subst (λ l. BinaryReads d k above' l x ts us) (same-level high level e) (subst (λ a. BinaryReads d k a high x ts us) (same-above above high above' level e s s') h)
  where
    same-level : (high level : ℕ) → high ≡ level + zero → high ≡ level
    same-level high level e = omega arith

    same-above : (above high above' level : ℕ) → high ≡ level + zero → above + high ≡ 13 → above' + level ≡ 13 → above ≡ above'
    same-above above high above' level e s s' = omega arith
lift-binaries {d = d} (suc n) above high above' level k x ts us e s s' h c =
    lift-binaries n (suc above) (level + n) above' level k x ts us refl (sum above high level n e s) s'
    (lift-one k above (level + n) x ts us (subst (λ l. BinaryReads d k above l x ts us) (next-level high level n e) h) (c.operator (level + n) (fits level n) (low above high level n e s))) c
  where
    sum : (above high level n : ℕ) → high ≡ level + suc n → above + high ≡ 13 → suc above + (level + n) ≡ 13
    sum above high level n e s = omega arith

    next-level : (high level n : ℕ) → high ≡ level + suc n → high ≡ (level + n) + 1
    next-level high level n e = omega arith

    fits : (level n : ℕ) → level ≤ level + n
    fits level n = omega arith

    low : (above high level n : ℕ) → high ≡ level + suc n → above + high ≡ 13 → level + n ≤ 12
    low above high level n e s = omega arith

-- ## Levels

-- the levels at which expressions are read
pub data Level : ℕ → Type 0 where
  sequence_level : Level 0
  assignment_level : Level 1
  binary_level_ : (above : ℕ) {level : ℕ} → above + level ≡ 13 → 3 ≤ level → Level level

abbrev pub level_reader : Inner5 → Bool → {least : ℕ} → Level least → Parser Read5
level_reader i k sequence_level = sequence i k
level_reader i k assignment_level = assignment i k
level_reader i k (binary_level_ above {level = level} e h) = binary_from i k above level

abbrev pub LevelReads : ℕ → Bool → Read5 → List Token5 → List Token5 → {least : ℕ} → Level least → Type 0
LevelReads n k x ts us v = Eventually n (λ t f r. Reads (level_reader (R f r) k v) x ts us)

to-conditional : {n : ℕ} (k : Bool) (x : Read5) (ts us : List Token5) → BinaryReads n k 10 3 x ts us → Closes k 2 us → Eventually n (λ t f r. Reads (conditional (R f r) k) x ts us)
unfolding conditional
to-conditional k x ts us h c = then_ h (λ t f r y last. bind-reads _ (y last) (λ j v. on-miss (mark (codes "?")) _ _ us j (c.question (omega arith)) (reads_ v)))

to-assignment : {n : ℕ} (k : Bool) (x : Read5) (ts us : List Token5) → Eventually n (λ t f r. Reads (conditional (R f r) k) x ts us) → Closes k 1 us → Eventually n (λ t f r. Reads (assignment (R f r) k) x ts us)
unfolding assignment
to-assignment k x ts us h c = then_ h (λ t f r y last. bind-reads _ (y last) (λ j v. choose-either (is_left x.shape) _ _ (record { tokens = us; last = j }) (λ l. on-miss assign_at _ _ us j (c.assigns (omega arith)) (reads_ v)) (λ l. reads_ v)))

to-sequence : {n : ℕ} (k : Bool) (x : Read5) (ts us : List Token5) → Eventually n (λ t f r. Reads (assignment (R f r) k) x ts us) → Closes k 0 us → Eventually n (λ t f r. Reads (sequence (R f r) k) x ts us)
unfolding sequence
to-sequence k x ts us h c = then_ h (λ t f r y last. bind-reads _ (y last) (λ j v. on-miss (mark (codes ",")) _ _ us j (c.comma (omega arith)) (reads_ v)))

up : (k : Bool) (a b : ℕ) (us : List Token5) → a ≤ b → Closes k a us → Closes k b us
up k a b us h c = closes-up k a b us h c

difference : (high low : ℕ) → low ≤ high → (n : ℕ) × (high ≡ low + n)
difference high zero h = (high, omega arith)
difference zero (suc low) h = absurd (none low h)
  where
    none : (low : ℕ) → suc low ≤ zero → ⊥
    none low h = omega arith
difference (suc high) (suc low) h = let d = difference high low (down low high h) in (d.0, more high low d.0 d.1)
  where
    down : (low high : ℕ) → suc low ≤ suc high → low ≤ high
    down low high h = omega arith

    more : (high low n : ℕ) → high ≡ low + n → suc high ≡ suc low + n
    more high low n e = omega arith

to-three : {n : ℕ} (above high : ℕ) (k : Bool) (x : Read5) (ts us : List Token5) → above + high ≡ 13 → 3 ≤ high → BinaryReads n k above high x ts us → Closes k 3 us → BinaryReads n k 10 3 x ts us
to-three above high k x ts us e h r c = let d = difference high 3 h in lift-binaries d.0 above high 10 3 k x ts us d.1 e refl r c

pub from-binary : {n : ℕ} (above high : ℕ) (k : Bool) (x : Read5) (ts us : List Token5) → above + high ≡ 13 → 3 ≤ high → BinaryReads n k above high x ts us → (least : ℕ) (v : Level least) → least ≤ high → Closes k least us → LevelReads n k x ts us v
from-binary above high k x ts us e h r least sequence_level l c = to-sequence k x ts us (to-assignment k x ts us (to-conditional k x ts us (to-three above high k x ts us e h r (up k 0 3 us (omega arith) c)) (up k 0 2 us (omega arith) c)) (up k 0 1 us (omega arith) c)) c
from-binary above high k x ts us e h r least assignment_level l c = to-assignment k x ts us (to-conditional k x ts us (to-three above high k x ts us e h r (up k 1 3 us (omega arith) c)) (up k 1 2 us (omega arith) c)) c
from-binary above high k x ts us e h r least (binary_level_ above' {level = level} e' h') l c = let d = difference high level l in lift-binaries d.0 above high above' level k x ts us d.1 e e' r c

too-low : (level : ℕ) → level ≤ 2 → 3 ≤ level → ⊥
too-low level a b = omega arith

no-low : (a b : ℕ) → suc b ≤ a → a ≤ b → ⊥
no-low a b h l = omega arith

le-two : (a : ℕ) → a ≤ 1 → a ≤ 2
le-two a h = omega arith

le-two' : (a : ℕ) → a ≤ 0 → a ≤ 2
le-two' a h = omega arith

pub from-conditional : {n : ℕ} (k : Bool) (x : Read5) (ts us : List Token5) → Eventually n (λ t f r. Reads (conditional (R f r) k) x ts us) → (least : ℕ) (v : Level least) → least ≤ 2 → Closes k least us → LevelReads n k x ts us v
from-conditional k x ts us r least sequence_level l c = to-sequence k x ts us (to-assignment k x ts us r (up k 0 1 us (omega arith) c)) c
from-conditional k x ts us r least assignment_level l c = to-assignment k x ts us r c
from-conditional k x ts us r least (binary_level_ above {level = level} e h) l c = absurd (too-low level l h)

pub from-assignment : {n : ℕ} (k : Bool) (x : Read5) (ts us : List Token5) → Eventually n (λ t f r. Reads (assignment (R f r) k) x ts us) → (least : ℕ) (v : Level least) → least ≤ 1 → Closes k least us → LevelReads n k x ts us v
from-assignment k x ts us r least sequence_level l c = to-sequence k x ts us r c
from-assignment k x ts us r least assignment_level l c = r
from-assignment k x ts us r least (binary_level_ above {level = level} e h) l c = absurd (too-low level (le-two level l) h)

pub from-sequence : {n : ℕ} (k : Bool) (x : Read5) (ts us : List Token5) → Eventually n (λ t f r. Reads (sequence (R f r) k) x ts us) → (least : ℕ) (v : Level least) → least ≤ 0 → LevelReads n k x ts us v
from-sequence k x ts us r least sequence_level l = r
from-sequence k x ts us r least assignment_level l = absurd (no-low 1 0 (omega arith) l)
from-sequence k x ts us r least (binary_level_ above {level = level} e h) l = absurd (too-low level (le-two' level l) h)

-- ## What is claimed of an expression of a level, with no more constructs open than so many

pub record Claim (n : ℕ) (k : Bool) (level : ℕ) (ts : List Token5) (x : Expr5) (us : List Token5) : Type 0 where
  pub shape : Shape5
  pub left : 15 ≤ level → is_left shape ≡ true
  pub first : BeginsFirst ts
  pub operand : 15 ≤ level → BeginsOperand ts
  pub heads : 18 ≤ level → HeadReads n ts (reading x shape) us
  -- with calls, and without
  pub chains : 15 ≤ level → next_is (next_mark (codes ".")) us ≡ false → next_is (next_mark (codes "[")) us ≡ false → next_is (next_mark (codes "(")) us ≡ false → ChainReads n true ts (reading x shape) us
  pub members : 17 ≤ level → next_is (next_mark (codes ".")) us ≡ false → next_is (next_mark (codes "[")) us ≡ false → ChainReads n false ts (reading x shape) us
  pub levels : (least : ℕ) (v : Level least) → least ≤ level → Closes k least us → LevelReads n k (reading x shape) ts us v

le-trans : (a b c : ℕ) → a ≤ b → b ≤ c → a ≤ c
le-trans a b c h k = omega arith

pub claim-down : {n : ℕ} (k : Bool) (a b : ℕ) {ts us : List Token5} {x : Expr5} → a ≤ b → Claim n k b ts x us → Claim n k a ts x us
claim-down k a b h c = record {
  shape = c.shape;
  left = λ l. c.left (le-trans 15 a b l h);
  first = c.first;
  operand = λ l. c.operand (le-trans 15 a b l h);
  heads = λ l. c.heads (le-trans 18 a b l h);
  chains = λ l. c.chains (le-trans 15 a b l h);
  members = λ l. c.members (le-trans 17 a b l h);
  levels = λ least v l cl. c.levels least v (le-trans least a b l h) cl;
}

pub low-level : {least : ℕ} (v : Level least) → least ≤ 2 → least ≤ 1
low-level sequence_level l = omega arith
low-level assignment_level l = omega arith
low-level (binary_level_ above {level = level} e h) l = absurd (too-low level l h)

pub level-thirteen : {least : ℕ} (v : Level least) → least ≤ 13
level-thirteen sequence_level = omega arith
level-thirteen assignment_level = omega arith
level-thirteen (binary_level_ above {level = level} e h) = sum above level e
  where
    sum : (above level : ℕ) → above + level ≡ 13 → level ≤ 13
    sum above level e = omega arith

-- a left-hand-side expression is read at each level
pub left-levels : {n : ℕ} (k : Bool) (ts : List Token5) (x : Read5) (us : List Token5) → BeginsOperand ts → (next_is (next_mark (codes ".")) us ≡ false → next_is (next_mark (codes "[")) us ≡ false → next_is (next_mark (codes "(")) us ≡ false → ChainReads n true ts x us)
    → (least : ℕ) (v : Level least) → Closes k least us → LevelReads n k x ts us v
unfolding binary_from
left-levels k ts x us o h least v c =
    from-binary 0 13 k x ts us refl (omega arith) (chain-unary x ts us (h c.dot c.bracket (c.paren (le-trans least 13 16 (level-thirteen v) (omega arith)))) o (c.after (le-trans least 13 14 (level-thirteen v) (omega arith)))) least v (level-thirteen v) c

-- as a target it is read before an assignment operator
pub left-conditional : {n : ℕ} (k : Bool) (ts : List Token5) (x : Read5) (us : List Token5) → BeginsOperand ts → ChainReads n true ts x us → Closes k 2 us → Eventually n (λ t f r. Reads (conditional (R f r) k) x ts us)
unfolding binary_from
left-conditional k ts x us o h c =
    to-conditional k x ts us (to-three 0 13 k x ts us refl (omega arith) (chain-unary x ts us h o (c.after (omega arith))) (up k 2 3 us (omega arith) c)) c

-- a primary expression
pub claim-primary : {n : ℕ} (k : Bool) (ts : List Token5) (x : Expr5) (shape : Shape5) (us : List Token5) → is_left shape ≡ true → BeginsOperand ts → HeadReads n ts (reading x shape) us → Claim n k 18 ts x us
claim-primary k ts x shape us s o h = record {
  shape = shape;
  left = λ l. s;
  first = begins-first o;
  operand = λ l. o;
  heads = λ l. h;
  chains = λ l d b p. head-chain true ts (reading x shape) us h d b (λ e. p);
  members = λ l d b. head-chain false ts (reading x shape) us h d b (λ e. absurd (cc));
  levels = λ least v l c. left-levels k ts (reading x shape) us o (λ d b p. head-chain true ts (reading x shape) us h d b (λ e. p)) least v c;
}

no-seventeen : (a b : ℕ) → suc b ≤ a → a ≤ b → ⊥
no-seventeen a b h k = omega arith

-- a chain, or `new` without arguments
pub claim-left : {n : ℕ} (k : Bool) (level : ℕ) (ts : List Token5) (x : Expr5) (us : List Token5) → level ≤ 17 → BeginsOperand ts → (next_is (next_mark (codes ".")) us ≡ false → next_is (next_mark (codes "[")) us ≡ false → next_is (next_mark (codes "(")) us ≡ false → ChainReads n true ts (reading x LeftHandSide) us)
    → (17 ≤ level → next_is (next_mark (codes ".")) us ≡ false → next_is (next_mark (codes "[")) us ≡ false → ChainReads n false ts (reading x LeftHandSide) us) → Claim n k level ts x us
claim-left k level ts x us low o h m = record {
  shape = LeftHandSide;
  left = λ l. refl;
  first = begins-first o;
  operand = λ l. o;
  heads = λ l. absurd (no-seventeen 18 level (omega arith) l);
  chains = λ l. h;
  members = m;
  levels = λ least v l c. left-levels k ts (reading x LeftHandSide) us o h least v c;
}

-- an expression that is no left-hand side
pub claim-other : {n : ℕ} (k : Bool) (level : ℕ) (ts : List Token5) (x : Expr5) (us : List Token5) → level ≤ 14 → BeginsFirst ts → ((least : ℕ) (v : Level least) → least ≤ level → Closes k least us → LevelReads n k (reading x Other) ts us v) → Claim n k level ts x us
claim-other k level ts x us low o h = record {
  shape = Other;
  left = λ l. absurd (no-seventeen 15 level (omega arith) l);
  first = o;
  operand = λ l. absurd (no-seventeen 15 level (omega arith) l);
  heads = λ l. absurd (no-seventeen 18 level (omega arith) l);
  chains = λ l. absurd (no-seventeen 15 level (omega arith) l);
  members = λ l. absurd (no-seventeen 17 level (omega arith) l);
  levels = h;
}
