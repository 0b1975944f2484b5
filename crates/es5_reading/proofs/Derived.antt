-- Derivations of the grammar with at most so many constructs open, between two inputs, and what the readers' parts make.
use Rattle.std.proofs.Common.{◌≡◌, ℕ, zero, suc, ◌≤◌, Bool, true, false, List, [], ◌∷◌, Option, Some, refl, arith}
use Rattle.es5_ast.specs.declared.tree.Identifier5.{Identifier5}
use Rattle.es5_ast.specs.declared.tree.Expr5.{Expr5}
use Rattle.es5_ast.specs.Lexical.{Token5}
use Rattle.es5_ast.specs.Grammar.{Exact, IsExpr, bare, group, IsNode, IsIdentifier, IsMark, IsWord}
use Rattle.es5_ast.specs.Within.{Opens, ExprWithin, NodeWithin}
use Rattle.es5_reading.specs.Parser.{Input5, Parser, on, next_is, take_as, mark, word, next_mark, Other, Read5, is_left, Inner5, on_group}
use Rattle.es5_reading.specs.Statements.{label_of}
use Rattle.es5_reading.proofs.Posts.{Holds, fault, weaken, Taken, taken, Misses, on-holds, take-holds, choose-holds, if-holds}
use Rattle.es5_reading.proofs.Meanings.{mark-means, mark-misses, word-means}
use Rattle.es5_reading.proofs.Spans.{Moves}

abbrev pub ExprIn : ℕ → Bool → ℕ → Input5 → Expr5 → Input5 → Type 0
ExprIn n k least s x c = (d : IsExpr Exact k least s.tokens x c.tokens) × ExprWithin d n

abbrev pub NodeIn : ℕ → Bool → ℕ → Input5 → Expr5 → Input5 → Type 0
NodeIn n k level s x c = (d : IsNode Exact k level s.tokens x c.tokens) × NodeWithin d n

abbrev pub ExprOpen : ℕ → Bool → ℕ → Input5 → Expr5 → Input5 → Type 0
ExprOpen n k least s x c = (d : IsExpr Exact k least s.tokens x c.tokens) × Opens n (ExprWithin d)

pub both_open : (n : ℕ) (P Q : ℕ → Type 0) → Opens n P → Opens n Q → Opens n (λ m. P m × Q m)
both_open zero P Q p q = p
both_open (suc n) P Q p q = (p, q)

le-trans : (a b c : ℕ) → a ≤ b → b ≤ c → a ≤ c
le-trans a b c h k = omega arith

lower' : (n : ℕ) (k : Bool) (a b : ℕ) {ts us : List Token5} {x : Expr5} → a ≤ b → (d : IsExpr Exact k b ts x us) → ExprWithin d n → (e : IsExpr Exact k a ts x us) × ExprWithin e n
lower' n k a b h (bare level l d) w = (bare level (le-trans a b level h l) d, w)
lower' n k a b h (group o d c) w = (group o d c, w)

-- an expression of a level is one of each lower level
pub lower : (n : ℕ) (k : Bool) (a b : ℕ) (s c : Input5) {x : Expr5} → a ≤ b → ExprIn n k b s x c → ExprIn n k a s x c
lower n k a b s c h e = lower' n k a b h e.0 e.1

lower_open' : (n : ℕ) (k : Bool) (a b : ℕ) {ts us : List Token5} {x : Expr5} → a ≤ b → (d : IsExpr Exact k b ts x us) → Opens n (ExprWithin d) → (e : IsExpr Exact k a ts x us) × Opens n (ExprWithin e)
lower_open' n k a b h (bare level l d) w = (bare level (le-trans a b level h l) d, w)
lower_open' n k a b h (group o d c) w = (group o d c, w)

pub node : (n : ℕ) (k : Bool) (least level : ℕ) (s c : Input5) {x : Expr5} → least ≤ level → NodeIn n k level s x c → ExprIn n k least s x c
node n k least level s c h d = (bare level h d.0, d.1)

-- what a reader of expressions of a level gives
pub record ReadIn (n : ℕ) (k : Bool) (least : ℕ) (s : Input5) (x : Read5) (c : Input5) : Type 0 where
  pub moves : Moves s c
  pub derived : ExprIn n k least s x.value c
  pub left_side : is_left x.shape ≡ true → (j : Bool) → ExprIn n j 15 s x.value c
  pub named : (label : Identifier5) → label_of x.shape x.value ≡ Some label → IsIdentifier Exact s.tokens label c.tokens

pub record ReadOpen (n : ℕ) (k : Bool) (least : ℕ) (s : Input5) (x : Read5) (c : Input5) : Type 0 where
  pub moves : Moves s c
  pub derived : ExprOpen n k least s x.value c

pub lower_read : (n : ℕ) (k : Bool) (a b : ℕ) {s c : Input5} {x : Read5} → a ≤ b → ReadIn n k b s x c → ReadIn n k a s x c
lower_read n k a b {s = s} {c = c} h r = record { moves = r.moves; derived = lower n k a b s c h r.derived; left_side = r.left_side; named = r.named }

-- an expression that is no left-hand side
pub other_read : (n : ℕ) (k : Bool) (least level : ℕ) {s c : Input5} {x : Expr5} → least ≤ level → Moves s c → NodeIn n k level s x c → ReadIn n k least s (record { value = x; shape = Other }) c
other_read n k least level {s = s} {c = c} h m d = record {
  moves = m;
  derived = node n k least level s c h d;
  left_side = λ e. absurd (cc);
  named = λ label e. absurd (cc);
}

-- ## Next tokens

-- the input begins with a token of which this holds, and goes on so
pub data Next (P : Token5 → Type 0) : Input5 → Input5 → Type 0 where
  next : {t : Token5} {ts : List Token5} {last : ℕ} → P t → Next P (record { tokens = t ∷ ts; last = last }) (record { tokens = ts; last = t.end })

as-next : {B : Type 0} (test : Token5 → Option B) (P : B → Token5 → Type 0) (means : (x : B) (t : Token5) → test t ≡ Some x → P x t) {s c : Input5} {x : B} → Taken test s x c → Next (P x) s c
as-next test P means {x = x} (taken {t = t} e) = next (means x t e)

pub on-means : {A B : Type 0} {Q : A → Input5 → Type 0} (test : Token5 → Option B) (P : B → Token5 → Type 0) (means : (x : B) (t : Token5) → test t ≡ Some x → P x t) (f : B → Parser A) (q : Parser A) (s : Input5)
    → ((x : B) (c : Input5) → Next (P x) s c → Holds Q (f x c)) → (Misses test s.tokens → Holds Q (q s)) → Holds Q (on test f q s)
on-means test P means f q s here there = on-holds test f q s (λ x c h. here x c (as-next test P means h)) there

pub take-means : {B : Type 0} (test : Token5 → Option B) (P : B → Token5 → Type 0) (means : (x : B) (t : Token5) → test t ≡ Some x → P x t) (s : Input5) → Holds (λ x c. Next (P x) s c) (take_as test s)
take-means test P means s = weaken (take-holds s) (λ x c h. as-next test P means h)

pub one : {t : Token5} {ts : List Token5} {last : ℕ} → Moves (record { tokens = t ∷ ts; last = last }) (record { tokens = ts; last = t.end })
one {t = t} = record { first = t; tokens = []; all = refl; end = refl }

pub step : {P : Token5 → Type 0} {s c : Input5} → Next P s c → Moves s c
step (next h) = one

-- ## Marks, words and groups

misses-mark : (p : List ℕ) (ts : List Token5) → Misses (mark p) ts → next_is (next_mark p) ts ≡ false
misses-mark p [] h = refl
misses-mark p (t ∷ ts) h = mark-misses p t h

pub on-mark : {A : Type 0} {Q : A → Input5 → Type 0} (p : List ℕ) (f : Token5 → Parser A) (q : Parser A) (s : Input5)
    → ((t : Token5) (c : Input5) → Next (IsMark p) s c → Holds Q (f t c)) → (next_is (next_mark p) s.tokens ≡ false → Holds Q (q s)) → Holds Q (on (mark p) f q s)
on-mark p f q s here there = on-means (mark p) (λ u t. IsMark p t) (λ u t h. mark-means p t u h) f q s here (λ h. there (misses-mark p s.tokens h))

pub take-mark : (p : List ℕ) (s : Input5) → Holds (λ t c. Next (IsMark p) s c) (take_as (mark p) s)
take-mark p s = take-means (mark p) (λ u t. IsMark p t) (λ u t h. mark-means p t u h) s

pub on-word : {A : Type 0} {Q : A → Input5 → Type 0} (w : List ℕ) (f : Token5 → Parser A) (q : Parser A) (s : Input5)
    → ((t : Token5) (c : Input5) → Next (IsWord w) s c → Holds Q (f t c)) → (Misses (word w) s.tokens → Holds Q (q s)) → Holds Q (on (word w) f q s)
on-word w f q s here there = on-means (word w) (λ u t. IsWord w t) (λ u t h. word-means w t u h) f q s here there

pub take-word : (w : List ℕ) (s : Input5) → Holds (λ t c. Next (IsWord w) s c) (take_as (word w) s)
take-word w s = take-means (word w) (λ u t. IsWord w t) (λ u t h. word-means w t u h) s

pub group-holds : {A : Type 0} {Q : A → Input5 → Type 0} (i : Inner5) (p : List ℕ) (inside otherwise : Parser A) (s : Input5)
    → (i.may_open ≡ true → (c : Input5) → Next (IsMark p) s c → Holds Q (inside c)) → (next_is (next_mark p) s.tokens ≡ false → Holds Q (otherwise s)) → Holds Q (on_group i p inside otherwise s)
group-holds i p inside otherwise s here there =
    if-holds _ _ _ s (λ h. choose-holds _ _ i.may_open s (λ o. on-mark p _ _ s (λ t c n. here o c n) there) (λ o. fault)) there
