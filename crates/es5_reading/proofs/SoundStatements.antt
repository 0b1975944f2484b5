-- What the readers of statements give is derived.
use Rattle.std.proofs.Common.{◌≡◌, ℕ, zero, suc, Bool, true, false, List, [], ◌∷◌, Some, refl, sym, ◌∙◌}
use Rattle.std.proofs.lemmas.Bool.{true≢false}
use Rattle.std.specs.Prelude.{codes}
use Rattle.es5_ast.specs.declared.tree.Identifier5.{Identifier5}
use Rattle.es5_ast.specs.declared.tree.Stat5.{Stat5}
use Rattle.es5_ast.specs.declared.tree.Stat5.TheVariants as stat
use Rattle.es5_ast.specs.declared.tree.Declared5.{Declared5, roll-Declared5}
use Rattle.es5_ast.specs.declared.tree.Block5.{Block5, roll-Block5}
use Rattle.es5_ast.specs.declared.tree.Condition5.{Condition5, roll-Condition5}
use Rattle.es5_ast.specs.declared.tree.Expr5.{Expr5}
use Rattle.es5_ast.specs.Lexical.{Token5}
use Rattle.es5_ast.specs.Grammar as g
use Rattle.es5_ast.specs.Grammar.{Mode5, Exact, IsExpr, IsStat, IsBlock, AreStats, AreDeclared, IsDeclared, IsIf, IsCondition, IsForFirst, IsOptional, IsClosed, IsLabel, IsReturned, AreCases, AreInCase, IsCatch, IsFunction, IsIdentifier, IsMark, IsWord, IsEnd, IsOnLine, is_mark, is_word, is_identifier, ends, begins, begin_of}
use Rattle.es5_ast.specs.Within.{Opens, ExprWithin, StatWithin, StatsWithin, BlockWithin, DeclaredListWithin, DeclaredWithin, IfWithin, ConditionWithin}
use Rattle.es5_reading.specs.Parser.{Input5, Parser, next_is, word, next_mark, next_word, Read5, Inner5, ending, semicolon}
use Rattle.es5_reading.specs.Expressions.{statements}
use Rattle.es5_reading.specs.Statements.{block, initialized, one_declared, declared_list, var_statement, parenthesized, condition, Otherwise5, with_condition, otherwise, if_statement}
use Rattle.es5_reading.proofs.Posts.{Holds, took, fault, bind, Misses, choose-holds, if-holds}
use Rattle.es5_reading.proofs.Meanings.{ending-means, word-misses}
use Rattle.es5_reading.proofs.Spans.{Moves, Goes, stays, goes, goes-on, then-goes, ◌⟫◌, span-across}
use Rattle.es5_reading.proofs.Derived.{ReadOpen, both_open, Next, next, on-means, one, on-mark, take-mark, on-word, take-word, group-holds}
use Rattle.es5_reading.proofs.SoundParts.{StatOpen, DeclaredOpen, Sound, IdentifierIn, sound-identifier, BracedOpen, braced, sound-statements}

abbrev pub StatIn : ℕ → Bool → Bool → Input5 → Stat5 → Input5 → Type 0
StatIn n inside top s x c = Moves s c × (d : IsStat Exact inside top s.tokens x c.tokens) × StatWithin d n

-- ## Ends of statements, and what the next token is not

pub sound-semicolon : (i : Inner5) (n : ℕ) (sound : Sound i n) (s : Input5) → Holds (λ u c. Next IsEnd s c) (semicolon i s)
unfolding semicolon
sound-semicolon i n sound s = on-means ending (λ u t. IsEnd t) (λ u t h. ending-means t u h) _ _ s (λ u c h. took h)
    (λ m. choose-holds _ _ i.inserting s (λ h. absurd (true≢false (sym h ∙ sound.plain))) (λ h. fault))

pub begins-mark : (p : List ℕ) (ts : List Token5) → next_is (next_mark p) ts ≡ false → begins (is_mark p) ts ≡ false
begins-mark p [] h = refl
begins-mark p (t ∷ ts) h = h

pub begins-word : (w : List ℕ) (ts : List Token5) → next_is (next_word w) ts ≡ false → begins (is_word w) ts ≡ false
begins-word w [] h = refl
begins-word w (t ∷ ts) h = h

pub misses-word : (w : List ℕ) (ts : List Token5) → Misses (word w) ts → begins (is_word w) ts ≡ false
misses-word w [] h = refl
misses-word w (t ∷ ts) h = word-misses w t h

-- ## Blocks and variables

abbrev pub BlockIn : ℕ → Bool → Input5 → Block5 → Input5 → Type 0
BlockIn n inside s x c = Moves s c × (d : IsBlock Exact inside s.tokens x c.tokens) × BlockWithin d n

block-rule : (n : ℕ) {inside : Bool} {s c : Input5} {ss : List Stat5} → BracedOpen n inside false s ss c → BlockIn n inside s (roll-Block5 (record { span = record { begin = begin_of s.tokens; end = c.last }; statements = ss })) c
block-rule n (braced (next b) m d w) = (one ⟫ m, g.braces _ _ refl (span-across (one {last = 0} ⟫ m)) b d, w)

pub sound-block : (i : Inner5) (n : ℕ) (sound : Sound i n) (inside : Bool) (s : Input5) → Holds (BlockIn n inside s) (block i inside s)
unfolding block
sound-block i n sound inside s = group-holds i _ _ _ s
    (λ o a h. bind (sound-stats o a) λ ss c ds. took (block-rule n (braced h ds.0 ds.1 ds.2)))
    (λ m. fault)
  where
    sound-stats : i.may_open ≡ true → (a : Input5) → Holds (λ ss c. Moves a c × (d : AreStats Exact inside false a.tokens ss c.tokens) × Opens n (StatsWithin d)) (statements i inside false i.fuel a)
    sound-stats o a = sound-statements i n sound (sound.opens o) inside false i.fuel a

abbrev pub DeclaredIn : ℕ → Bool → Input5 → Declared5 → Input5 → Type 0
DeclaredIn n k s x c = Moves s c × (d : IsDeclared Exact k s.tokens x c.tokens) × DeclaredWithin d n

initialized-rule : (n : ℕ) (k : Bool) {s a b c : Input5} {name : Identifier5} (x : Read5) → IdentifierIn s name a → Next (IsMark (codes "=")) a b → ReadOpen n k 1 b x c
    → DeclaredIn n k s (roll-Declared5 (record { span = record { begin = begin_of s.tokens; end = c.last }; name = name; init = Some x.value })) c
initialized-rule n k x (m, d) (next e) r = (m ⟫ one ⟫ r.moves, g.initialized _ _ x.value refl (span-across (m ⟫ one ⟫ r.moves)) d e r.derived.0, r.derived.1)

pub sound-declared : (i : Inner5) (n : ℕ) (sound : Sound i n) (k : Bool) (s : Input5) → Holds (DeclaredIn n k s) (one_declared i k s)
unfolding one_declared initialized
sound-declared i n sound k s = bind (sound-identifier s) λ name a d. on-mark _ _ _ a
    (λ t b h. bind (sound.assignment k b) λ x c r. took (initialized-rule n k x d h r))
    (λ m. took (d.0, g.uninitialized _ name refl (span-across d.0) d.1, tt))

data DeclaredListIn (n : ℕ) (k : Bool) : Input5 → List Declared5 → Input5 → Type 0 where
  list_in : {s c : Input5} {x : Declared5} {xs : List Declared5} → Moves s c → (d : AreDeclared Exact k s.tokens (x ∷ xs) c.tokens) → DeclaredListWithin d n → DeclaredListIn n k s (x ∷ xs) c

list-in-next : {n : ℕ} {k : Bool} {s a b c : Input5} {x : Declared5} {xs : List Declared5} → DeclaredIn n k s x a → Next (IsMark (codes ",")) a b → DeclaredListIn n k b xs c → DeclaredListIn n k s (x ∷ xs) c
list-in-next (m, d, w) (next e) (list_in m' ds ws) = list_in (m ⟫ one ⟫ m') (g.next_declared d e ds) (w, ws)

list-in-last : {n : ℕ} {k : Bool} {s c : Input5} {x : Declared5} → DeclaredIn n k s x c → DeclaredListIn n k s (x ∷ []) c
list-in-last (m, d, w) = list_in m (g.last_declared d) w

sound-declared-list : (n : ℕ) (k : Bool) (p : Parser Declared5) (sound : (s : Input5) → Holds (DeclaredIn n k s) (p s)) (turns : ℕ) (s : Input5) → Holds (DeclaredListIn n k s) (declared_list p turns s)
unfolding declared_list
sound-declared-list n k p sound zero s = fault
sound-declared-list n k p sound (suc turns) s = bind (sound s) λ x a d. on-mark _ _ _ a
    (λ t b h. bind (sound-declared-list n k p sound turns b) λ xs c ds. took (list-in-next d h ds))
    (λ m. took (list-in-last d))

pub data DeclaredListOpen (n : ℕ) (k : Bool) : Input5 → List Declared5 → Input5 → Type 0 where
  list_open : {s c : Input5} {x : Declared5} {xs : List Declared5} → Moves s c → (d : AreDeclared Exact k s.tokens (x ∷ xs) c.tokens) → Opens n (DeclaredListWithin d) → DeclaredListOpen n k s (x ∷ xs) c

list-open-next : (n : ℕ) {k : Bool} {s a b c : Input5} {x : Declared5} {xs : List Declared5} → DeclaredOpen n k s x a → Next (IsMark (codes ",")) a b → DeclaredListOpen n k b xs c → DeclaredListOpen n k s (x ∷ xs) c
list-open-next n (m, d, w) (next e) (list_open m' ds ws) = list_open (m ⟫ one ⟫ m') (g.next_declared d e ds) (both_open n _ _ w ws)

list-open-last : {n : ℕ} {k : Bool} {s c : Input5} {x : Declared5} → DeclaredOpen n k s x c → DeclaredListOpen n k s (x ∷ []) c
list-open-last (m, d, w) = list_open m (g.last_declared d) w

pub sound-open-list : (n : ℕ) (k : Bool) (p : Parser Declared5) (sound : (s : Input5) → Holds (DeclaredOpen n k s) (p s)) (turns : ℕ) (s : Input5) → Holds (DeclaredListOpen n k s) (declared_list p turns s)
unfolding declared_list
sound-open-list n k p sound zero s = fault
sound-open-list n k p sound (suc turns) s = bind (sound s) λ x a d. on-mark _ _ _ a
    (λ t b h. bind (sound-open-list n k p sound turns b) λ xs c ds. took (list-open-next n d h ds))
    (λ m. took (list-open-last d))

var-rule : (n : ℕ) {inside top : Bool} {s a b c : Input5} {ds : List Declared5} → Next (IsWord (codes "var")) s a → DeclaredListIn n false a ds b → Next IsEnd b c → StatIn n inside top s (stat.Var (record { begin = begin_of s.tokens; end = c.last }) ds) c
var-rule n (next v) (list_in m d w) (next e) = (one ⟫ m ⟫ one, g.var _ _ refl (span-across (one {last = 0} ⟫ m ⟫ one)) v d e, w)

pub sound-var : (i : Inner5) (n : ℕ) (sound : Sound i n) (inside top : Bool) (s a : Input5) → Next (IsWord (codes "var")) s a → Holds (StatIn n inside top s) (var_statement i (begin_of s.tokens) a)
unfolding var_statement
sound-var i n sound inside top s a v = bind (sound-declared-list n false _ (λ b. sound-declared i n sound false b) i.fuel a) λ ds b d. bind (sound-semicolon i n sound b) λ u c e. took (var-rule n v d e)

-- ## If

pub data ParenOpen (n : ℕ) : Input5 → Expr5 → Input5 → Type 0 where
  paren : {s a b c : Input5} {x : Expr5} → Next (IsMark (codes "(")) s a → Moves a b → (d : IsExpr Exact false 0 a.tokens x b.tokens) → Opens n (ExprWithin d) → Next (IsMark (codes ")")) b c → ParenOpen n s x c

pub sound-paren : (i : Inner5) (n : ℕ) (sound : Sound i n) (s : Input5) → Holds (ParenOpen n s) (parenthesized i s)
unfolding parenthesized
sound-paren i n sound s = group-holds i _ _ _ s (λ o a p. bind (sound.sequence false a) λ x b r. bind (take-mark _ b) λ t c q. took (paren p r.moves r.derived.0 r.derived.1 q)) (λ m. fault)

abbrev pub ConditionIn : ℕ → Bool → Input5 → Condition5 → Input5 → Type 0
ConditionIn n inside s x c = Moves s c × (d : IsCondition Exact inside s.tokens x c.tokens) × ConditionWithin d n

condition-rule : (n : ℕ) {inside : Bool} {s a b c : Input5} {x : Expr5} {body : Stat5} → Next (IsWord (codes "if")) s a → ParenOpen n a x b → StatOpen n inside false b body c
    → ConditionIn n inside s (roll-Condition5 (record { span = record { begin = begin_of s.tokens; end = c.last }; test = x; body = body })) c
condition-rule n (next w) (paren (next p) m d v (next q)) (m', d', v') =
    (one ⟫ one ⟫ m ⟫ one ⟫ m', g.condition _ _ _ refl (span-across (one {last = 0} ⟫ one ⟫ m ⟫ one ⟫ m')) w p d q d', (v, v'))

sound-condition : (i : Inner5) (n : ℕ) (sound : Sound i n) (inside : Bool) (s : Input5) → Holds (ConditionIn n inside s) (condition i inside s)
unfolding condition
sound-condition i n sound inside s = bind (take-word _ s) λ t a w. bind (sound-paren i n sound a) λ x b p. bind (sound.statement inside false b) λ body c d. took (condition-rule n w p d)

-- what follows a condition, whatever condition it is
record OtherwiseIn (n : ℕ) (inside : Bool) (s : Input5) (r : Otherwise5) (c : Input5) : Type 0 where
  goes_ : Goes s c
  derived : (a : Input5) (x : Condition5) → ConditionIn n inside a x s → (d : IsIf Exact inside a.tokens x r.more r.last c.tokens) × IfWithin d n

last-else-rule : (n : ℕ) {inside : Bool} {s a c : Input5} {x : Stat5} → Next (IsWord (codes "else")) s a → next_is (next_word (codes "if")) a.tokens ≡ false → StatOpen n inside false a x c → OtherwiseIn n inside s (record { more = []; last = Some x }) c
last-else-rule n (next {ts = ts} e) h (m, d, w) = record { goes_ = goes (one ⟫ m); derived = λ b y k. (g.last_else k.1 e (begins-word (codes "if") ts h) d, (k.2, w)) }

else-if-rule : (n : ℕ) {inside : Bool} {s a b c : Input5} {x : Condition5} (r : Otherwise5) → Next (IsWord (codes "else")) s a → ConditionIn n inside a x b → OtherwiseIn n inside b r c → OtherwiseIn n inside s (with_condition x r) c
else-if-rule n {a = a} {x = x} r (next e) k o = record { goes_ = goes-on (goes (one ⟫ k.0)) o.goes_; derived = λ b y k'. (g.else_if k'.1 e (o.derived a x k).0, (k'.2, (o.derived a x k).1)) }

sound-otherwise : (i : Inner5) (n : ℕ) (sound : Sound i n) (inside : Bool) (turns : ℕ) (s : Input5) → Holds (OtherwiseIn n inside s) (otherwise i inside turns s)
unfolding otherwise
sound-otherwise i n sound inside zero s = fault
sound-otherwise i n sound inside (suc turns) s = on-word _ _ _ s
    (λ t a e. if-holds _ _ _ a
    (λ h. bind (sound-condition i n sound inside a) λ x b k. bind (sound-otherwise i n sound inside turns b) λ r c o. took (else-if-rule n r e k o))
    (λ h. bind (sound.statement inside false a) λ x c d. took (last-else-rule n e h d)))
    (λ m. took (record { goes_ = stays s; derived = λ b y k. (g.no_else k.1 (misses-word (codes "else") s.tokens m), k.2) }))

if-rule : (n : ℕ) {inside top : Bool} {s b c : Input5} {x : Condition5} (r : Otherwise5) → ConditionIn n inside s x b → OtherwiseIn n inside b r c → StatIn n inside top s (stat.If (record { begin = begin_of s.tokens; end = c.last }) x r.more r.last) c
if-rule n {s = s} {x = x} r k o = (then-goes k.0 o.goes_, g.if _ _ _ _ refl (span-across (then-goes k.0 o.goes_)) (o.derived s x k).0, (o.derived s x k).1)

pub sound-if : (i : Inner5) (n : ℕ) (sound : Sound i n) (inside top : Bool) (s : Input5) → Holds (StatIn n inside top s) (if_statement i inside (begin_of s.tokens) s)
unfolding if_statement
sound-if i n sound inside top s = bind (sound-condition i n sound inside s) λ x b k. bind (sound-otherwise i n sound inside i.fuel b) λ r c o. took (if-rule n r k o)
