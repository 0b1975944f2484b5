-- What the readers of expressions give is derived at their level.
use Rattle.std.proofs.Common.{◌≡◌, ℕ, Bool, true, false, List, [], ◌∷◌, Some, refl, subst, arith}
use Rattle.std.specs.Prelude.{codes}
use Rattle.es_text.specs.declared.Span.{Span}
use Rattle.es5_ast.specs.declared.operators.Literal5.{Literal5}
use Rattle.es5_ast.specs.declared.tree.Identifier5.{Identifier5}
use Rattle.es5_ast.specs.declared.tree.Expr5 as x5
use Rattle.es5_ast.specs.declared.tree.Expr5.{Expr5}
use Rattle.es5_ast.specs.declared.tree.Expr5.TheVariants as expr
use denote.Hole.Carrier as carrier
use Rattle.es5_ast.specs.Grammar as g
use Rattle.es5_ast.specs.Grammar.{Mode5, Exact, IsExpr, IsNode, IsNewCallee, IsIdentifier, AreLinks, AreOperands, AreParts, IsMark, IsWord, is_mark, is_identifier, is_before, is_in, unary_kind, update_kind, assign_kind, binary_kind, binary_level, literal_kind, key_kind, begin_of, link_sites, chain_level}
use Rattle.es5_reading.specs.Parser.{Input5, next_is, next_mark, Bare, Read5, Inner5}
use Rattle.es5_reading.specs.Expressions.{free_name, literal_at, left, grouped, no_expression, bracketed, primary, after_callee, head}
use Rattle.es5_reading.specs.Statements.{label_of}
use Rattle.es5_reading.proofs.Posts.{Holds, took, fault, bind, weaken, if-holds}
use Rattle.es5_reading.proofs.Meanings.{free-name-means, literal-means, some_same}
use Rattle.es5_reading.proofs.Spans.{Moves, ◌⟫◌, span-across}
use Rattle.es5_reading.proofs.Derived.{ExprIn, NodeIn, ReadOpen, node, Next, next, on-means, one, take-mark, on-word, group-holds}
use Rattle.es5_reading.proofs.SoundParts.{Stopped, CalleeOpen, Sound, IsKind, IsFree, identifier-rule, sound-function, FunctionIn, ElementsOpen, sound-elements, PropertiesOpen, sound-properties, ArgumentsOpen, sound-arguments}

-- ## Primary expressions

-- a primary expression, with or without `in`
pub record PrimaryIn (n : ℕ) (s : Input5) (x : Read5) (c : Input5) : Type 0 where
  moves : Moves s c
  derived : (k : Bool) → ExprIn n k 18 s x.value c
  named : (label : Identifier5) → label_of x.shape x.value ≡ Some label → IsIdentifier Exact s.tokens label c.tokens

primary-node : (n : ℕ) (s c : Input5) (x : Expr5) → Moves s c → ((k : Bool) → NodeIn n k 18 s x c) → PrimaryIn n s (left x) c
primary-node n s c x m d = record { moves = m; derived = λ k. node n k 18 18 s c (omega arith) (d k); named = λ label e. absurd (cc) }

this-rule : (n : ℕ) {s c : Input5} → Next (IsWord (codes "this")) s c → PrimaryIn n s (left (expr.This (record { begin = begin_of s.tokens; end = c.last }))) c
this-rule n (next {t = t} {ts = ts} {last = last} e) = primary-node n (record { tokens = t ∷ ts; last = last }) (record { tokens = ts; last = t.end }) _ one (λ k. (g.this _ refl (span-across (one {t = t} {ts = ts} {last = 0})) e, tt))

label-name : (span : Span) (name : List ℕ) (label : Identifier5) → label_of Bare (expr.Name span name) ≡ Some label → ◌≡◌ {A = Identifier5} (record { span = span; name = name }) label
unfolding x5.out-Expr5 carrier.out
label-name span name label h = some_same h

name-rule : (n : ℕ) (name : List ℕ) {s c : Input5} → Next (IsFree name) s c → PrimaryIn n s (record { value = expr.Name (record { begin = begin_of s.tokens; end = c.last }) name; shape = Bare }) c
name-rule n name (next {t = t} {ts = ts} {last = last} e) = record {
  moves = one;
  derived = λ k. node n k 18 18 (record { tokens = t ∷ ts; last = last }) (record { tokens = ts; last = t.end }) (omega arith) (g.identifier _ _ refl (span-across (one {t = t} {ts = ts} {last = 0})) e.0 e.1, tt);
  named = λ label h. subst (λ l. IsIdentifier Exact (t ∷ ts) l ts) (label-name _ name label h) (identifier-rule (next {t = t} {ts = ts} {last = last} e));
}

literal-rule : (n : ℕ) (value : Literal5) {s c : Input5} → Next (IsKind (literal_kind value)) s c → PrimaryIn n s (left (expr.Literal (record { begin = begin_of s.tokens; end = c.last }) value)) c
literal-rule n value (next {t = t} {ts = ts} {last = last} e) = primary-node n (record { tokens = t ∷ ts; last = last }) (record { tokens = ts; last = t.end }) _ one (λ k. (g.literal _ _ refl (span-across (one {t = t} {ts = ts} {last = 0})) e, tt))

function-rule : (n : ℕ) {s c : Input5} (f : _) → FunctionIn n s f c → PrimaryIn n s (left (expr.Function f)) c
function-rule n {s = s} {c = c} f (m, d, w) = primary-node n s c _ m (λ k. (g.function f refl d, w))

group-rule : (n : ℕ) {s a b c : Input5} (x : Read5) → Next (IsMark (codes "(")) s a → ReadOpen n false 0 a x b → Next (IsMark (codes ")")) b c → PrimaryIn n s (left x.value) c
group-rule n x (next p) r (next q) = record { moves = one ⟫ r.moves ⟫ one; derived = λ k. (g.group p r.derived.0 q, r.derived.1); named = λ label e. absurd (cc) }

array-rule : (n : ℕ) {s a c : Input5} {xs : _} → Next (IsMark (codes "[")) s a → ElementsOpen n a xs c → PrimaryIn n s (left (expr.ArrayList (record { begin = begin_of s.tokens; end = c.last }) xs)) c
array-rule n {c = c} (next {t = t} {ts = ts} {last = last} p) (m, d, w) = primary-node n (record { tokens = t ∷ ts; last = last }) c _ (one ⟫ m) (λ k. (g.array _ _ refl (span-across (one {last = 0} ⟫ m)) p d, w))

object-rule : (n : ℕ) {s a c : Input5} {xs : _} → Next (IsMark (codes "{")) s a → PropertiesOpen n a xs c → PrimaryIn n s (left (expr.ObjectList (record { begin = begin_of s.tokens; end = c.last }) xs)) c
object-rule n {c = c} (next {t = t} {ts = ts} {last = last} p) (m, d, w) = primary-node n (record { tokens = t ∷ ts; last = last }) c _ (one ⟫ m) (λ k. (g.object _ _ refl (span-across (one {last = 0} ⟫ m)) p d, w))

no-expression : {Q : Read5 → Input5 → Type 0} (s : Input5) → Holds Q (no_expression s)
unfolding no_expression
no-expression s = if-holds _ _ _ s (λ h. fault) (λ h. fault)

sound-bracketed : (i : Inner5) (n : ℕ) (sound : Sound i n) (s : Input5) → Holds (PrimaryIn n s) (bracketed i (begin_of s.tokens) s)
unfolding bracketed
sound-bracketed i n sound s = group-holds i _ _ _ s
    (λ o a h. bind (sound-elements i n sound (sound.opens o) i.fuel a) λ xs c ds. took (array-rule n h ds))
    (λ m. group-holds i _ _ _ s
    (λ o a h. bind (sound-properties i n sound (sound.opens o) i.fuel a) λ xs c ds. took (object-rule n h ds))
    (λ m. no-expression s))

sound-primary : (i : Inner5) (n : ℕ) (sound : Sound i n) (s : Input5) → Holds (PrimaryIn n s) (primary i (begin_of s.tokens) s)
unfolding primary grouped
sound-primary i n sound s = on-word _ _ _ s (λ t c h. took (this-rule n h)) (λ m.
    on-means free_name IsFree free-name-means _ _ s (λ name c h. took (name-rule n name h)) (λ m.
    on-means literal_at (λ v t. IsKind (literal_kind v) t) literal-means _ _ s (λ value c h. took (literal-rule n value h)) (λ m.
    on-word _ _ _ s (λ t a h. bind (sound-function i n sound s a h) λ f c d. took (function-rule n f d)) (λ m.
    group-holds i _ _ _ s (λ o a h. bind (sound.sequence false a) λ x b d. bind (take-mark _ b) λ t c q. took (group-rule n x h d q)) (λ m. sound-bracketed i n sound s)))))

-- ## Left-hand-side expressions

-- what accesses and calls begin with: a primary expression, or `new` without arguments
pub data HeadIn (n : ℕ) (s : Input5) (x : Expr5) (c : Input5) : Type 0 where
  primary_head : ((k : Bool) → ExprIn n k 18 s x c) → HeadIn n s x c
  new_head : ((k : Bool) → NodeIn n k 15 s x c) → Stopped true c.tokens → HeadIn n s x c

pub record HeadRead (n : ℕ) (s : Input5) (x : Read5) (c : Input5) : Type 0 where
  pub moves : Moves s c
  pub derived : HeadIn n s x.value c
  pub named : (label : Identifier5) → label_of x.shape x.value ≡ Some label → IsIdentifier Exact s.tokens label c.tokens

new-call-rule : (n : ℕ) {s a b c d : Input5} (x : Read5) {xs : List Expr5} → Next (IsWord (codes "new")) s a → CalleeOpen n a x b → Next (IsMark (codes "(")) b c → ArgumentsOpen n c xs d
    → HeadRead n s (left (expr.New (record { begin = begin_of s.tokens; end = d.last }) x.value xs)) d
new-call-rule n {d = d} x (next {t = t} {ts = ts} {last = last} w) e (next {t = u} p) (m, ds, v) =
    let callee = e.member p-is in
    record {
      moves = one ⟫ e.moves ⟫ one ⟫ m;
      derived = primary_head (λ k. node n k 18 18 (record { tokens = t ∷ ts; last = last }) d (omega arith) (g.new_call _ _ _ refl (span-across (one {last = 0} ⟫ e.moves ⟫ one ⟫ m)) w callee.0 p ds, (callee.1, v)));
      named = λ label e. absurd (cc);
    }
  where
    p-is : is_mark (codes "(") u.kind ≡ true
    p-is = rw p refl

new-bare-rule : (n : ℕ) {s a b : Input5} (x : Read5) → Next (IsWord (codes "new")) s a → CalleeOpen n a x b → next_is (next_mark (codes "(")) b.tokens ≡ false
    → HeadRead n s (left (expr.New (record { begin = begin_of s.tokens; end = b.last }) x.value [])) b
new-bare-rule n x (next w) e m = record {
  moves = one ⟫ e.moves;
  derived = new_head (λ k. (g.new_bare _ _ refl (span-across (one {last = 0} ⟫ e.moves)) w e.callee.0, e.callee.1)) (e.stopped.0, e.stopped.1, λ h. m);
  named = λ label e. absurd (cc);
}

pub sound-head : (i : Inner5) (n : ℕ) (sound : Sound i n) (s : Input5) → Holds (HeadRead n s) (head i (begin_of s.tokens) s)
unfolding head after_callee
sound-head i n sound s = on-word _ _ _ s
    (λ t a w. bind (sound.callee a) λ x b e. group-holds i _ _ _ b
    (λ o c h. bind (sound-arguments i n sound (sound.opens o) c) λ xs d ds. took (new-call-rule n x w e h ds))
    (λ m. took (new-bare-rule n x w e m)))
    (λ m. weaken (sound-primary i n sound s) (λ x c p. record { moves = p.moves; derived = primary_head p.derived; named = p.named }))
