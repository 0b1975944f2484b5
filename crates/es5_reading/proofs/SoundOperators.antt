-- What the readers of chains and operators give is derived at their level.
use Rattle.std.proofs.Common.{◌≡◌, ℕ, zero, suc, ◌≤◌, Bool, true, false, List, [], ◌∷◌, Some, None, refl, sym, subst, ◌∙◌, arith}
use Rattle.std.specs.Prelude.{codes}
use Rattle.es_text.specs.declared.Span.{Span}
use Rattle.es5_ast.specs.declared.tree.Identifier5.{Identifier5}
use Rattle.es5_ast.specs.declared.tree.Expr5.{Expr5}
use Rattle.es5_ast.specs.declared.tree.Expr5.TheVariants as expr
use Rattle.es5_ast.specs.declared.tree.Link5 as l5
use Rattle.es5_ast.specs.declared.tree.Link5.{Link5}
use Rattle.es5_ast.specs.declared.tree.Link5.TheVariants as link
use denote.Hole.Carrier as carrier
use Rattle.es5_ast.specs.Lexical.{Token5}
use Rattle.es5_ast.specs.Grammar as g
use Rattle.es5_ast.specs.Grammar.{Mode5, Exact, IsExpr, IsNode, IsNewCallee, IsIdentifier, AreLinks, AreOperands, AreParts, IsMark, IsWord, is_mark, is_identifier, is_before, is_in, unary_kind, update_kind, assign_kind, binary_kind, binary_level, literal_kind, key_kind, begin_of, link_sites, chain_level}
use Rattle.es5_ast.specs.Within.{Opens, ExprWithin, NodeWithin, LinksWithin}
use Rattle.es5_reading.specs.Parser.{Input5, Read5, Inner5}
use Rattle.es5_reading.specs.Expressions.{any_name, left, member_link, index_link, call_link, links, chained, chain}
use Rattle.es5_reading.specs.Statements.{label_of}
use Rattle.es5_reading.proofs.Posts.{Holds, took, fault, bind, choose-holds}
use Rattle.es5_reading.proofs.Meanings.{any-name-means}
use Rattle.es5_reading.proofs.Spans.{Moves, Goes, stays, goes, goes-on, then-goes, ◌⟫◌, span-across}
use Rattle.es5_reading.proofs.Derived.{ExprIn, NodeIn, ReadOpen, lower, node, Next, next, take-means, one, on-mark, take-mark, group-holds}
use Rattle.es5_reading.proofs.SoundParts.{Stopped, Sound, ArgumentsOpen, sound-arguments}
use Rattle.es5_reading.proofs.SoundExpressions.{HeadIn, primary_head, new_head, HeadRead, sound-head}
use Rattle.es5_reading.proofs.Meanings.{bytes_eq-refl}
use Rattle.std.proofs.lemmas.Bool.{false≢true, true≢false}

-- ## Accesses and calls

record LinksIn (n : ℕ) (calls : Bool) (s : Input5) (ls : List Link5) (c : Input5) : Type 0 where
  goes_ : Goes s c
  has_call : Bool
  derived : AreLinks Exact has_call s.tokens ls c.tokens
  within : LinksWithin derived n
  allowed : calls ≡ false → has_call ≡ false
  sites : link_sites ls ≡ []
  stopped : Stopped calls c.tokens

links-none : (n : ℕ) (calls : Bool) (s : Input5) → Stopped calls s.tokens → LinksIn n calls s [] s
links-none n calls s h = record { goes_ = stays s; has_call = false; derived = g.no_link; within = tt; allowed = λ e. refl; sites = refl; stopped = h }

pub member-sites : (span : Span) (name : List ℕ) (ls : List Link5) → link_sites (link.Member span name ∷ ls) ≡ link_sites ls
unfolding l5.out-Link5 carrier.out
member-sites span name ls = refl

pub index-sites : (span : Span) (x : Expr5) (ls : List Link5) → link_sites (link.Index span x ∷ ls) ≡ link_sites ls
unfolding l5.out-Link5 carrier.out
index-sites span x ls = refl

pub call-sites : (span : Span) (xs : List Expr5) (ls : List Link5) → link_sites (link.Call span xs None ∷ ls) ≡ link_sites ls
unfolding l5.out-Link5 carrier.out
call-sites span xs ls = refl

member-rule : (n : ℕ) (calls : Bool) (name : List ℕ) {s a b c : Input5} {ls : List Link5} → Next (IsMark (codes ".")) s a → Next (IsWord name) a b → LinksIn n calls b ls c
    → LinksIn n calls s (link.Member (record { begin = begin_of s.tokens; end = b.last }) name ∷ ls) c
member-rule n calls name {ls = ls} (next {t = t} p) (next {t = u} {ts = ts} w) r = record {
  goes_ = goes-on (goes (one ⟫ one)) r.goes_;
  has_call = r.has_call;
  derived = g.member_link _ _ refl (span-across (one {t = t} {last = 0} ⟫ one {t = u} {ts = ts})) p w r.derived;
  within = r.within;
  allowed = r.allowed;
  sites = member-sites _ name ls ∙ r.sites;
  stopped = r.stopped;
}

index-rule : (n : ℕ) (calls : Bool) (x : Read5) {s a b d c : Input5} {ls : List Link5} → Next (IsMark (codes "[")) s a → ReadOpen n false 0 a x b → Next (IsMark (codes "]")) b d → LinksIn n calls d ls c
    → LinksIn n calls s (link.Index (record { begin = begin_of s.tokens; end = d.last }) x.value ∷ ls) c
index-rule n calls x {ls = ls} (next p) e (next q) r = record {
  goes_ = goes-on (goes (one ⟫ e.moves ⟫ one)) r.goes_;
  has_call = r.has_call;
  derived = g.index_link _ _ refl (span-across (one {last = 0} ⟫ e.moves ⟫ one)) p e.derived.0 q r.derived;
  within = (e.derived.1, r.within);
  allowed = r.allowed;
  sites = index-sites _ x.value ls ∙ r.sites;
  stopped = r.stopped;
}

call-rule : (n : ℕ) (calls : Bool) {s a b c : Input5} {xs : List Expr5} {ls : List Link5} → calls ≡ true → Next (IsMark (codes "(")) s a → ArgumentsOpen n a xs b → LinksIn n calls b ls c
    → LinksIn n calls s (link.Call (record { begin = begin_of s.tokens; end = b.last }) xs None ∷ ls) c
call-rule n calls {xs = xs} {ls = ls} may (next p) (m, d, w) r = record {
  goes_ = goes-on (goes (one ⟫ m)) r.goes_;
  has_call = true;
  derived = g.call_link _ _ _ refl (span-across (one {last = 0} ⟫ m)) p d r.derived;
  within = (w, r.within);
  allowed = λ h. absurd (cc);
  sites = call-sites _ xs ls ∙ r.sites;
  stopped = r.stopped;
}

-- one link, which any may follow
data OneLink (n : ℕ) (calls : Bool) : Input5 → Link5 → Input5 → Type 0 where
  one_link : {s c : Input5} {l : Link5} → ((ls : List Link5) (d : Input5) → LinksIn n calls c ls d → LinksIn n calls s (l ∷ ls) d) → OneLink n calls s l c

link-next : {n : ℕ} {calls : Bool} {s b c : Input5} {l : Link5} {ls : List Link5} → OneLink n calls s l b → LinksIn n calls b ls c → LinksIn n calls s (l ∷ ls) c
link-next (one_link f) r = f _ _ r

sound-member : (n : ℕ) (calls : Bool) (s a : Input5) → Next (IsMark (codes ".")) s a → Holds (OneLink n calls s) (member_link (begin_of s.tokens) a)
unfolding member_link
sound-member n calls s a p = bind (take-means any_name (λ name t. IsWord name t) any-name-means a) λ name b w. took (one_link (λ ls d r. member-rule n calls name p w r))

sound-index : (i : Inner5) (n : ℕ) (sound : Sound i n) (calls : Bool) (s a : Input5) → Next (IsMark (codes "[")) s a → Holds (OneLink n calls s) (index_link i (begin_of s.tokens) a)
unfolding index_link
sound-index i n sound calls s a p = bind (sound.sequence false a) λ x b e. bind (take-mark _ b) λ t d q. took (one_link (λ ls d' r. index-rule n calls x p e q r))

sound-call : (i : Inner5) (n : ℕ) (sound : Sound i n) (open_ : Opens n (λ m. Unit {0})) (calls : Bool) (s a : Input5) → calls ≡ true → Next (IsMark (codes "(")) s a → Holds (OneLink n calls s) (call_link i (begin_of s.tokens) a)
unfolding call_link
sound-call i n sound open_ calls s a may p = bind (sound-arguments i n sound open_ a) λ xs b e. took (one_link (λ ls d r. call-rule n calls may p e r))

sound-links : (i : Inner5) (n : ℕ) (sound : Sound i n) (calls : Bool) (turns : ℕ) (s : Input5) → Holds (LinksIn n calls s) (links i calls turns s)
unfolding links
sound-links i n sound calls zero s = fault
sound-links i n sound calls (suc turns) s = on-mark _ _ _ s
    (λ t a p. bind (sound-member n calls s a p) λ l b h. bind (sound-links i n sound calls turns b) λ ls c r. took (link-next h r))
    (λ dot. group-holds i _ _ _ s
    (λ o a p. bind (sound-index i n sound calls s a p) λ l b h. bind (sound-links i n sound calls turns b) λ ls c r. took (link-next h r))
    (λ bracket. choose-holds _ _ calls s
    (λ may. group-holds i _ _ _ s
    (λ o a p. bind (sound-call i n sound (sound.opens o) calls s a may p) λ l b h. bind (sound-links i n sound calls turns b) λ ls c r. took (link-next h r))
    (λ paren. took (links-none n calls s (dot, bracket, λ h. paren))))
    (λ may. took (links-none n calls s (dot, bracket, λ h. absurd (cc))))))

-- ## Chains

-- a left-hand-side expression: a chain or its head, or `new` without arguments
pub data ChainIn (n : ℕ) (calls : Bool) (s : Input5) (x : Expr5) (c : Input5) : Type 0 where
  whole_chain : ((k : Bool) → ExprIn n k (chain_level calls) s x c) → ChainIn n calls s x c
  bare_new : ((k : Bool) → NodeIn n k 15 s x c) → Stopped true c.tokens → ChainIn n calls s x c

pub record ChainRead (n : ℕ) (calls : Bool) (s : Input5) (x : Read5) (c : Input5) : Type 0 where
  pub moves : Moves s c
  pub derived : ChainIn n calls s x.value c
  pub named : (label : Identifier5) → label_of x.shape x.value ≡ Some label → IsIdentifier Exact s.tokens label c.tokens
  pub stopped : Stopped calls c.tokens

links-nil : {has_call : Bool} {ts us : List Token5} → AreLinks Exact has_call ts [] us → ts ≡ us
links-nil g.no_link = refl

is-mark-true : (p : List ℕ) (t : Token5) → IsMark p t → is_mark p t.kind ≡ true
is-mark-true p t h = rw h (bytes_eq-refl p)

links-begin : {has_call : Bool} {ts us : List Token5} {l : Link5} {ls : List Link5} → AreLinks Exact has_call ts (l ∷ ls) us → Stopped true ts → ⊥
links-begin (g.member_link {dot = t} _ _ _ _ p _ _) h = absurd (false≢true (sym h.0 ∙ is-mark-true (codes ".") t p))
links-begin (g.index_link {open_ = t} _ _ _ _ p _ _ _) h = absurd (false≢true (sym h.1 ∙ is-mark-true (codes "[") t p))
links-begin (g.call_link {open_ = t} _ _ _ _ _ p _ _) h = absurd (false≢true (sym (h.2 refl) ∙ is-mark-true (codes "(") t p))

pub expr-to : (n : ℕ) (k : Bool) (least : ℕ) (ts : List Token5) (x : Expr5) (us vs : List Token5) → us ≡ vs → (d : IsExpr Exact k least ts x us) × ExprWithin d n → (d : IsExpr Exact k least ts x vs) × ExprWithin d n
expr-to n k least ts x us vs e d = subst (λ ws. (d : IsExpr Exact k least ts x ws) × ExprWithin d n) e d

node-to : (n : ℕ) (k : Bool) (level : ℕ) (ts : List Token5) (x : Expr5) (us vs : List Token5) → us ≡ vs → (d : IsNode Exact k level ts x us) × NodeWithin d n → (d : IsNode Exact k level ts x vs) × NodeWithin d n
node-to n k level ts x us vs e d = subst (λ ws. (d : IsNode Exact k level ts x ws) × NodeWithin d n) e d

head-to : (n : ℕ) (calls : Bool) (s b c : Input5) (x : Expr5) → b.tokens ≡ c.tokens → HeadIn n s x b → ChainIn n calls s x c
head-to n calls s b c x e (primary_head d) = whole_chain (λ k. expr-to n k (chain_level calls) s.tokens x b.tokens c.tokens e (lower n k (chain_level calls) 18 s b (level-le calls) (d k)))
  where
    level-le : (calls : Bool) → chain_level calls ≤ 18
    level-le true = omega arith
    level-le false = omega arith
head-to n calls s b c x e (new_head d h) = bare_new (λ k. node-to n k 15 s.tokens x b.tokens c.tokens e (d k)) (subst (λ ts. Stopped true ts) e h)

head-only : (n : ℕ) (calls : Bool) {s b c : Input5} (x : Read5) → HeadRead n s x b → LinksIn n calls b [] c → ChainRead n calls s x c
head-only n calls {s = s} {b = b} {c = c} x h r = record {
  moves = then-goes h.moves r.goes_;
  derived = head-to n calls s b c x.value (links-nil r.derived) h.derived;
  named = λ label e. subst (λ ts. IsIdentifier Exact s.tokens label ts) (links-nil r.derived) (h.named label e);
  stopped = r.stopped;
}

level-fits : (calls has_call : Bool) → (calls ≡ false → has_call ≡ false) → chain_level calls ≤ chain_level has_call
level-fits true true h = omega arith
level-fits true false h = omega arith
level-fits false true h = absurd (true≢false (h refl))
level-fits false false h = omega arith

chain-of : (n : ℕ) (calls : Bool) {s b c : Input5} (x : Read5) (l : Link5) (ls : List Link5) → Moves s b → HeadIn n s x.value b → LinksIn n calls b (l ∷ ls) c → ChainRead n calls s (left (expr.Chain (record { begin = begin_of s.tokens; end = c.last }) x.value (l ∷ ls))) c
chain-of n calls {s = s} {b = b} {c = c} x l ls m (primary_head d) r = record {
  moves = then-goes m r.goes_;
  derived = whole_chain (λ k. node n k (chain_level calls) (chain_level r.has_call) s c (level-fits calls r.has_call r.allowed)
      (g.chain r.has_call _ x.value l ls refl (span-across (then-goes m r.goes_)) r.sites (d false).0 r.derived, ((d false).1, r.within)));
  named = λ label e. absurd (cc);
  stopped = r.stopped;
}
chain-of n calls x l ls m (new_head d h) r = absurd (links-begin r.derived h)

chain-rule : (n : ℕ) (calls : Bool) {s b c : Input5} (x : Read5) (ls : List Link5) → HeadRead n s x b → LinksIn n calls b ls c → ChainRead n calls s (chained x ls (record { begin = begin_of s.tokens; end = c.last })) c
chain-rule n calls x [] h r = head-only n calls x h r
chain-rule n calls x (l ∷ ls) h r = chain-of n calls x l ls h.moves h.derived r

pub sound-chain : (i : Inner5) (n : ℕ) (sound : Sound i n) (calls : Bool) (s : Input5) → Holds (ChainRead n calls s) (chain i calls s)
unfolding chain
sound-chain i n sound calls s = bind (sound-head i n sound s) λ x b h. bind (sound-links i n sound calls i.fuel b) λ ls c r. took (chain-rule n calls x ls h r)
