-- What the readers of accesses, calls and `new` give is derived, if the readers for one construct deeper are sound.
use Rattle.std.proofs.Common.{◌≡◌, ℕ, zero, suc, ◌≤◌, Bool, true, false, ◌&&◌, List, [], ◌∷◌, Some, refl, sym, ap, ◌∙◌, subst, arith}
use Rattle.std.proofs.lemmas.Bool.{false≢true, true≢false}
use Rattle.std.specs.Prelude.{codes}
use Rattle.es6_lexer.specs.declared.token.TokenKind.TheVariants as kinds
use Rattle.es6_lexer.specs.declared.token.Punctuator.TheVariants as marks
use Rattle.es6_ast.specs.declared.tree.Argument.{Argument}
use Rattle.es6_ast.specs.declared.tree.Expression.{Expression}
use Rattle.es6_ast.specs.declared.tree.Expression.TheVariants as expr
use Rattle.es6_ast.specs.declared.tree.Identifier.{Identifier}
use Rattle.es6_ast.specs.declared.tree.Link.{Link}
use Rattle.es6_ast.specs.declared.tree.Link.TheVariants as link
use Rattle.es6_ast.specs.declared.tree.Parameter.{Parameter}
use Rattle.es6_ast.specs.declared.tree.Template.{Template}
use Rattle.es6_ast.specs.declared.settings.Flags.{Flags}
use Rattle.es6_ast.specs.declared.settings.Role.{Role}
use Rattle.es6_ast.specs.declared.settings.Role.TheVariants.{Heritage, Callee}
use Rattle.es6_ast.specs.Settings.{has_calls}
use Rattle.es6_ast.specs.Tokens.{Read, Filled, IsWord, IsMark, begin_of}
use Rattle.es6_ast.specs.Grammar as g
use Rattle.es6_ast.specs.Grammar.{with_in, level_sequence, level_left_hand_side, level_call, level_member, level_primary, chain_level, IsName, IsExpression, IsNode, IsSuperCall, IsNewCallee, IsTemplate, AreLinks, AreArrowParameters}
use Rattle.es6_reading.specs.Parser.{Input, Parser, next_is, next_mark, is_covered, Reading, Inner}
use Rattle.es6_reading.specs.Words.{is_arrow, is_template_head}
use Rattle.es6_reading.specs.Refine.{Fits}
use Rattle.es6_reading.specs.Expressions.{left, after_callee, after_new, super_call, after_super, head, member_link, index_link, call_link, on_link, links, chained, chain, parameters_before}
use Rattle.es6_reading.specs.Statements.{label_of}
use Rattle.es6_reading.proofs.Posts.{Holds, took, fault, both, bind, weaken, choose-holds, refused-holds}
use Rattle.es6_reading.proofs.Meanings.{mark-is, is-mark-true}
use Rattle.es6_reading.proofs.Spans.{Moves, Goes, stays, goes, goes-on, then-goes, ◌⟫◌, span-across}
use Rattle.es6_reading.proofs.Derived.{Uncovered, by-token, by-shape, by-left, ReadIn, ReadAmong, among, ReadWhole, Stopped, CalleeRead, Sound, Next, next, one, not-arrow, on-mark, take-mark, on-word, take-word, group-holds}
use Rattle.es6_reading.proofs.SoundPatterns.{AnyNameIn, sound-any-name}
use Rattle.es6_reading.proofs.SoundFunctions.{TemplateIn, template-holds}
use Rattle.es6_reading.proofs.SoundPrimary.{lower, ArgumentsIn, sound-arguments, sound-primary}
use Rattle.es6_reading.proofs.Uncovered.{uncovered, plain-chain}

-- ## Heads

-- what accesses and calls begin with: a primary expression, `new` without arguments, or a call of `super` where calls may stand
data HeadIn (f : Flags) (calls : Bool) (s : Input) (x : Reading) (c : Input) : Type 0 where
  primary_head : (Uncovered x.shape c → IsExpression f level_primary s.tokens x.value c.tokens) → HeadIn f calls s x c
  new_head : IsNode f level_left_hand_side s.tokens x.value c.tokens → Stopped true c.tokens → HeadIn f calls s x c
  super_head : calls ≡ true → IsSuperCall f s.tokens x.value c.tokens → HeadIn f calls s x c

record HeadRead (f : Flags) (calls : Bool) (s : Input) (x : Reading) (c : Input) : Type 0 where
  moves : Moves s c
  derived : HeadIn f calls s x c
  named : (label : Identifier) → label_of x.shape x.value ≡ Some label → IsName s.tokens label c.tokens
  parameters : (n : ℕ) (es : List Parameter) → parameters_before n x.shape x.value ≡ Fits es → AreArrowParameters f s.tokens es c.tokens

head-left : (f : Flags) (calls : Bool) {s c : Input} {x : Expression} → Moves s c → HeadIn f calls s (left x) c → HeadRead f calls s (left x) c
head-left f calls m d = record { moves = m; derived = d; named = λ label e. absurd (cc); parameters = λ n es e. absurd (cc) }

primary-left : (f : Flags) (calls : Bool) {s c : Input} {x : Expression} → Moves s c → IsNode f level_primary s.tokens x c.tokens → HeadRead f calls s (left x) c
primary-left f calls m d = head-left f calls m (primary_head (λ h. g.at_level level_primary _ (omega arith) d))

-- what `new` constructs, and its arguments
new-call-rule : (f : Flags) (calls : Bool) {s a b c d : Input} (x : Reading) {xs : List Argument} → Next (IsWord (codes "new")) s a → CalleeRead f a x b → Next (IsMark marks.LeftParenthesis) b c → ArgumentsIn f c xs d
    → HeadRead f calls s (left (expr.New (record { begin = begin_of s.tokens; end = d.last }) x.value xs)) d
new-call-rule f calls x {xs = xs} (next w) e (next {t = u} p) (m, ds) =
    primary-left f calls (one ⟫ e.moves ⟫ one ⟫ m) (g.new_call x.value xs _ w (e.member (is-mark-true marks.LeftParenthesis u p)) p ds (ap (λ span. expr.New span x.value xs) (span-across (one {last = 0} ⟫ e.moves ⟫ one ⟫ m))))

new-bare-rule : (f : Flags) (calls : Bool) {s a b : Input} (x : Reading) → Next (IsWord (codes "new")) s a → CalleeRead f a x b → next_is (next_mark marks.LeftParenthesis) b.tokens ≡ false
    → HeadRead f calls s (left (expr.New (record { begin = begin_of s.tokens; end = b.last }) x.value [])) b
new-bare-rule f calls x (next w) e m = head-left f calls (one ⟫ e.moves)
    (new_head (g.new_bare x.value _ w e.callee (ap (λ span. expr.New span x.value []) (span-across (one {last = 0} ⟫ e.moves)))) (e.stopped.0, e.stopped.1, e.stopped.2, λ h. m))

target-rule : (f : Flags) (calls : Bool) {s a b c : Input} → Next (IsWord (codes "new")) s a → Next (IsMark marks.Dot) a b → Next (IsWord (codes "target")) b c → HeadRead f calls s (left (expr.NewTarget (record { begin = begin_of s.tokens; end = c.last }))) c
target-rule f calls (next {t = t} w) (next {t = u} p) (next {t = v} {ts = ts} q) = primary-left f calls (one ⟫ one ⟫ one) (g.new_target _ w p q (ap (λ span. expr.NewTarget span) (span-across (one {t = t} {last = 0} ⟫ one {t = u} ⟫ one {t = v} {ts = ts}))))

sound-new : (i : Inner) (sound : Sound i) (f : Flags) (calls : Bool) (s a : Input) → Next (IsWord (codes "new")) s a → Holds (HeadRead f calls s) (after_new i f (begin_of s.tokens) a)
unfolding after_new after_callee
sound-new i sound f calls s a w = on-mark _ _ _ a
    (λ t b p. bind (take-word _ b) λ u c q. took (target-rule f calls w p q))
    (λ m. bind (sound.callee f a) λ x b e. group-holds i _ _ _ b
    (λ c p. bind (sound-arguments i sound f c) λ xs d ds. took (new-call-rule f calls x w e p ds))
    (λ m. took (new-bare-rule f calls x w e m)))

super-member-rule : (f : Flags) (calls : Bool) {s a b c : Input} {n : Identifier} → Next (IsWord (codes "super")) s a → Next (IsMark marks.Dot) a b → AnyNameIn b n c → HeadRead f calls s (left (expr.SuperMember (record { begin = begin_of s.tokens; end = c.last }) n)) c
super-member-rule f calls {n = n} (next {t = t} w) (next {t = u} p) (m, d) =
    primary-left f calls (one ⟫ one ⟫ m) (g.super_member n _ w p d (ap (λ span. expr.SuperMember span n) (span-across (one {t = t} {last = 0} ⟫ one {t = u} ⟫ m))))

super-index-rule : (f : Flags) (calls : Bool) {s a b d c : Input} (x : Reading) → Next (IsWord (codes "super")) s a → Next (IsMark marks.LeftBracket) a b → ReadWhole (with_in f) level_sequence b x d → Next (IsMark marks.RightBracket) d c
    → HeadRead f calls s (left (expr.SuperIndex (record { begin = begin_of s.tokens; end = c.last }) x.value)) c
super-index-rule f calls x (next {t = t} w) (next {t = u} p) r (next q) =
    primary-left f calls (one ⟫ one ⟫ r.moves ⟫ one) (g.super_index x.value _ w p r.derived q (ap (λ span. expr.SuperIndex span x.value) (span-across (one {t = t} {last = 0} ⟫ one {t = u} ⟫ r.moves ⟫ one))))

super-call-rule : (f : Flags) (calls : Bool) {s a b c : Input} {xs : List Argument} → calls ≡ true → Next (IsWord (codes "super")) s a → Next (IsMark marks.LeftParenthesis) a b → ArgumentsIn f b xs c → HeadRead f calls s (left (expr.SuperCall (record { begin = begin_of s.tokens; end = c.last }) xs)) c
super-call-rule f calls {xs = xs} may (next {t = t} w) (next {t = u} p) (m, d) =
    head-left f calls (one ⟫ one ⟫ m) (super_head may (g.super_call xs _ w p d (ap (λ span. expr.SuperCall span xs) (span-across (one {t = t} {last = 0} ⟫ one {t = u} ⟫ m)))))

sound-super : (i : Inner) (sound : Sound i) (f : Flags) (role : Role) (s a : Input) → Next (IsWord (codes "super")) s a → Holds (HeadRead f (has_calls role) s) (after_super i f role (begin_of s.tokens) a)
unfolding after_super super_call
sound-super i sound f role s a w = on-mark _ _ _ a
    (λ t b p. bind (sound-any-name b) λ n c d. took (super-member-rule f (has_calls role) w p d))
    (λ m. group-holds i _ _ _ a
    (λ b p. bind (sound.sequence (with_in f) b) λ x d r. bind (take-mark _ d) λ t c q. took (super-index-rule f (has_calls role) x w p r q))
    (λ m. choose-holds _ _ (has_calls role) a
    (λ may. group-holds i _ _ _ a (λ b p. bind (sound-arguments i sound f b) λ xs c d. took (super-call-rule f (has_calls role) may w p d)) (λ m. refused-holds a))
    (λ may. refused-holds a)))

sound-head : (i : Inner) (sound : Sound i) (f : Flags) (role : Role) (s : Input) → Holds (HeadRead f (has_calls role) s) (head i f role (begin_of s.tokens) s)
unfolding head
sound-head i sound f role s = on-word _ _ _ s (λ t a w. sound-new i sound f (has_calls role) s a w) (λ m. on-word _ _ _ s (λ t a w. sound-super i sound f role s a w)
    (λ m. weaken (sound-primary i sound f role s) (λ x c r. record { moves = r.moves; derived = primary_head r.derived; named = r.named; parameters = r.parameters })))

-- ## Links

record LinksIn (f : Flags) (calls : Bool) (s : Input) (ls : List Link) (c : Input) : Type 0 where
  goes_ : Goes s c
  has_call : Bool
  derived : AreLinks f has_call s.tokens ls c.tokens
  allowed : calls ≡ false → has_call ≡ false
  stopped : Stopped calls c.tokens

links-none : (f : Flags) (calls : Bool) (s : Input) → Stopped calls s.tokens → LinksIn f calls s [] s
links-none f calls s h = record { goes_ = stays s; has_call = false; derived = g.no_link; allowed = λ e. refl; stopped = h }

-- one link, which any may follow
data OneLink (f : Flags) (calls : Bool) : Input → Link → Input → Type 0 where
  one_link : {s c : Input} {l : Link} → ((ls : List Link) (d : Input) → LinksIn f calls c ls d → LinksIn f calls s (l ∷ ls) d) → OneLink f calls s l c

link-next : {f : Flags} {calls : Bool} {s b c : Input} {l : Link} {ls : List Link} → OneLink f calls s l b → LinksIn f calls b ls c → LinksIn f calls s (l ∷ ls) c
link-next (one_link k) r = k _ _ r

member-rule : (f : Flags) (calls : Bool) {s a b c : Input} {n : Identifier} {ls : List Link} → Next (IsMark marks.Dot) s a → AnyNameIn a n b → LinksIn f calls b ls c → LinksIn f calls s (link.Member (record { begin = begin_of s.tokens; end = b.last }) n ∷ ls) c
member-rule f calls {n = n} (next {t = t} p) (m, d) r = record {
  goes_ = goes-on (goes (one ⟫ m)) r.goes_;
  has_call = r.has_call;
  derived = g.member_link n _ _ p d (ap (λ span. link.Member span n) (span-across (one {t = t} {last = 0} ⟫ m))) r.derived;
  allowed = r.allowed;
  stopped = r.stopped;
}

index-rule : (f : Flags) (calls : Bool) (x : Reading) {s a b d c : Input} {ls : List Link} → Next (IsMark marks.LeftBracket) s a → ReadWhole (with_in f) level_sequence a x b → Next (IsMark marks.RightBracket) b d → LinksIn f calls d ls c
    → LinksIn f calls s (link.Index (record { begin = begin_of s.tokens; end = d.last }) x.value ∷ ls) c
index-rule f calls x (next {t = t} p) e (next q) r = record {
  goes_ = goes-on (goes (one ⟫ e.moves ⟫ one)) r.goes_;
  has_call = r.has_call;
  derived = g.index_link x.value _ _ p e.derived q (ap (λ span. link.Index span x.value) (span-across (one {t = t} {last = 0} ⟫ e.moves ⟫ one))) r.derived;
  allowed = r.allowed;
  stopped = r.stopped;
}

tag-rule : (f : Flags) (calls : Bool) {s a c : Input} {m : Template} {ls : List Link} → TemplateIn f s m a → LinksIn f calls a ls c → LinksIn f calls s (link.Tagged m ∷ ls) c
tag-rule f calls {m = m} (moves, d) r = record {
  goes_ = goes-on (goes moves) r.goes_;
  has_call = r.has_call;
  derived = g.tag_link m _ _ d refl r.derived;
  allowed = r.allowed;
  stopped = r.stopped;
}

call-rule : (f : Flags) (calls : Bool) {s a b c : Input} {xs : List Argument} {ls : List Link} → calls ≡ true → Next (IsMark marks.LeftParenthesis) s a → ArgumentsIn f a xs b → LinksIn f calls b ls c
    → LinksIn f calls s (link.Call (record { begin = begin_of s.tokens; end = b.last }) xs ∷ ls) c
call-rule f calls {xs = xs} may (next {t = t} p) (m, d) r = record {
  goes_ = goes-on (goes (one ⟫ m)) r.goes_;
  has_call = true;
  derived = g.call_link xs _ _ p d (ap (λ span. link.Call span xs) (span-across (one {t = t} {last = 0} ⟫ m))) r.derived;
  allowed = λ h. absurd (true≢false (sym may ∙ h));
  stopped = r.stopped;
}

sound-member : (f : Flags) (calls : Bool) (s a : Input) → Next (IsMark marks.Dot) s a → Holds (OneLink f calls s) (member_link (begin_of s.tokens) a)
unfolding member_link
sound-member f calls s a p = bind (sound-any-name a) λ n b d. took (one_link (λ ls c r. member-rule f calls p d r))

sound-index : (i : Inner) (sound : Sound i) (f : Flags) (calls : Bool) (s a : Input) → Next (IsMark marks.LeftBracket) s a → Holds (OneLink f calls s) (index_link i f (begin_of s.tokens) a)
unfolding index_link
sound-index i sound f calls s a p = bind (sound.sequence (with_in f) a) λ x b e. bind (take-mark _ b) λ t d q. took (one_link (λ ls c r. index-rule f calls x p e q r))

sound-call : (i : Inner) (sound : Sound i) (f : Flags) (calls : Bool) (s a : Input) → calls ≡ true → Next (IsMark marks.LeftParenthesis) s a → Holds (OneLink f calls s) (call_link i f (begin_of s.tokens) a)
unfolding call_link
sound-call i sound f calls s a may p = bind (sound-arguments i sound f a) λ xs b d. took (one_link (λ ls c r. call-rule f calls may p d r))

sound-on-link : (i : Inner) (sound : Sound i) (f : Flags) (calls : Bool) {Q : List Link → Input → Type 0} (p : Link → Parser (List Link)) (q : Parser (List Link)) (s : Input)
    → ((l : Link) (b : Input) → OneLink f calls s l b → Holds Q (p l b)) → (Stopped calls s.tokens → Holds Q (q s)) → Holds Q (on_link i f calls (begin_of s.tokens) p q s)
sound-on-link i sound f calls p q s here there = on-mark _ _ _ s
    (λ t a h. bind (sound-member f calls s a h) λ l b d. here l b d)
    (λ dot. group-holds i _ _ _ s
    (λ a h. bind (sound-index i sound f calls s a h) λ l b d. here l b d)
    (λ bracket. template-holds i sound f _ _ s
    (λ m a d. here (link.Tagged m) a (one_link (λ ls c r. tag-rule f calls d r)))
    (λ head_. choose-holds _ _ calls s
    (λ may. group-holds i _ _ _ s
    (λ a h. bind (sound-call i sound f calls s a may h) λ l b d. here l b d)
    (λ paren. there (dot, bracket, head_, λ h. paren)))
    (λ may. there (dot, bracket, head_, λ h. absurd (true≢false (sym h ∙ may)))))))

sound-links : (i : Inner) (sound : Sound i) (f : Flags) (calls : Bool) (turns : ℕ) (s : Input) → Holds (LinksIn f calls s) (links i f calls turns s)
unfolding links
sound-links i sound f calls zero s = fault
sound-links i sound f calls (suc turns) s = sound-on-link i sound f calls _ _ s
    (λ l b h. bind (sound-links i sound f calls turns b) λ ls c r. took (link-next h r))
    (λ h. took (links-none f calls s h))

-- ## Chains

-- a left-hand-side expression: a chain or its head, or `new` without arguments
data ChainIn (f : Flags) (calls : Bool) (s : Input) (x : Reading) (c : Input) : Type 0 where
  whole_chain : (Uncovered x.shape c → IsExpression f (chain_level calls) s.tokens x.value c.tokens) → ChainIn f calls s x c
  bare_new : IsNode f level_left_hand_side s.tokens x.value c.tokens → Stopped true c.tokens → ChainIn f calls s x c

record ChainRead (f : Flags) (calls : Bool) (s : Input) (x : Reading) (c : Input) : Type 0 where
  moves : Moves s c
  derived : ChainIn f calls s x c
  named : (label : Identifier) → label_of x.shape x.value ≡ Some label → IsName s.tokens label c.tokens
  parameters : (n : ℕ) (es : List Parameter) → parameters_before n x.shape x.value ≡ Fits es → AreArrowParameters f s.tokens es c.tokens
  stopped : Stopped calls c.tokens

links-nil : {f : Flags} {has_call : Bool} {ts us : List Filled} → AreLinks f has_call ts [] us → ts ≡ us
links-nil g.no_link = refl

template-head : (t : Filled) (cooked raw : List ℕ) (last : Bool) → t.kind ≡ Read (kinds.Template cooked raw true last) → is_template_head t.kind ≡ true
template-head t cooked raw last e = rw e refl

template-begins : {f : Flags} {ts us : List Filled} {m : Template} → IsTemplate f ts m us → next_is (λ t. is_template_head t.kind) ts ≡ true
template-begins (g.whole_template {t = t} cooked raw m e d) = template-head t cooked raw true e
template-begins (g.parted_template {t = t} cooked raw rest m e ds d) = template-head t cooked raw false e

links-begin : {f : Flags} {has_call : Bool} {ts us : List Filled} {l : Link} {ls : List Link} → AreLinks f has_call ts (l ∷ ls) us → Stopped true ts → ⊥
links-begin (g.member_link {dot = t} n l ls p d e ds) h = false≢true (sym h.0 ∙ is-mark-true marks.Dot t p)
links-begin (g.index_link {open_ = t} y l ls p d q e ds) h = false≢true (sym h.1 ∙ is-mark-true marks.LeftBracket t p)
links-begin (g.tag_link m l ls d e ds) h = false≢true (sym h.2 ∙ template-begins d)
links-begin (g.call_link {open_ = t} xs l ls p d e ds) h = false≢true (sym (h.3 refl) ∙ is-mark-true marks.LeftParenthesis t p)

template-no-arrow : {f : Flags} {ts us : List Filled} {m : Template} → IsTemplate f ts m us → next_is is_arrow ts ≡ false
template-no-arrow (g.whole_template {t = t} cooked raw m e d) = not-arrow (kinds.Template cooked raw true true) t e refl
template-no-arrow (g.parted_template {t = t} cooked raw rest m e ds d) = not-arrow (kinds.Template cooked raw true false) t e refl

-- no arrow is a link
links-no-arrow : {f : Flags} {has_call : Bool} {ts us : List Filled} {l : Link} {ls : List Link} → AreLinks f has_call ts (l ∷ ls) us → next_is is_arrow ts ≡ false
links-no-arrow (g.member_link {dot = t} n l ls p d e ds) = not-arrow (kinds.Punctuator marks.Dot) t p refl
links-no-arrow (g.index_link {open_ = t} y l ls p d q e ds) = not-arrow (kinds.Punctuator marks.LeftBracket) t p refl
links-no-arrow (g.tag_link m l ls d e ds) = template-no-arrow d
links-no-arrow (g.call_link {open_ = t} xs l ls p d e ds) = not-arrow (kinds.Punctuator marks.LeftParenthesis) t p refl

primary-level : (calls : Bool) → chain_level calls ≤ level_primary
primary-level true = omega arith
primary-level false = omega arith

super-level : (calls : Bool) → calls ≡ true → chain_level calls ≤ level_call
super-level true h = omega arith
super-level false h = absurd (false≢true h)

-- a head that nothing follows
head-alone : (f : Flags) (calls : Bool) {s c : Input} {x : Reading} → HeadIn f calls s x c → ChainIn f calls s x c
head-alone f calls (primary_head d) = whole_chain (λ h. lower f (chain_level calls) level_primary (primary-level calls) (d h))
head-alone f calls (new_head d h) = bare_new d h
head-alone f calls {x = x} (super_head may d) = whole_chain (λ h. g.at_level level_call x.value (super-level calls may) (g.super_call_alone x.value d))

-- a head that goes to the same tokens
head-to : (f : Flags) (calls : Bool) {s : Input} (b c : Input) {x : Reading} → b.tokens ≡ c.tokens → HeadIn f calls s x b → HeadIn f calls s x c
head-to f calls {s = s} b c {x = x} e (primary_head d) = primary_head (subst (λ ts. (is_covered x.shape && next_is is_arrow ts) ≡ false → IsExpression f level_primary s.tokens x.value ts) e d)
head-to f calls {s = s} b c {x = x} e (new_head d h) = new_head (subst (λ ts. IsNode f level_left_hand_side s.tokens x.value ts) e d) (subst (λ ts. Stopped true ts) e h)
head-to f calls {s = s} b c {x = x} e (super_head may d) = super_head may (subst (λ ts. IsSuperCall f s.tokens x.value ts) e d)

head-only : (f : Flags) (calls : Bool) {s b c : Input} (x : Reading) → HeadRead f calls s x b → LinksIn f calls b [] c → ChainRead f calls s x c
head-only f calls {s = s} {b = b} {c = c} x h r =
    let same = links-nil r.derived in
    record {
      moves = then-goes h.moves r.goes_;
      derived = head-alone f calls (head-to f calls b c same h.derived);
      named = λ label e. subst (λ ts. IsName s.tokens label ts) same (h.named label e);
      parameters = λ n es e. subst (λ ts. AreArrowParameters f s.tokens es ts) same (h.parameters n es e);
      stopped = r.stopped;
    }

level-fits : (calls has_call : Bool) → (calls ≡ false → has_call ≡ false) → chain_level calls ≤ chain_level has_call
level-fits true true h = omega arith
level-fits true false h = omega arith
level-fits false true h = absurd (true≢false (h refl))
level-fits false false h = omega arith

chain-left : (f : Flags) (calls : Bool) {s c : Input} {x : Expression} → Moves s c → Stopped calls c.tokens → IsExpression f (chain_level calls) s.tokens x c.tokens → ChainRead f calls s (left x) c
chain-left f calls m h d = record { moves = m; derived = whole_chain (λ k. d); named = λ label e. absurd (cc); parameters = λ n es e. absurd (cc); stopped = h }

chain-of : (f : Flags) (calls : Bool) {s b c : Input} (x : Reading) (l : Link) (ls : List Link) → Moves s b → HeadIn f calls s x b → LinksIn f calls b (l ∷ ls) c → ChainRead f calls s (left (expr.Chain (record { begin = begin_of s.tokens; end = c.last }) x.value (l ∷ ls))) c
chain-of f calls x l ls m (primary_head d) r = chain-left f calls (then-goes m r.goes_) r.stopped
    (g.at_level (chain_level r.has_call) _ (level-fits calls r.has_call r.allowed) (g.chain x.value l ls _ (d (by-token x.shape (links-no-arrow r.derived))) r.derived (ap (λ span. expr.Chain span x.value (l ∷ ls)) (span-across (then-goes m r.goes_)))))
chain-of f calls x l ls m (new_head d h) r = absurd (links-begin r.derived h)
chain-of f calls x l ls m (super_head may d) r = chain-left f calls (then-goes m r.goes_) r.stopped
    (g.at_level level_call _ (super-level calls may) (g.super_chain x.value l ls _ d r.derived (ap (λ span. expr.Chain span x.value (l ∷ ls)) (span-across (then-goes m r.goes_)))))

chain-rule : (f : Flags) (calls : Bool) {s b c : Input} (x : Reading) (ls : List Link) → HeadRead f calls s x b → LinksIn f calls b ls c → ChainRead f calls s (chained x ls (record { begin = begin_of s.tokens; end = c.last })) c
chain-rule f calls x [] h r = head-only f calls x h r
chain-rule f calls x (l ∷ ls) h r = chain-of f calls x l ls h.moves h.derived r

sound-any-chain : (i : Inner) (sound : Sound i) (f : Flags) (role : Role) (s : Input) → Holds (ChainRead f (has_calls role) s) (chain i f role s)
unfolding chain
sound-any-chain i sound f role s = bind (sound-head i sound f role s) λ x b h. bind (sound-links i sound f (has_calls role) i.fuel b) λ ls c r. took (chain-rule f (has_calls role) x ls h r)

-- ## What a chain is to those who read it

chain-level-left : (calls : Bool) → level_left_hand_side ≤ chain_level calls
chain-level-left true = omega arith
chain-level-left false = omega arith

chain-expression : (f : Flags) (calls : Bool) {s c : Input} {x : Reading} → ChainIn f calls s x c → Uncovered x.shape c → IsExpression f level_left_hand_side s.tokens x.value c.tokens
chain-expression f calls (whole_chain d) h = lower f level_left_hand_side (chain_level calls) (chain-level-left calls) (d h)
chain-expression f calls (bare_new d k) h = g.at_level level_left_hand_side _ (omega arith) d

chain-read : (f : Flags) (calls : Bool) {s c : Input} {x : Reading} → ChainRead f calls s x c → ReadIn f level_left_hand_side s x c
chain-read f calls {x = x} r = record { moves = r.moves; derived = chain-expression f calls r.derived; left_side = λ e. chain-expression f calls r.derived (by-left x.shape _ e); named = r.named; parameters = r.parameters }

pub sound-chain : (i : Inner) (sound : Sound i) (f : Flags) (role : Role) (s : Input) → Holds (ReadIn f level_left_hand_side s) (chain i f role s)
sound-chain i sound f role s = weaken (sound-any-chain i sound f role s) (λ x c r. chain-read f (has_calls role) r)

-- a class's heritage
pub sound-heritage-chain : (i : Inner) (sound : Sound i) (f : Flags) (s : Input) → Holds (ReadAmong f level_left_hand_side s) (chain i f Heritage s)
sound-heritage-chain i sound f s = weaken (both (sound-chain i sound f Heritage s) (plain-chain i sound f Heritage refl s)) (λ x c r. among r.0 (uncovered r.1))

new-callee : (f : Flags) {s c : Input} {x : Reading} → ChainIn f false s x c → is_covered x.shape ≡ false → IsNewCallee f s.tokens x.value c.tokens
new-callee f {x = x} (whole_chain d) h = g.member_callee _ (d (by-shape x.shape _ h))
new-callee f (bare_new d k) h = g.another_new _ d

paren-no-arrow : (ts : List Filled) → next_is (next_mark marks.LeftParenthesis) ts ≡ true → next_is is_arrow ts ≡ false
paren-no-arrow [] h = refl
paren-no-arrow (t ∷ ts) h = not-arrow (kinds.Punctuator marks.LeftParenthesis) t (mark-is marks.LeftParenthesis t.kind h) refl

member-callee : (f : Flags) {s c : Input} {x : Reading} → ChainIn f false s x c → next_is (next_mark marks.LeftParenthesis) c.tokens ≡ true → IsExpression f level_member s.tokens x.value c.tokens
member-callee f {c = c} {x = x} (whole_chain d) h = d (by-token x.shape (paren-no-arrow c.tokens h))
member-callee f (bare_new d k) h = absurd (false≢true (sym (k.3 refl) ∙ h))

callee-read : (f : Flags) {s c : Input} {x : Reading} → ChainRead f false s x c → is_covered x.shape ≡ false → CalleeRead f s x c
callee-read f r h = record { moves = r.moves; callee = new-callee f r.derived h; member = member-callee f r.derived; stopped = r.stopped }

pub sound-callee : (i : Inner) (sound : Sound i) (f : Flags) (s : Input) → Holds (CalleeRead f s) (chain i f Callee s)
sound-callee i sound f s = weaken (both (sound-any-chain i sound f Callee s) (plain-chain i sound f Callee refl s)) (λ x c r. callee-read f r.0 (uncovered r.1))
