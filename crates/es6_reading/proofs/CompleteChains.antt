-- Accesses, calls, `super` and `new` that are derived are read exactly so, if their parts are.
use Rattle.std.proofs.Common.{◌≡◌, ℕ, ◌≤◌, Bool, true, false, List, [], ◌∷◌, refl, sym, ap, subst, ◌∙◌, arith}
use Rattle.std.proofs.lemmas.Bool.{false≢true}
use Rattle.std.specs.Prelude.{codes, is_some}
use Rattle.es_outside.specs.HostNames.{reserved_words}
use Rattle.es6_lexer.specs.declared.token.Punctuator.TheVariants as marks
use Rattle.es6_ast.specs.declared.tree.Identifier.{Identifier}
use Rattle.es6_ast.specs.declared.tree.Expression.{Expression}
use Rattle.es6_ast.specs.declared.tree.Expression.TheVariants as expr
use Rattle.es6_ast.specs.declared.tree.Argument.{Argument}
use Rattle.es6_ast.specs.declared.tree.Link.{Link}
use Rattle.es6_ast.specs.declared.tree.Link.TheVariants as link
use Rattle.es6_ast.specs.declared.tree.Template.{Template}
use Rattle.es6_ast.specs.declared.settings.Flags.{Flags}
use Rattle.es6_ast.specs.declared.settings.Role.{Role}
use Rattle.es6_ast.specs.declared.settings.Role.TheVariants.{Callee}
use Rattle.es6_ast.specs.declared.settings.Shape.{Shape}
use Rattle.es6_ast.specs.declared.settings.Shape.TheVariants.{LeftHandSide}
use Rattle.es6_ast.specs.Settings.{has_calls}
use Rattle.es6_ast.specs.Tokens.{Filled, IsWord, IsMark, across}
use Rattle.es6_ast.specs.Grammar.{with_in, chain_level, IsAnyName}
use Rattle.es6_reading.specs.Parser.{next_is, mark, word, next_mark}
use Rattle.es6_reading.specs.Words.{stretch_at, begins_operand, operand_words, is_template_head}
use Rattle.es6_reading.specs.Expressions.{after_callee, after_new, super_call, after_super, head, member_link, index_link, call_link, links, chain}
use Rattle.es6_reading.proofs.Posts.{Misses}
use Rattle.es6_reading.proofs.Meanings.{is-mark-true}
use Rattle.es6_reading.proofs.Spans.{Moves, ◌⟫◌, span-across}
use Rattle.es6_reading.proofs.Derived.{one}
use Rattle.es6_reading.proofs.Reading.{Eventually, always, then_, both, pair, turn, begin}
use Rattle.es6_reading.proofs.Exactly.{ReadsOnward, onward-of, nothing-taken, done, and_then, and_on, later, hit, miss, take, if-no, chosen, group-in, group-out, mark-hit, word-hit}
use Rattle.es6_reading.proofs.CompleteTokens.{at-kind, no-mark, mark-miss, new-begins, super-begins, closes-square, square-ends-yield, ends-yield}
use Rattle.es6_reading.proofs.CompleteImports.{R, readers-fuel, opened, mark-no-mark, word-no-word, any-exact}
use Rattle.es6_reading.proofs.CompleteLevels.{reading, Stops, stretch-missed, stretch-unopened, links-none, HeadReads, ChainReads, head-chain}
use Rattle.es6_reading.proofs.CompleteClaims.{Claim, claim-primary, claim-left, open-sequence, open-callee}
use Rattle.es6_reading.proofs.CompleteLists.{ArgumentsRead, TemplateClaim, whole_claim, parted_claim, template-reads}

stops-as : (role : Role) {us : List Filled} → Stops true us → Stops (has_calls role) us
stops-as role s = record { dot = s.dot; bracket = s.bracket; template = s.template; paren = λ e. s.paren refl }

-- ## `super` and `new.target`

pub super-index-claim : (f : Flags) {t o c : Filled} {ts us : List Filled} {index x : Expression} → IsWord (codes "super") t → IsMark marks.LeftBracket o → Claim (with_in f) 0 ts (c ∷ us) index → IsMark marks.RightBracket c → x ≡ expr.SuperIndex (across (t ∷ o ∷ ts) us) index → Claim f 19 (t ∷ o ∷ ts) us x
unfolding head after_super
super-index-claim f {t = t} {o = o} {c = c} {ts = ts} {us = us} {index = index} {x = x} w p d q e = claim-primary f (t ∷ o ∷ ts) us x LeftHandSide refl (super-begins t w) (λ role.
    both opened (open-sequence d (closes-square (with_in f) us c q) (ends-yield 0 c us (square-ends-yield c q))) (λ n k r m y last.
    miss (word (codes "new")) _ _ (t ∷ o ∷ ts) last (word-no-word (codes "new") (codes "super") t w refl) (hit (word (codes "super")) _ _ t t (o ∷ ts) last (word-hit (codes "super") t w)
    (miss (mark marks.Dot) _ _ (o ∷ ts) t.span.end (mark-no-mark marks.Dot marks.LeftBracket o p refl) (group-in (R k r) marks.LeftBracket _ _ o ts t.span.end (is-mark-true marks.LeftBracket o p) m
    (and_then _ (later (one ⟫ one) (y o.span.end)) (λ end mv. take (mark marks.RightBracket) _ c c us end (mark-hit marks.RightBracket c q)
    (done (ap (λ z. reading z LeftHandSide) (ap (λ s. expr.SuperIndex s index) (span-across (mv ⟫ one)) ∙ sym e)) (mv ⟫ one)))))))))

pub new-target-claim : (f : Flags) {t dot u : Filled} {ts : List Filled} {x : Expression} → IsWord (codes "new") t → IsMark marks.Dot dot → IsWord (codes "target") u → x ≡ expr.NewTarget (across (t ∷ dot ∷ u ∷ ts) ts) → Claim f 19 (t ∷ dot ∷ u ∷ ts) ts x
unfolding head after_new
new-target-claim f {t = t} {dot = dot} {u = u} {ts = ts} {x = x} w p v e = claim-primary f (t ∷ dot ∷ u ∷ ts) ts x LeftHandSide refl (new-begins t w) (λ role. always (λ n k r last.
    hit (word (codes "new")) _ _ t t (dot ∷ u ∷ ts) last (word-hit (codes "new") t w) (hit (mark marks.Dot) _ _ dot dot (u ∷ ts) t.span.end (mark-hit marks.Dot dot p)
    (take (word (codes "target")) _ u u ts dot.span.end (word-hit (codes "target") u v) (done (ap (λ z. reading z LeftHandSide) (ap (λ s. expr.NewTarget s) (span-across (three last)) ∙ sym e)) (three last))))))
  where
    three : (last : ℕ) → Moves (record { tokens = t ∷ dot ∷ u ∷ ts; last = last }) (record { tokens = ts; last = u.span.end })
    three last = one {t = t} {ts = dot ∷ u ∷ ts} {last = last} ⟫ one {t = dot} {ts = u ∷ ts} {last = t.span.end} ⟫ one {t = u} {ts = ts} {last = dot.span.end}

-- a call of `super`, before accesses or alone
abbrev HeadsRead : Flags → Expression → List Filled → List Filled → Type 0
HeadsRead f x ts us = (role : Role) → has_calls role ≡ true → HeadReads f role (reading x LeftHandSide) ts us

pub super-call-heads : (f : Flags) {t o : Filled} {ts us : List Filled} {as_ : List Argument} {x : Expression} → IsWord (codes "super") t → IsMark marks.LeftParenthesis o → ArgumentsRead f ts as_ us → x ≡ expr.SuperCall (across (t ∷ o ∷ ts) us) as_ → HeadsRead f x (t ∷ o ∷ ts) us
unfolding head after_super super_call
super-call-heads f {t = t} {o = o} {ts = ts} {us = us} {as_ = as_} w p d e role calls = both opened d (λ n k r m y last.
    miss (word (codes "new")) _ _ (t ∷ o ∷ ts) last (word-no-word (codes "new") (codes "super") t w refl) (hit (word (codes "super")) _ _ t t (o ∷ ts) last (word-hit (codes "super") t w)
    (miss (mark marks.Dot) _ _ (o ∷ ts) t.span.end (mark-no-mark marks.Dot marks.LeftParenthesis o p refl) (group-out (R k r) marks.LeftBracket _ _ (o ∷ ts) t.span.end (at-kind (λ u. next_mark marks.LeftBracket u ≡ false) o _ p refl)
    (chosen (has_calls role) _ _ _ calls (group-in (R k r) marks.LeftParenthesis _ _ o ts t.span.end (is-mark-true marks.LeftParenthesis o p) m
    (and_then _ (later (one ⟫ one) (y o.span.end)) (λ end mv. done (ap (λ z. reading z LeftHandSide) (ap (λ s. expr.SuperCall s as_) (span-across mv) ∙ sym e)) mv))))))))

pub super-call-claim : (f : Flags) {t o : Filled} {ts us : List Filled} {as_ : List Argument} {x : Expression} → IsWord (codes "super") t → IsMark marks.LeftParenthesis o → ArgumentsRead f ts as_ us → x ≡ expr.SuperCall (across (t ∷ o ∷ ts) us) as_ → Claim f 17 (t ∷ o ∷ ts) us x
super-call-claim f {t = t} {o = o} {ts = ts} {us = us} {x = x} w p d e = claim-left f 17 (t ∷ o ∷ ts) us x LeftHandSide (omega arith) refl (super-begins t w)
    (λ s role calls. head-chain f role (reading x LeftHandSide) (t ∷ o ∷ ts) us (super-call-heads f w p d e role calls) (stops-as role s)) (λ l. absurd (none l))
  where
    none : 18 ≤ 17 → ⊥
    none l = omega arith

-- ## `new`

no-dot : (ts : List Filled) → next_is begins_operand ts ≡ true → Misses (mark marks.Dot) ts
unfolding begins_operand reserved_words operand_words
no-dot [] h = tt
no-dot (t ∷ ts) h = mark-miss marks.Dot t (no-mark begins_operand marks.Dot t h refl)

paren-stops : (us : List Filled) (o : Filled) → IsMark marks.LeftParenthesis o → Stops false (o ∷ us)
paren-stops us o p = record {
  dot = at-kind (λ u. next_mark marks.Dot u ≡ false) o _ p refl;
  bracket = at-kind (λ u. next_mark marks.LeftBracket u ≡ false) o _ p refl;
  template = at-kind (λ u. is_template_head u.kind ≡ false) o _ p refl;
  paren = λ h. absurd (false≢true h);
}

pub new-call-claim : (f : Flags) {t o : Filled} {ts us vs : List Filled} {callee x : Expression} {as_ : List Argument} → IsWord (codes "new") t → Claim f 18 ts (o ∷ us) callee → IsMark marks.LeftParenthesis o → ArgumentsRead f us as_ vs → x ≡ expr.New (across (t ∷ ts) vs) callee as_ → Claim f 19 (t ∷ ts) vs x
unfolding head after_new after_callee
new-call-claim f {t = t} {o = o} {ts = ts} {us = us} {vs = vs} {callee = callee} {x = x} {as_ = as_} w c p d e = claim-primary f (t ∷ ts) vs x LeftHandSide refl (new-begins t w) (λ role.
    both opened (pair (open-callee f (c.members (omega arith) (paren-stops us o p))) d) (λ n k r m y last. hit (word (codes "new")) _ _ t t ts last (word-hit (codes "new") t w)
    (miss (mark marks.Dot) _ _ ts t.span.end (no-dot ts (c.operand (omega arith))) (and_then _ (later one (y.0 t.span.end)) (λ end mv. group-in (R k r) marks.LeftParenthesis _ _ o us end (is-mark-true marks.LeftParenthesis o p) m
    (and_then _ (later (mv ⟫ one) (y.1 o.span.end)) (λ end' mv'. done (ap (λ z. reading z LeftHandSide) (ap (λ s. expr.New s callee as_) (span-across mv') ∙ sym e)) mv')))))))

-- what stands after `new` where no arguments follow
pub record CalleeClaim (f : Flags) (ts us : List Filled) (x : Expression) : Type 0 where
  pub shape : Shape
  pub operand : next_is begins_operand ts ≡ true
  pub reads : Stops true us → ChainReads f Callee (reading x shape) ts us

pub callee-member : (f : Flags) {ts us : List Filled} {x : Expression} → Claim f 18 ts us x → CalleeClaim f ts us x
callee-member f c = record {
  shape = c.shape;
  operand = c.operand (omega arith);
  reads = λ s. c.members (omega arith) (record { dot = s.dot; bracket = s.bracket; template = s.template; paren = λ h. absurd (false≢true h) });
}

new-bare-heads : (f : Flags) {t : Filled} {ts us : List Filled} {callee x : Expression} → IsWord (codes "new") t → CalleeClaim f ts us callee → x ≡ expr.New (across (t ∷ ts) us) callee [] → Stops true us → (role : Role) → HeadReads f role (reading x LeftHandSide) (t ∷ ts) us
unfolding head after_new after_callee
new-bare-heads f {t = t} {ts = ts} {us = us} {callee = callee} w c e s role = then_ (open-callee f (c.reads s)) (λ n k r y last. hit (word (codes "new")) _ _ t t ts last (word-hit (codes "new") t w)
    (miss (mark marks.Dot) _ _ ts t.span.end (no-dot ts c.operand) (and_then _ (later one (y t.span.end)) (λ end mv. group-out (R k r) marks.LeftParenthesis _ _ us end (s.paren refl)
    (done (ap (λ z. reading z LeftHandSide) (ap (λ q. expr.New q callee []) (span-across mv) ∙ sym e)) mv)))))

pub callee-new : (f : Flags) {t : Filled} {ts us : List Filled} {callee x : Expression} → IsWord (codes "new") t → CalleeClaim f ts us callee → x ≡ expr.New (across (t ∷ ts) us) callee [] → CalleeClaim f (t ∷ ts) us x
callee-new f {t = t} {ts = ts} {us = us} {x = x} w c e = record {
  shape = LeftHandSide;
  operand = new-begins t w;
  reads = λ s. head-chain f Callee (reading x LeftHandSide) (t ∷ ts) us (new-bare-heads f w c e s Callee) (stops-as Callee s);
}

pub new-bare-claim : (f : Flags) {t : Filled} {ts us : List Filled} {callee x : Expression} → IsWord (codes "new") t → CalleeClaim f ts us callee → x ≡ expr.New (across (t ∷ ts) us) callee [] → Claim f 16 (t ∷ ts) us x
new-bare-claim f {t = t} {ts = ts} {us = us} {x = x} w c e = claim-left f 16 (t ∷ ts) us x LeftHandSide (omega arith) refl (new-begins t w)
    (λ s role calls. head-chain f role (reading x LeftHandSide) (t ∷ ts) us (new-bare-heads f w c e s role) (stops-as role s)) (λ l. absurd (none l))
  where
    none : 18 ≤ 16 → ⊥
    none l = omega arith

-- ## Accesses and calls

abbrev LinksRead : Flags → Bool → List Filled → List Link → List Filled → Type 0
LinksRead f calls ts ls us = Eventually (λ t k r. ReadsOnward (links (R k r) f calls t) ls ts us)

-- the first mark says whether one of them is a call, the second whether calls are read
pub record LinksClaim (f : Flags) (calls : Bool) (ts us : List Filled) (ls : List Link) : Type 0 where
  pub reads : (c : Bool) → (calls ≡ true → c ≡ true) → Stops c us → LinksRead f c ts ls us

pub links-end : (f : Flags) (us : List Filled) → LinksClaim f false us us []
links-end f us = record { reads = λ c need s. then_ (links-none f c us s) (λ t k r y last. nothing-taken (y last)) }

pub links-member : (f : Flags) {calls : Bool} {dot : Filled} {ts us vs : List Filled} {n : Identifier} {l : Link} {ls : List Link} → IsMark marks.Dot dot → IsAnyName ts n us → l ≡ link.Member (across (dot ∷ ts) us) n → LinksClaim f calls us vs ls → LinksClaim f calls (dot ∷ ts) vs (l ∷ ls)
unfolding links member_link
links-member f {dot = dot} {ts = ts} {n = n} p d e rest = record {
  reads = λ c need s. turn (rest.reads c need s) (λ t k r y last. onward-of (hit (mark marks.Dot) _ _ dot dot ts last (mark-hit marks.Dot dot p)
      (and_then _ (and_then _ (later one (any-exact d dot.span.end)) (λ end mv. done (ap (λ z. link.Member z n) (span-across mv) ∙ sym e) mv)) (λ end mv. and_on _ mv (y end) (λ end' mv'. done refl mv')))));
}

pub links-index : (f : Flags) {calls : Bool} {o c : Filled} {ts us vs : List Filled} {index : Expression} {l : Link} {ls : List Link} → IsMark marks.LeftBracket o → Claim (with_in f) 0 ts (c ∷ us) index → IsMark marks.RightBracket c → l ≡ link.Index (across (o ∷ ts) us) index → LinksClaim f calls us vs ls → LinksClaim f calls (o ∷ ts) vs (l ∷ ls)
unfolding links index_link
links-index f {o = o} {c = c} {ts = ts} {us = us} {index = index} p d q e rest = record {
  reads = λ b need s. turn (pair opened (pair (open-sequence d (closes-square (with_in f) us c q) (ends-yield 0 c us (square-ends-yield c q))) (rest.reads b need s))) (λ t k r y last. onward-of (
      miss (mark marks.Dot) _ _ (o ∷ ts) last (mark-no-mark marks.Dot marks.LeftBracket o p refl) (group-in (R k r) marks.LeftBracket _ _ o ts last (is-mark-true marks.LeftBracket o p) y.0
      (and_then _ (and_then _ (later one (y.1.0 o.span.end)) (λ end mv. take (mark marks.RightBracket) _ c c us end (mark-hit marks.RightBracket c q) (done (ap (λ z. link.Index z index) (span-across (mv ⟫ one)) ∙ sym e) (mv ⟫ one))))
      (λ end mv. and_on _ mv (y.1.1 end) (λ end' mv'. done refl mv'))))));
}

template-no-dot : {f : Flags} {ts us : List Filled} {m : Template} → TemplateClaim f ts m us → Misses (mark marks.Dot) ts
template-no-dot (whole_claim {t = t} cooked raw h e) = mark-miss marks.Dot t (at-kind (λ u. next_mark marks.Dot u ≡ false) t _ h refl)
template-no-dot (parted_claim {t = t} cooked raw h e rest) = mark-miss marks.Dot t (at-kind (λ u. next_mark marks.Dot u ≡ false) t _ h refl)

template-no-bracket : {f : Flags} {ts us : List Filled} {m : Template} → TemplateClaim f ts m us → next_is (next_mark marks.LeftBracket) ts ≡ false
template-no-bracket (whole_claim {t = t} cooked raw h e) = at-kind (λ u. next_mark marks.LeftBracket u ≡ false) t _ h refl
template-no-bracket (parted_claim {t = t} cooked raw h e rest) = at-kind (λ u. next_mark marks.LeftBracket u ≡ false) t _ h refl

pub links-tag : (f : Flags) {calls : Bool} {ts us vs : List Filled} {m : Template} {l : Link} {ls : List Link} → TemplateClaim f ts m us → l ≡ link.Tagged m → LinksClaim f calls us vs ls → LinksClaim f calls ts vs (l ∷ ls)
unfolding links
links-tag f {ts = ts} {l = l} {ls = ls} d e rest = record {
  reads = λ b need s. turn (pair (template-reads (l ∷ ls) d) (rest.reads b need s)) (λ t k r y last. onward-of (
      miss (mark marks.Dot) _ _ ts last (template-no-dot d) (group-out (R k r) marks.LeftBracket _ _ ts last (template-no-bracket d)
      (y.0 _ _ last (λ end mv. and_on _ mv (y.1 end) (λ end' mv'. done (ap (λ z. z ∷ ls) (sym e)) mv'))))));
}

pub links-call : (f : Flags) {calls : Bool} {o : Filled} {ts us vs : List Filled} {as_ : List Argument} {l : Link} {ls : List Link} → IsMark marks.LeftParenthesis o → ArgumentsRead f ts as_ us → l ≡ link.Call (across (o ∷ ts) us) as_ → LinksClaim f calls us vs ls → LinksClaim f true (o ∷ ts) vs (l ∷ ls)
unfolding links call_link
links-call f {o = o} {ts = ts} {as_ = as_} p d e rest = record {
  reads = λ b need s. turn (pair opened (pair d (rest.reads b (λ h. need refl) s))) (λ t k r y last. onward-of (
      miss (mark marks.Dot) _ _ (o ∷ ts) last (mark-no-mark marks.Dot marks.LeftParenthesis o p refl) (group-out (R k r) marks.LeftBracket _ _ (o ∷ ts) last (paren-stops ts o p).bracket
      (miss (stretch_at true true) _ _ (o ∷ ts) last (stretch-missed true (o ∷ ts) (paren-stops ts o p).template) (if-no (λ u. is_some (stretch_at true false u)) _ _ (o ∷ ts) last (stretch-unopened (o ∷ ts) (paren-stops ts o p).template)
      (chosen b _ _ _ (need refl) (group-in (R k r) marks.LeftParenthesis _ _ o ts last (is-mark-true marks.LeftParenthesis o p) y.0
      (and_then _ (and_then _ (later one (y.1.0 o.span.end)) (λ end mv. done (ap (λ z. link.Call z as_) (span-across mv) ∙ sym e) mv)) (λ end mv. and_on _ mv (y.1.1 end) (λ end' mv'. done refl mv'))))))))));
}

chain-reads : (f : Flags) (role : Role) {ts us vs : List Filled} {first x : Expression} {shape : Shape} {l : Link} {ls : List Link} → HeadReads f role (reading first shape) ts us → LinksRead f (has_calls role) us (l ∷ ls) vs → x ≡ expr.Chain (across ts vs) first (l ∷ ls) → ChainReads f role (reading x LeftHandSide) ts vs
unfolding chain
chain-reads f role {us = us} {vs = vs} {first = first} {l = l} {ls = ls} h rest e = both h (begin rest (λ t k r y. at-turns k r y)) (λ t k r y z last.
    and_then _ (y last) (λ end mv. and_on _ mv (z end) (λ end' mv'. done (ap (λ w. reading w LeftHandSide) (ap (λ s. expr.Chain s first (l ∷ ls)) (span-across mv') ∙ sym e)) mv')))
  where
    at-turns : (k r : ℕ) → ReadsOnward (links (R k r) f (has_calls role) k) (l ∷ ls) us vs → ReadsOnward (links (R k r) f (has_calls role) (R k r).fuel) (l ∷ ls) us vs
    at-turns k r y = subst (λ n. ReadsOnward (links (R k r) f (has_calls role) n) (l ∷ ls) us vs) (sym (readers-fuel k r)) y

needed : (calls : Bool) (c : Bool) → c ≡ true → calls ≡ true → c ≡ true
needed calls c h k = h

pub chain-claim : (f : Flags) (calls : Bool) {ts us vs : List Filled} {first x : Expression} {l : Link} {ls : List Link} → Claim f 19 ts us first → LinksClaim f calls us vs (l ∷ ls) → x ≡ expr.Chain (across ts vs) first (l ∷ ls) → Claim f (chain_level calls) ts vs x
chain-claim f true {ts = ts} {vs = vs} {x = x} c d e = claim-left f 17 ts vs x LeftHandSide (omega arith) refl (c.operand (omega arith))
    (λ s role h. chain-reads f role (c.heads (omega arith) role) (d.reads (has_calls role) (needed true (has_calls role) h) (stops-as role s)) e) (λ l. absurd (none l))
  where
    none : 18 ≤ 17 → ⊥
    none l = omega arith
chain-claim f false {ts = ts} {vs = vs} {x = x} c d e = claim-left f 18 ts vs x LeftHandSide (omega arith) refl (c.operand (omega arith))
    (λ s role h. chain-reads f role (c.heads (omega arith) role) (d.reads (has_calls role) (needed false (has_calls role) h) (stops-as role s)) e)
    (λ l s. chain-reads f Callee (c.heads (omega arith) Callee) (d.reads false (λ h. h) s) e)

pub super-chain-claim : (f : Flags) (calls : Bool) {t : Filled} {ts us vs : List Filled} {first x : Expression} {l : Link} {ls : List Link} → IsWord (codes "super") t → HeadsRead f first (t ∷ ts) us → LinksClaim f calls us vs (l ∷ ls) → x ≡ expr.Chain (across (t ∷ ts) vs) first (l ∷ ls) → Claim f 17 (t ∷ ts) vs x
super-chain-claim f calls {t = t} {ts = ts} {vs = vs} {x = x} w c d e = claim-left f 17 (t ∷ ts) vs x LeftHandSide (omega arith) refl (super-begins t w)
    (λ s role h. chain-reads f role (c role h) (d.reads (has_calls role) (needed calls (has_calls role) h) (stops-as role s)) e) (λ l. absurd (none l))
  where
    none : 18 ≤ 17 → ⊥
    none l = omega arith
