-- Groups, templates, functions and classes that are derived are read exactly so, if their parts are.
use Rattle.std.proofs.Common.{◌≡◌, ℕ, ◌≤◌, Bool, true, false, ◌&&◌, List, [], ◌∷◌, Option, Some, refl, sym, ap, subst, ◌∙◌, arith}
use Rattle.std.specs.Prelude.{codes}
use Rattle.es_outside.specs.HostNames.{reserved_words}
use Rattle.es6_lexer.specs.declared.token.Punctuator.TheVariants as marks
use Rattle.es6_ast.specs.declared.tree.Class.{Class}
use Rattle.es6_ast.specs.declared.tree.Expression.{Expression}
use Rattle.es6_ast.specs.declared.tree.Expression.TheVariants as expr
use Rattle.es6_ast.specs.declared.tree.Function.{Function}
use Rattle.es6_ast.specs.declared.tree.Parameter.{Parameter}
use Rattle.es6_ast.specs.declared.tree.Template.{Template}
use Rattle.es6_ast.specs.declared.settings.Flags.{Flags}
use Rattle.es6_ast.specs.declared.settings.Role.{Role}
use Rattle.es6_ast.specs.declared.settings.Shape.TheVariants.{Grouped, LeftHandSide}
use Rattle.es6_ast.specs.Settings.{is_leading}
use Rattle.es6_ast.specs.Tokens.{Filled, IsWord, IsMark, begin_of, across}
use Rattle.es6_ast.specs.Grammar.{with_in}
use Rattle.es6_reading.specs.Parser.{Input, Outcome, Took, Parser, after, returns, on, on_taken, next_is, mark, next_mark, Inner, on_group}
use Rattle.es6_reading.specs.Words.{begins_operand, begins_unary, begins_expression, unary_operators, operand_words}
use Rattle.es6_reading.specs.Parts.{function_after_word, class_after_word, on_template}
use Rattle.es6_reading.specs.Refine.{Fits}
use Rattle.es6_reading.specs.Expressions.{Held, held_parts, sequenced, closed_group, held_group, grouped, bracketed, composed, primary, head, left, parameters_before}
use Rattle.es6_reading.proofs.Meanings.{is-mark-true}
use Rattle.es6_reading.proofs.Spans.{Moves, ◌⟫◌, span-across}
use Rattle.es6_reading.proofs.Derived.{one}
use Rattle.es6_reading.proofs.Reading.{Eventually, then_, both, pair, turn, begin, on-miss-is}
use Rattle.es6_reading.proofs.Exactly.{Exactly, exactly, equal, done, and_then, miss, take, either-choice, group-in, mark-hit, if-is}
use Rattle.es6_reading.proofs.CompleteTokens.{at-kind, no-mark, template-begins, function-begins, class-begins, parenthesis-begins, closes-up, closes-close, closes-comma, ends-yield, close-ends-yield, comma-ends-yield}
use Rattle.es6_reading.proofs.CompleteImports.{R, readers-fuel, opened, mark-no-mark}
use Rattle.es6_reading.proofs.CompleteLevels.{HeadReads, reading}
use Rattle.es6_reading.proofs.CompleteClaims.{Claim, claim-primary, begins-no-close, begins-no-ellipsis, open-assignment}
use Rattle.es6_reading.proofs.CompleteLists.{TemplateClaim, whole_claim, parted_claim, template-reads}
use Rattle.es6_reading.proofs.CompleteAssignments.{ParametersClaim}

-- ## Templates, functions and classes

template-operand : {f : Flags} {ts us : List Filled} {m : Template} → TemplateClaim f ts m us → next_is begins_operand ts ≡ true
template-operand (whole_claim {t = t} cooked raw h e) = template-begins cooked raw true t h
template-operand (parted_claim {t = t} cooked raw h e rest) = template-begins cooked raw false t h

template-head : (i : Inner) {f : Flags} (role : Role) {ts us : List Filled} {m : Template} (last : ℕ) → TemplateClaim f ts m us
    → head i f role (begin_of ts) (record { tokens = ts; last = last }) ≡ on_template i f (begin_of ts) (λ m. returns (left (expr.Template m))) (on_group i marks.LeftParenthesis (grouped i f role (begin_of ts)) (bracketed i f role (begin_of ts))) (record { tokens = ts; last = last })
unfolding head primary composed
template-head i {f = f} role last (whole_claim {t = t} {ts = ts} cooked raw h e) = at-kind (λ u. head i f role u.span.begin (record { tokens = u ∷ ts; last = last })
    ≡ on_template i f u.span.begin (λ m. returns (left (expr.Template m))) (on_group i marks.LeftParenthesis (grouped i f role u.span.begin) (bracketed i f role u.span.begin)) (record { tokens = u ∷ ts; last = last })) t _ h refl
template-head i {f = f} role last (parted_claim {t = t} {ts = ts} cooked raw h e rest) = at-kind (λ u. head i f role u.span.begin (record { tokens = u ∷ ts; last = last })
    ≡ on_template i f u.span.begin (λ m. returns (left (expr.Template m))) (on_group i marks.LeftParenthesis (grouped i f role u.span.begin) (bracketed i f role u.span.begin)) (record { tokens = u ∷ ts; last = last })) t _ h refl

pub template-claim : (f : Flags) {ts us : List Filled} {m : Template} {x : Expression} → TemplateClaim f ts m us → x ≡ expr.Template m → Claim f 19 ts us x
template-claim f {ts = ts} {us = us} {x = x} d e = claim-primary f ts us x LeftHandSide refl (template-operand d) (λ role. then_ (template-reads (reading x LeftHandSide) d) (λ n k r y last.
    equal (template-head (R k r) role last d) (y _ _ last (λ end mv. done (ap (λ z. reading z LeftHandSide) (sym e)) mv))))

-- what follows a word, which is the first token
abbrev pub AfterWord : {A : Type 0} → (Inner → ℕ → Parser A) → Filled → List Filled → A → List Filled → Type 0
AfterWord p t ts x us = Eventually (λ n k r. (last : ℕ) → Exactly x (record { tokens = t ∷ ts; last = last }) us (p (R k r) t.span.begin (record { tokens = ts; last = t.span.end })))

function-head : (i : Inner) (f : Flags) (role : Role) (t : Filled) (ts : List Filled) (last : ℕ) → IsWord (codes "function") t
    → head i f role t.span.begin (record { tokens = t ∷ ts; last = last }) ≡ after (function_after_word i true t.span.begin (record { tokens = ts; last = t.span.end })) (λ g. returns (left (expr.Function g)))
unfolding head primary composed reserved_words
function-head i f role t ts last w = at-kind (λ u. head i f role u.span.begin (record { tokens = u ∷ ts; last = last }) ≡ after (function_after_word i true u.span.begin (record { tokens = ts; last = u.span.end })) (λ g. returns (left (expr.Function g)))) t _ w refl

pub function-claim : (f : Flags) {t : Filled} {ts us : List Filled} {g : Function} {x : Expression} → IsWord (codes "function") t → AfterWord (λ i. function_after_word i true) t ts g us → x ≡ expr.Function g → Claim f 19 (t ∷ ts) us x
function-claim f {t = t} {ts = ts} {us = us} {x = x} w d e = claim-primary f (t ∷ ts) us x LeftHandSide refl (function-begins t w) (λ role. then_ d (λ n k r y last.
    equal (function-head (R k r) f role t ts last w) (and_then _ (y last) (λ end mv. done (ap (λ z. reading z LeftHandSide) (sym e)) mv))))

class-head : (i : Inner) (f : Flags) (role : Role) (t : Filled) (ts : List Filled) (last : ℕ) → IsWord (codes "class") t
    → head i f role t.span.begin (record { tokens = t ∷ ts; last = last }) ≡ after (class_after_word i f true t.span.begin (record { tokens = ts; last = t.span.end })) (λ c. returns (left (expr.Class c)))
unfolding head primary composed reserved_words
class-head i f role t ts last w = at-kind (λ u. head i f role u.span.begin (record { tokens = u ∷ ts; last = last }) ≡ after (class_after_word i f true u.span.begin (record { tokens = ts; last = u.span.end })) (λ c. returns (left (expr.Class c)))) t _ w refl

pub class-claim : (f : Flags) {t : Filled} {ts us : List Filled} {c : Class} {x : Expression} → IsWord (codes "class") t → AfterWord (λ i. class_after_word i f true) t ts c us → x ≡ expr.Class c → Claim f 19 (t ∷ ts) us x
class-claim f {t = t} {ts = ts} {us = us} {x = x} w d e = claim-primary f (t ∷ ts) us x LeftHandSide refl (class-begins t w) (λ role. then_ d (λ n k r y last.
    equal (class-head (R k r) f role t ts last w) (and_then _ (y last) (λ end mv. done (ap (λ z. reading z LeftHandSide) (sym e)) mv))))

-- ## The parts of a group

-- these parts are read, and the last of them ends where the reader does
pub data HeldOf (first : Expression) (more : List Expression) (s : Input) (us : List Filled) : Outcome Held → Type 0 where
  held_of : {end : ℕ} → Moves s (record { tokens = us; last = end }) → HeldOf first more s us (Took (record { first = first; more = more; end = end; before_rest = false }) (record { tokens = us; last = end }))

held-then : {A : Type 0} {x : A} {first : Expression} {more : List Expression} {s : Input} {us vs : List Filled} {o : Outcome A} (q : A → Parser Held) → Exactly x s us o → ((end : ℕ) → Moves s (record { tokens = us; last = end }) → HeldOf first more s vs (q x (record { tokens = us; last = end }))) → HeldOf first more s vs (after o q)
held-then q (exactly m) f = f _ m

then-held : {A : Type 0} {x : A} {first : Expression} {more : List Expression} {s c : Input} {us vs : List Filled} {o : Outcome Held} (q : Held → Parser A) → HeldOf first more c us o
    → ((end : ℕ) → Moves c (record { tokens = us; last = end }) → Exactly x s vs (q (record { first = first; more = more; end = end; before_rest = false }) (record { tokens = us; last = end }))) → Exactly x s vs (after o q)
then-held q (held_of m) f = f _ m

held-equal : {first : Expression} {more : List Expression} {s : Input} {us : List Filled} {o o' : Outcome Held} → o ≡ o' → HeldOf first more s us o' → HeldOf first more s us o
held-equal {first = first} {more = more} {s = s} {us = us} e h = subst (λ r. HeldOf first more s us r) (sym e) h

-- a part before others
held-before : {x first : Expression} {more : List Expression} {s c : Input} {us : List Filled} {o : Outcome Held} → Moves s c → HeldOf first more c us o → HeldOf x (first ∷ more) s us (after o (λ h. returns (record { first = x; more = h.first ∷ h.more; end = h.end; before_rest = h.before_rest })))
held-before m (held_of k) = held_of (m ⟫ k)

abbrev pub HeldReads : Flags → Role → List Filled → Expression → List Expression → List Filled → ℕ → ℕ → ℕ → Type 0
HeldReads f role ts first more us t k r = (last : ℕ) → HeldOf first more (record { tokens = ts; last = last }) us (held_parts (R k r) f role t (record { tokens = ts; last = last }))

pub record HeldClaim (f : Flags) (ts us : List Filled) (first : Expression) (more : List Expression) : Type 0 where
  pub begins : next_is (begins_expression (with_in f)) ts ≡ true
  pub reads : (role : Role) → Eventually (HeldReads f role ts first more us)

and-false : (b : Bool) → (b && false) ≡ false
and-false true = refl
and-false false = refl

no-rest : (f : Flags) (role : Role) (ts : List Filled) → next_is (begins_expression f) ts ≡ true → next_is (λ t. is_leading role && next_mark marks.Ellipsis t) ts ≡ false
unfolding begins_expression begins_unary begins_operand reserved_words operand_words unary_operators
no-rest f role [] h = refl
no-rest f role (t ∷ ts) h = ap (λ b. is_leading role && b) (no-mark (begins_expression f) marks.Ellipsis t h (and-false f.has_yield)) ∙ and-false (is_leading role)

pub held-one : (f : Flags) {c : Filled} {ts us : List Filled} {x : Expression} → Claim (with_in f) 1 ts (c ∷ us) x → IsMark marks.RightParenthesis c → HeldClaim f ts (c ∷ us) x []
unfolding held_parts
held-one f {c = c} {us = us} d p = record {
  begins = d.begins;
  reads = λ role. turn (open-assignment d (closes-up (with_in f) 0 1 (c ∷ us) (omega arith) (closes-close (with_in f) us c p)) (ends-yield 1 c us (close-ends-yield c p))) (λ t k r y last.
      held-then _ (y last) (λ end mv. held-equal (on-miss-is (mark marks.Comma) _ _ (c ∷ us) end (mark-no-mark marks.Comma marks.RightParenthesis c p refl)) (held_of mv)));
}

pub held-next : (f : Flags) {c : Filled} {ts us vs : List Filled} {x first : Expression} {more : List Expression} → Claim (with_in f) 1 ts (c ∷ us) x → IsMark marks.Comma c → HeldClaim f us vs first more → HeldClaim f ts vs x (first ∷ more)
unfolding held_parts
held-next f {c = c} {us = us} d p rest = record {
  begins = d.begins;
  reads = λ role. turn (pair (open-assignment d (closes-comma (with_in f) us c p) (ends-yield 1 c us (comma-ends-yield c p))) (rest.reads role)) (λ t k r y last.
      held-then _ (y.0 last) (λ end mv. held-equal (on-hit-is (mark marks.Comma) _ _ c c us end (mark-hit marks.Comma c p) ∙ if-is (λ u. is_leading role && next_mark marks.Ellipsis u) _ _ us c.span.end (no-rest (with_in f) role us rest.begins))
      (held-before (mv ⟫ one) (y.1 c.span.end))));
}
  where
    on-hit-is : {A B : Type 0} (test : Filled → Option B) (p : B → Parser A) (q : Parser A) (t : Filled) (b : B) (ts : List Filled) (last : ℕ) → test t ≡ Some b → on test p q (record { tokens = t ∷ ts; last = last }) ≡ p b (record { tokens = ts; last = t.span.end })
    on-hit-is test p q t b ts last e = ap (λ o. on_taken o t ts p q (record { tokens = t ∷ ts; last = last })) e

-- ## Groups

pub paren-head : (i : Inner) (f : Flags) (role : Role) (t : Filled) (ts : List Filled) (last : ℕ) → IsMark marks.LeftParenthesis t
    → head i f role t.span.begin (record { tokens = t ∷ ts; last = last }) ≡ on_group i marks.LeftParenthesis (grouped i f role t.span.begin) (bracketed i f role t.span.begin) (record { tokens = t ∷ ts; last = last })
unfolding head primary composed
paren-head i f role t ts last p = at-kind (λ u. head i f role u.span.begin (record { tokens = u ∷ ts; last = last }) ≡ on_group i marks.LeftParenthesis (grouped i f role u.span.begin) (bracketed i f role u.span.begin) (record { tokens = u ∷ ts; last = last })) t _ p refl

-- what stands in the parentheses, and the closing one
inside-reads : (i : Inner) (f : Flags) (role : Role) {o c : Filled} {ts us : List Filled} {first held x : Expression} {more : List Expression} (last : ℕ) → ((before : ℕ) → HeldOf first more (record { tokens = ts; last = before }) (c ∷ us) (held_parts i f role i.fuel (record { tokens = ts; last = before })))
    → IsMark marks.RightParenthesis c → held ≡ sequenced first more (across ts (c ∷ us)) → x ≡ expr.Group (across (o ∷ ts) us) held → Exactly (reading x Grouped) (record { tokens = o ∷ ts; last = last }) us (held_group i f role o.span.begin (record { tokens = ts; last = o.span.end }))
unfolding held_group closed_group
inside-reads i f role {o = o} {c = c} {ts = ts} {us = us} {first = first} {more = more} last d p h e = then-held _ (d o.span.end) (λ end mv. take (mark marks.RightParenthesis) _ c c us end (mark-hit marks.RightParenthesis c p)
    (done (ap (λ z. reading z Grouped) (ap (λ s. expr.Group s (sequenced first more (record { begin = begin_of ts; end = end }))) (span-across ((one {t = o} {ts = ts} {last = last} ⟫ mv) ⟫ one))
    ∙ ap (λ s. expr.Group (across (o ∷ ts) us) (sequenced first more s)) (span-across mv) ∙ ap (λ z. expr.Group (across (o ∷ ts) us) z) (sym h) ∙ sym e)) ((one {t = o} {ts = ts} {last = last} ⟫ mv) ⟫ one)))

pub group-heads : (f : Flags) {o c : Filled} {ts us : List Filled} {first held x : Expression} {more : List Expression} → IsMark marks.LeftParenthesis o → HeldClaim f ts (c ∷ us) first more → IsMark marks.RightParenthesis c → held ≡ sequenced first more (across ts (c ∷ us)) → x ≡ expr.Group (across (o ∷ ts) us) held → (role : Role) → HeadReads f role (reading x Grouped) (o ∷ ts) us
unfolding grouped
group-heads f {o = o} {c = c} {ts = ts} {us = us} {first = first} {x = x} {more = more} p d q h e role = both opened (begin (d.reads role) (λ n k r y. at-turns k r y)) (λ n k r m y last.
    equal (paren-head (R k r) f role o ts last p) (group-in (R k r) marks.LeftParenthesis _ _ o ts last (is-mark-true marks.LeftParenthesis o p) m (either-choice (is_leading role) _ _ _
    (λ l. miss (mark marks.RightParenthesis) _ _ ts o.span.end (begins-no-close (with_in f) ts d.begins) (miss (mark marks.Ellipsis) _ _ ts o.span.end (begins-no-ellipsis (with_in f) ts d.begins) (inside-reads (R k r) f role last y q h e)))
    (λ l. inside-reads (R k r) f role last y q h e))))
  where
    at-turns : (k r : ℕ) → HeldReads f role ts first more (c ∷ us) k k r → (last : ℕ) → HeldOf first more (record { tokens = ts; last = last }) (c ∷ us) (held_parts (R k r) f role (R k r).fuel (record { tokens = ts; last = last }))
    at-turns k r y = subst (λ n. (last : ℕ) → HeldOf first more (record { tokens = ts; last = last }) (c ∷ us) (held_parts (R k r) f role n (record { tokens = ts; last = last }))) (sym (readers-fuel k r)) y

pub group-claim : (f : Flags) {o c : Filled} {ts us : List Filled} {first held x : Expression} {more : List Expression} → IsMark marks.LeftParenthesis o → HeldClaim f ts (c ∷ us) first more → IsMark marks.RightParenthesis c → held ≡ sequenced first more (across ts (c ∷ us)) → x ≡ expr.Group (across (o ∷ ts) us) held → Claim f 19 (o ∷ ts) us x
group-claim f {o = o} {ts = ts} {us = us} {x = x} p d q h e = claim-primary f (o ∷ ts) us x Grouped refl (parenthesis-begins o p) (group-heads f p d q h e)

-- ## What stands before an arrow

-- a name or a group
pub parameters-claim : (f : Flags) {ts us : List Filled} {y : Expression} {es : List Parameter} (c : Claim f 19 ts us y) → (enough : ℕ) → ((n : ℕ) → enough ≤ n → parameters_before n c.shape y ≡ Fits es) → ParametersClaim f ts us es
parameters-claim f {y = y} c enough becomes = record {
  value = y;
  shape = c.shape;
  begins = c.first (omega arith);
  reads = λ k. c.conditionals (omega arith) k;
  enough = enough;
  becomes = becomes;
}
