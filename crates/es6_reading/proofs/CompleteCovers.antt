-- The parentheses that only an arrow's parameters have, and that are derived, are read exactly so, if their parts are.
use Rattle.std.proofs.Common.{◌≡◌, ℕ, ◌≤◌, true, false, ◌&&◌, List, [], ◌∷◌, ◌++◌, Option, Some, None, refl, sym, ap, subst, ◌∙◌, arith}
use Rattle.es6_lexer.specs.declared.token.Punctuator.{Punctuator as Mark}
use Rattle.es6_lexer.specs.declared.token.Punctuator.TheVariants as marks
use Rattle.es_text.specs.declared.Span.{Span}
use Rattle.es6_ast.specs.declared.tree.Expression.{Expression}
use Rattle.es6_ast.specs.declared.tree.Expression.TheVariants as expr
use Rattle.es6_ast.specs.declared.tree.Identifier.{Identifier}
use Rattle.es6_ast.specs.declared.tree.Parameter.{Parameter}
use Rattle.es6_ast.specs.declared.tree.Rest.{Rest}
use Rattle.es6_ast.specs.declared.settings.Flags.{Flags}
use Rattle.es6_ast.specs.declared.settings.Role.TheVariants.{Leading}
use Rattle.es6_ast.specs.declared.settings.Shape.TheVariants.{Covered}
use Rattle.es6_ast.specs.Settings.{is_leading}
use Rattle.es6_ast.specs.Tokens.{Filled, IsMark, IsOnLine, begin_of, across}
use Rattle.es6_ast.specs.Grammar.{with_in, IsName}
use Rattle.es6_reading.specs.Parser.{Input, Outcome, Took, Parser, after, returns, on, on_taken, next_is, mark, next_mark}
use Rattle.es6_reading.specs.Words.{is_arrow, begins_expression}
use Rattle.es6_reading.specs.Refine.{Refined, Fits, Misfit, TooNested, refined_map, parameters_of, parts_of, rest_parameter, parameters_in, refine_parameters}
use Rattle.es6_reading.specs.Expressions.{Held, held_parts, sequenced, covered, covered_rest, rest_after, held_group, grouped}
use Rattle.es6_reading.proofs.Posts.{Misses}
use Rattle.es6_reading.proofs.Meanings.{is-mark-true, mark-misses}
use Rattle.es6_reading.proofs.Spans.{Moves, ◌⟫◌, span-across}
use Rattle.es6_reading.proofs.Derived.{one}
use Rattle.es6_reading.proofs.Reading.{Eventually, then_, both, pair, turn, begin}
use Rattle.es6_reading.proofs.Exactly.{Exactly, exactly, equal, done, and_then, later, hit, miss, take, if-yes, group-in, mark-hit, if-is}
use Rattle.es6_reading.proofs.CompleteTokens.{parenthesis-begins, Closes, closes-comma, ends-yield, comma-ends-yield}
use Rattle.es6_reading.proofs.CompleteImports.{R, readers-fuel, opened, mark-no-mark, identifier-exact}
use Rattle.es6_reading.proofs.CompleteLevels.{reading, HeadReads, head-chain, chain-update, update-power, no-unary, ConditionalReads, power-conditional}
use Rattle.es6_reading.proofs.CompleteClaims.{Claim, unary-if-operand, stops-if, begins-no-close, begins-no-ellipsis, open-assignment}
use Rattle.es6_reading.proofs.CompleteAssignments.{enough-turns, ParametersClaim}
use Rattle.es6_reading.proofs.CompleteGroups.{paren-head}
use Rattle.es6_reading.proofs.CompleteSwitches.{if-is-yes}

-- ## The parts before a rest

-- these parts and the comma after them are read, and the last of them ends where the comma follows
pub data BeforeRestOf (first : Expression) (more : List Expression) (s : Input) (comma : Filled) (us : List Filled) : Outcome Held → Type 0 where
  before_rest_of : {end : ℕ} → Moves s (record { tokens = comma ∷ us; last = end }) → BeforeRestOf first more s comma us (Took (record { first = first; more = more; end = end; before_rest = true }) (record { tokens = us; last = comma.span.end }))

abbrev pub BeforeRestReads : Flags → List Filled → Expression → List Expression → Filled → List Filled → ℕ → ℕ → ℕ → Type 0
BeforeRestReads f ts first more comma us t k r = (last : ℕ) → BeforeRestOf first more (record { tokens = ts; last = last }) comma us (held_parts (R k r) f Leading t (record { tokens = ts; last = last }))

pub record BeforeRestClaim (f : Flags) (ts : List Filled) (comma : Filled) (us : List Filled) (first : Expression) (more : List Expression) : Type 0 where
  pub begins : next_is (begins_expression (with_in f)) ts ≡ true
  pub reads : Eventually (BeforeRestReads f ts first more comma us)

before-rest-then : {A : Type 0} {x : A} {first : Expression} {more : List Expression} {s : Input} {m : Filled} {us vs : List Filled} {o : Outcome A} (q : A → Parser Held) → Exactly x s us o → ((end : ℕ) → Moves s (record { tokens = us; last = end }) → BeforeRestOf first more s m vs (q x (record { tokens = us; last = end }))) → BeforeRestOf first more s m vs (after o q)
before-rest-then q (exactly m) f = f _ m

then-rest : {A : Type 0} {x : A} {first : Expression} {more : List Expression} {s c : Input} {m : Filled} {us vs : List Filled} {o : Outcome Held} (q : Held → Parser A) → BeforeRestOf first more c m us o
    → ((end : ℕ) → Moves c (record { tokens = m ∷ us; last = end }) → Exactly x s vs (q (record { first = first; more = more; end = end; before_rest = true }) (record { tokens = us; last = m.span.end }))) → Exactly x s vs (after o q)
then-rest q (before_rest_of m) f = f _ m

before-rest-equal : {first : Expression} {more : List Expression} {s : Input} {m : Filled} {us : List Filled} {o o' : Outcome Held} → o ≡ o' → BeforeRestOf first more s m us o' → BeforeRestOf first more s m us o
before-rest-equal {first = first} {more = more} {s = s} {m = m} {us = us} e h = subst (λ r. BeforeRestOf first more s m us r) (sym e) h

-- a part before others
part-before : {x first : Expression} {more : List Expression} {s c : Input} {m : Filled} {us : List Filled} {o : Outcome Held} → Moves s c → BeforeRestOf first more c m us o → BeforeRestOf x (first ∷ more) s m us (after o (λ h. returns (record { first = x; more = h.first ∷ h.more; end = h.end; before_rest = h.before_rest })))
part-before m (before_rest_of k) = before_rest_of (m ⟫ k)

on-hit-is : {A B : Type 0} (test : Filled → Option B) (p : B → Parser A) (q : Parser A) (t : Filled) (b : B) (ts : List Filled) (last : ℕ) → test t ≡ Some b → on test p q (record { tokens = t ∷ ts; last = last }) ≡ p b (record { tokens = ts; last = t.span.end })
on-hit-is test p q t b ts last e = ap (λ o. on_taken o t ts p q (record { tokens = t ∷ ts; last = last })) e

pub before-rest-one : (f : Flags) {m d : Filled} {ts us : List Filled} {x : Expression} → Claim (with_in f) 1 ts (m ∷ d ∷ us) x → IsMark marks.Comma m → IsMark marks.Ellipsis d → BeforeRestClaim f ts m (d ∷ us) x []
unfolding held_parts
before-rest-one f {m = m} {d = d} {us = us} c p q = record {
  begins = c.begins;
  reads = turn (open-assignment c (closes-comma (with_in f) (d ∷ us) m p) (ends-yield 1 m (d ∷ us) (comma-ends-yield m p))) (λ t k r y last.
      before-rest-then _ (y last) (λ end mv. before-rest-equal (on-hit-is (mark marks.Comma) _ _ m m (d ∷ us) end (mark-hit marks.Comma m p) ∙ if-is-yes (λ u. is_leading Leading && next_mark marks.Ellipsis u) _ _ (d ∷ us) m.span.end (is-mark-true marks.Ellipsis d q)) (before_rest_of mv)));
}

misses-mark : (p : Mark) (ts : List Filled) → Misses (mark p) ts → next_is (next_mark p) ts ≡ false
misses-mark p [] h = refl
misses-mark p (t ∷ ts) h = mark-misses p t h

no-ellipsis : (f : Flags) (ts : List Filled) → next_is (begins_expression f) ts ≡ true → next_is (next_mark marks.Ellipsis) ts ≡ false
no-ellipsis f ts h = misses-mark marks.Ellipsis ts (begins-no-ellipsis f ts h)

pub before-rest-next : (f : Flags) {c m : Filled} {ts us vs : List Filled} {x first : Expression} {more : List Expression} → Claim (with_in f) 1 ts (c ∷ us) x → IsMark marks.Comma c → BeforeRestClaim f us m vs first more → BeforeRestClaim f ts m vs x (first ∷ more)
unfolding held_parts
before-rest-next f {c = c} {us = us} d p rest = record {
  begins = d.begins;
  reads = turn (pair (open-assignment d (closes-comma (with_in f) us c p) (ends-yield 1 c us (comma-ends-yield c p))) rest.reads) (λ t k r y last.
      before-rest-then _ (y.0 last) (λ end mv. before-rest-equal (on-hit-is (mark marks.Comma) _ _ c c us end (mark-hit marks.Comma c p) ∙ if-is (λ u. is_leading Leading && next_mark marks.Ellipsis u) _ _ us c.span.end (no-ellipsis (with_in f) us rest.begins))
      (part-before (mv ⟫ one) (y.1 c.span.end))));
}

-- ## What stands in the parentheses

abbrev a_rest : Filled → List Filled → List Filled → Identifier → Rest
a_rest d us vs n = record { span = across (d ∷ us) vs; name = n }

-- a rest and the closing parenthesis, before an arrow
rest-reads : {o c a : Filled} {ts us vs : List Filled} {n : Identifier} {x : Expression} (d : Filled) (held : Option Expression) (last : ℕ) → Moves (record { tokens = o ∷ ts; last = last }) (record { tokens = us; last = d.span.end }) → IsName us n (c ∷ a ∷ vs) → IsMark marks.RightParenthesis c → is_arrow a ≡ true
    → x ≡ expr.Cover (across (o ∷ ts) (a ∷ vs)) held (Some (a_rest d us (c ∷ a ∷ vs) n)) → Exactly (reading x Covered) (record { tokens = o ∷ ts; last = last }) (a ∷ vs) (covered_rest o.span.begin d.span.begin held (record { tokens = us; last = d.span.end }))
unfolding covered_rest covered
rest-reads {o = o} {c = c} {a = a} {ts = ts} {us = us} {vs = vs} {n = n} d held last mv nm q h e = later mv (and_then _ (identifier-exact nm d.span.end) (λ end mv'. take (mark marks.RightParenthesis) _ c c (a ∷ vs) end (mark-hit marks.RightParenthesis c q)
    (if-yes is_arrow _ _ (a ∷ vs) c.span.end h (done (ap (λ z. reading z Covered) (ap (λ s. expr.Cover s held (Some (record { span = record { begin = d.span.begin; end = end }; name = n }))) (span-across ((mv ⟫ mv') ⟫ one))
    ∙ ap (λ s. expr.Cover (across (o ∷ ts) (a ∷ vs)) held (Some (record { span = s; name = n }))) (span-across (one {t = d} {ts = us} {last = 0} ⟫ mv')) ∙ sym e)) (mv' ⟫ one)))))

-- parentheses that are read before an arrow, up to the conditional operator
parentheses-conditional : (f : Flags) {o : Filled} {ts us : List Filled} {x : Expression} → IsMark marks.LeftParenthesis o → HeadReads f Leading (reading x Covered) (o ∷ ts) us → Closes f 2 us → ConditionalReads f (reading x Covered) (o ∷ ts) us
parentheses-conditional f {o = o} {ts = ts} {us = us} {x = x} p h c =
    let b = parenthesis-begins o p in
    power-conditional f (reading x Covered) (o ∷ ts) us (update-power f Leading (reading x Covered) (o ∷ ts) us
    (chain-update f Leading (reading x Covered) (o ∷ ts) us (head-chain f Leading (reading x Covered) (o ∷ ts) us h (stops-if f 2 us (omega arith) c)) b (c.after (omega arith))) (no-unary (o ∷ ts) b) (c.raised (omega arith))) c

parentheses-claim : (f : Flags) {o : Filled} {ts us : List Filled} {x : Expression} {es : List Parameter} → IsMark marks.LeftParenthesis o → HeadReads f Leading (reading x Covered) (o ∷ ts) us → (enough : ℕ) → ((n : ℕ) → enough ≤ n → refine_parameters n x ≡ Fits es) → ParametersClaim f (o ∷ ts) us es
parentheses-claim f {o = o} {ts = ts} {x = x} p h enough becomes = record {
  value = x;
  shape = Covered;
  begins = unary-if-operand (o ∷ ts) (parenthesis-begins o p);
  reads = λ c. parentheses-conditional f p h c;
  enough = enough;
  becomes = becomes;
}

-- ## Parentheses before an arrow

-- they are derived, and the parts in them are read
pub data CoverClaim (f : Flags) : List Filled → Expression → List Filled → Type 0 where
  empty_claim : {o c : Filled} {ts : List Filled} {x : Expression} (span : Span) → IsMark marks.LeftParenthesis o → IsMark marks.RightParenthesis c → x ≡ expr.Cover span None None → CoverClaim f (o ∷ c ∷ ts) x ts
  rest_claim : {o d c : Filled} {ts us : List Filled} {n : Identifier} {x : Expression} (span : Span) → IsMark marks.LeftParenthesis o → IsMark marks.Ellipsis d → IsName ts n (c ∷ us) → IsMark marks.RightParenthesis c → x ≡ expr.Cover span None (Some (a_rest d ts (c ∷ us) n)) → CoverClaim f (o ∷ d ∷ ts) x us
  held_claim : {o m d c : Filled} {ts us vs : List Filled} {n : Identifier} {first held x : Expression} {more : List Expression} (span : Span) → IsMark marks.LeftParenthesis o → BeforeRestClaim f ts m (d ∷ us) first more → held ≡ sequenced first more (across ts (m ∷ d ∷ us)) → parts_of held ≡ first ∷ more
      → IsMark marks.Ellipsis d → IsName us n (c ∷ vs) → IsMark marks.RightParenthesis c → x ≡ expr.Cover span (Some held) (Some (a_rest d us (c ∷ vs) n)) → CoverClaim f (o ∷ ts) x vs

-- where the span counts nothing
empty-anywhere : (n : ℕ) (s z : Span) → refine_parameters n (expr.Cover s None None) ≡ refine_parameters n (expr.Cover z None None)
unfolding refine_parameters
empty-anywhere n s z = simp expr.outs-Cover

rest-anywhere : (n : ℕ) (s z : Span) (rest : Rest) → refine_parameters n (expr.Cover s None (Some rest)) ≡ refine_parameters n (expr.Cover z None (Some rest))
unfolding refine_parameters
rest-anywhere n s z rest = simp expr.outs-Cover

held-anywhere : (n : ℕ) (s z : Span) (held : Expression) (rest : Rest) → refine_parameters n (expr.Cover s (Some held) (Some rest)) ≡ refine_parameters n (expr.Cover z (Some held) (Some rest))
unfolding refine_parameters
held-anywhere n s z held rest = simp expr.outs-Cover

on-line : (t : Filled) → IsMark marks.Arrow t → IsOnLine t → is_arrow t ≡ true
on-line t h l = rw (is-mark-true marks.Arrow t h, l) refl

empty-head : (f : Flags) {o c a : Filled} {us : List Filled} → IsMark marks.LeftParenthesis o → IsMark marks.RightParenthesis c → is_arrow a ≡ true → HeadReads f Leading (reading (expr.Cover (across (o ∷ c ∷ a ∷ us) (a ∷ us)) None None) Covered) (o ∷ c ∷ a ∷ us) (a ∷ us)
unfolding grouped covered
empty-head f {o = o} {c = c} {a = a} {us = us} p q h = then_ opened (λ n k r m last. equal (paren-head (R k r) f Leading o (c ∷ a ∷ us) last p) (group-in (R k r) marks.LeftParenthesis _ _ o (c ∷ a ∷ us) last (is-mark-true marks.LeftParenthesis o p) m
    (hit (mark marks.RightParenthesis) _ _ c c (a ∷ us) o.span.end (mark-hit marks.RightParenthesis c q) (if-yes is_arrow _ _ (a ∷ us) c.span.end h (done (ap (λ s. reading (expr.Cover s None None) Covered) (span-across (two last))) (two last))))))
  where
    two : (last : ℕ) → Moves (record { tokens = o ∷ c ∷ a ∷ us; last = last }) (record { tokens = a ∷ us; last = c.span.end })
    two last = one {t = o} {ts = c ∷ a ∷ us} {last = last} ⟫ one {t = c} {ts = a ∷ us} {last = o.span.end}

rest-head : (f : Flags) {o d c a : Filled} {ts us : List Filled} {n : Identifier} → IsMark marks.LeftParenthesis o → IsMark marks.Ellipsis d → IsName ts n (c ∷ a ∷ us) → IsMark marks.RightParenthesis c → is_arrow a ≡ true
    → HeadReads f Leading (reading (expr.Cover (across (o ∷ d ∷ ts) (a ∷ us)) None (Some (a_rest d ts (c ∷ a ∷ us) n))) Covered) (o ∷ d ∷ ts) (a ∷ us)
unfolding grouped
rest-head f {o = o} {d = d} {ts = ts} p r nm q h = then_ opened (λ n k r' m last. equal (paren-head (R k r') f Leading o (d ∷ ts) last p) (group-in (R k r') marks.LeftParenthesis _ _ o (d ∷ ts) last (is-mark-true marks.LeftParenthesis o p) m
    (miss (mark marks.RightParenthesis) _ _ (d ∷ ts) o.span.end (mark-no-mark marks.RightParenthesis marks.Ellipsis d r refl) (hit (mark marks.Ellipsis) _ _ d d ts o.span.end (mark-hit marks.Ellipsis d r)
    (rest-reads d None last (one {t = o} {ts = d ∷ ts} {last = last} ⟫ one {t = d} {ts = ts} {last = o.span.end}) nm q h refl)))))

-- the parts before a rest are refined
abbrev AreParameters : Expression → List Expression → ℕ → Type 0
AreParameters first more n = (es : List Parameter) × (parameters_of n (first ∷ more) ≡ Fits es)

held-head : (f : Flags) {o m d c a : Filled} {ts us vs : List Filled} {n : Identifier} {first held : Expression} {more : List Expression} → IsMark marks.LeftParenthesis o → BeforeRestClaim f ts m (d ∷ us) first more → held ≡ sequenced first more (across ts (m ∷ d ∷ us)) → IsMark marks.Ellipsis d → IsName us n (c ∷ a ∷ vs)
    → IsMark marks.RightParenthesis c → is_arrow a ≡ true → (enough : ℕ) → ((n : ℕ) → enough ≤ n → AreParameters first more n) → HeadReads f Leading (reading (expr.Cover (across (o ∷ ts) (a ∷ vs)) (Some held) (Some (a_rest d us (c ∷ a ∷ vs) n))) Covered) (o ∷ ts) (a ∷ vs)
unfolding grouped held_group
held-head f {o = o} {m = m} {d = d} {c = c} {a = a} {ts = ts} {us = us} {vs = vs} {n = n} {first = first} {held = held} {more = more} p b w r nm q h enough fit = both opened (pair (enough-turns {P = AreParameters first more} enough fit) (begin b.reads (λ t k r' y. at-turns k r' y))) (λ t k r' e y last.
    equal (paren-head (R k r') f Leading o ts last p) (group-in (R k r') marks.LeftParenthesis _ _ o ts last (is-mark-true marks.LeftParenthesis o p) e
    (miss (mark marks.RightParenthesis) _ _ ts o.span.end (begins-no-close (with_in f) ts b.begins) (miss (mark marks.Ellipsis) _ _ ts o.span.end (begins-no-ellipsis (with_in f) ts b.begins)
    (then-rest _ (y.1 o.span.end) (λ end mv. equal (ap (λ z. rest_after o.span.begin d.span.begin (sequenced first more (record { begin = begin_of ts; end = end })) z (record { tokens = d ∷ us; last = m.span.end })) y.0.1)
    (hit (mark marks.Ellipsis) _ _ d d us m.span.end (mark-hit marks.Ellipsis d r) (rest-reads d _ last (((one {t = o} {ts = ts} {last = last} ⟫ mv) ⟫ one) ⟫ one) nm q h
    (ap (λ z. expr.Cover (across (o ∷ ts) (a ∷ vs)) (Some z) (Some (a_rest d us (c ∷ a ∷ vs) n))) (w ∙ ap (λ s. sequenced first more s) (sym (span-across mv))))))))))))
  where
    at-turns : (k r : ℕ) → BeforeRestReads f ts first more m (d ∷ us) k k r → (last : ℕ) → BeforeRestOf first more (record { tokens = ts; last = last }) m (d ∷ us) (held_parts (R k r) f Leading (R k r).fuel (record { tokens = ts; last = last }))
    at-turns k r y = subst (λ j. (last : ℕ) → BeforeRestOf first more (record { tokens = ts; last = last }) m (d ∷ us) (held_parts (R k r) f Leading j (record { tokens = ts; last = last }))) (sym (readers-fuel k r)) y

fits-within : {A B : Type 0} (k : A → B) (r : Refined A) (y : B) → refined_map k r ≡ Fits y → (x : A) × (r ≡ Fits x)
fits-within k (Fits x) y h = (x, refl)
fits-within k (Misfit at) y h = absurd (cc)
fits-within k TooNested y h = absurd (cc)

held-fits : (n : ℕ) (span : Span) (held first : Expression) (more : List Expression) (rest : Rest) (es : List Parameter) → parts_of held ≡ first ∷ more → refine_parameters n (expr.Cover span (Some held) (Some rest)) ≡ Fits es → AreParameters first more n
unfolding refine_parameters
held-fits n span held first more rest es s h = fits-within (λ ds. ds ++ rest_parameter rest ∷ []) (parameters_of n (first ∷ more)) es (ap (λ xs. refined_map (λ ds. ds ++ rest_parameter rest ∷ []) (parameters_of n xs)) (sym s) ∙ ap (λ l. parameters_in n l) (sym (expr.outs-Cover span (Some held) (Some rest))) ∙ h)

-- What stands before an arrow, if the parameters that it is refined to are the arrow's.
pub cover-claim : (f : Flags) {a : Filled} {ts us : List Filled} {x : Expression} {es : List Parameter} → CoverClaim f ts x (a ∷ us) → IsMark marks.Arrow a → IsOnLine a → (enough : ℕ) → ((n : ℕ) → enough ≤ n → refine_parameters n x ≡ Fits es) → ParametersClaim f ts (a ∷ us) es
cover-claim f {a = a} (empty_claim span p q e) h l enough becomes = parentheses-claim f p (empty-head f p q (on-line a h l)) enough (λ n m. empty-anywhere n _ span ∙ ap (λ x. refine_parameters n x) (sym e) ∙ becomes n m)
cover-claim f {a = a} (rest_claim span p d nm q e) h l enough becomes = parentheses-claim f p (rest-head f p d nm q (on-line a h l)) enough (λ n m. rest-anywhere n _ span _ ∙ ap (λ x. refine_parameters n x) (sym e) ∙ becomes n m)
cover-claim f {a = a} {es = es} (held_claim span p b w s r nm q e) h l enough becomes = parentheses-claim f p (held-head f p b w r nm q (on-line a h l) enough (λ n m. held-fits n span _ _ _ _ es s (ap (λ x. refine_parameters n x) (sym e) ∙ becomes n m))) enough
    (λ n m. held-anywhere n _ span _ _ ∙ ap (λ x. refine_parameters n x) (sym e) ∙ becomes n m)
