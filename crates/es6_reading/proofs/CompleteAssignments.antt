-- Assignments, arrow functions and `yield` that are derived are read exactly so, if their parts are.
use Rattle.std.proofs.Common.{◌≡◌, ℕ, ◌≤◌, Bool, true, false, ◌&&◌, ◌||◌, not, cond, List, [], ◌∷◌, Some, None, refl, sym, ap, subst, ◌∙◌, arith}
use Rattle.std.proofs.lemmas.Bool.{false≢true}
use Rattle.std.specs.Prelude.{codes}
use Rattle.es_outside.specs.HostNames.{reserved_words}
use Rattle.es6_lexer.specs.declared.token.TokenKind.TheVariants as kinds
use Rattle.es6_lexer.specs.declared.token.Punctuator.{Punctuator as Mark}
use Rattle.es6_lexer.specs.declared.token.Punctuator.TheVariants as marks
use Rattle.es6_ast.specs.declared.operators.AssignOperator.{AssignOperator}
use Rattle.es6_ast.specs.declared.operators.AssignOperator.TheVariants as assign
use Rattle.es6_ast.specs.declared.tree.Block.{Block}
use Rattle.es6_ast.specs.declared.tree.Expression.{Expression}
use Rattle.es6_ast.specs.declared.tree.Expression.TheVariants as expr
use Rattle.es6_ast.specs.declared.tree.Parameter.{Parameter}
use Rattle.es6_ast.specs.declared.tree.Pattern.{Pattern}
use Rattle.es6_ast.specs.declared.tree.Arrow.{roll-Arrow}
use Rattle.es6_ast.specs.declared.tree.ArrowBody.{ArrowBody}
use Rattle.es6_ast.specs.declared.tree.ArrowBody.TheVariants.{ValueBody, BlockBody}
use Rattle.es6_ast.specs.declared.settings.Flags.{Flags}
use Rattle.es6_ast.specs.declared.settings.Shape.{Shape}
use Rattle.es6_ast.specs.declared.settings.Shape.TheVariants.{Other}
use Rattle.es6_ast.specs.Tokens.{Filling, Read, Inserted, Filled, IsWord, IsMark, IsOnLine, begin_of, across}
use Rattle.es6_ast.specs.Grammar.{of_function, of_arrow, assign_kind}
use Rattle.es6_reading.specs.Parser.{next_is, is_mark, mark, word, next_mark, is_left}
use Rattle.es6_reading.specs.Words.{unless, assign_at, is_arrow, arrow_at, unary_operators, operand_words, begins_operand, begins_unary, begins_expression}
use Rattle.es6_reading.specs.Refine.{Fits, target_before}
use Rattle.es6_reading.specs.Expressions.{fitting, parameters_before, arrow_if, arrow_body, assigned_with, after_conditional, star_at, ends_value, ends_yield, after_yield, without_yield, assignment}
use Rattle.es6_reading.proofs.Posts.{Misses}
use Rattle.es6_reading.proofs.Meanings.{is-mark-true}
use Rattle.es6_reading.proofs.Spans.{Moves, ◌⟫◌, span-across}
use Rattle.es6_reading.proofs.Derived.{one}
use Rattle.es6_reading.proofs.Reading.{Eventually, always, then_, both, pair}
use Rattle.es6_reading.proofs.Exactly.{Exactly, ReadsExactly, equal, done, and_then, later, hit, miss, if-yes, if-no, chosen, known, mark-hit, word-hit}
use Rattle.es6_reading.proofs.CompleteTokens.{at-kind, no-mark, mark-miss, yield-begins, Closes, closes-up, closes-assign, closes-arrow, EndsYield, assign-hit}
use Rattle.es6_reading.proofs.CompleteImports.{R, readers-fuel}
use Rattle.es6_reading.proofs.CompleteLevels.{reading, ConditionalReads, from-without-yield, from-assignment}
use Rattle.es6_reading.proofs.CompleteClaims.{Claim, claim-other, expression-if-unary, begins-no-star, open-assignment}

no-two : 2 ≤ 1 → ⊥
no-two l = omega arith

-- what holds for turns enough
pub enough-turns : {P : ℕ → Type 0} (enough : ℕ) → ((n : ℕ) → enough ≤ n → P n) → Eventually (λ t k r. P (R k r).fuel)
enough-turns enough h = record { bound = enough; reads = λ t k r a b c. h (R k r).fuel (subst (λ n. enough ≤ n) (sym (readers-fuel k r)) b) }

-- ## Assignments

assign-no-arrow : (op : AssignOperator) (t : Filled) → t.kind ≡ Read (assign_kind op) → is_arrow t ≡ false
assign-no-arrow assign.Assign t e = at-kind (λ u. is_arrow u ≡ false) t _ e refl
assign-no-arrow assign.MultiplyAssign t e = at-kind (λ u. is_arrow u ≡ false) t _ e refl
assign-no-arrow assign.DivideAssign t e = at-kind (λ u. is_arrow u ≡ false) t _ e refl
assign-no-arrow assign.RemainderAssign t e = at-kind (λ u. is_arrow u ≡ false) t _ e refl
assign-no-arrow assign.AddAssign t e = at-kind (λ u. is_arrow u ≡ false) t _ e refl
assign-no-arrow assign.SubtractAssign t e = at-kind (λ u. is_arrow u ≡ false) t _ e refl
assign-no-arrow assign.ShiftLeftAssign t e = at-kind (λ u. is_arrow u ≡ false) t _ e refl
assign-no-arrow assign.ShiftRightAssign t e = at-kind (λ u. is_arrow u ≡ false) t _ e refl
assign-no-arrow assign.ShiftRightUnsignedAssign t e = at-kind (λ u. is_arrow u ≡ false) t _ e refl
assign-no-arrow assign.BitAndAssign t e = at-kind (λ u. is_arrow u ≡ false) t _ e refl
assign-no-arrow assign.BitXorAssign t e = at-kind (λ u. is_arrow u ≡ false) t _ e refl
assign-no-arrow assign.BitOrAssign t e = at-kind (λ u. is_arrow u ≡ false) t _ e refl
assign-no-arrow assign.PowerAssign t e = at-kind (λ u. is_arrow u ≡ false) t _ e refl

-- the expression is refined to the target, where it is looked into deep enough
pub assignment-claim : (f : Flags) {t : Filled} {ts us vs : List Filled} {y value x : Expression} {target : Pattern} (op : AssignOperator) → Claim f 16 ts (t ∷ us) y → (enough : ℕ) → ((n : ℕ) → enough ≤ n → target_before n op y ≡ Fits target) → t.kind ≡ Read (assign_kind op) → Claim f 1 us vs value → x ≡ expr.Assign (across ts vs) op target value → Claim f 1 ts vs x
unfolding without_yield after_conditional assigned_with
assignment-claim f {t = t} {ts = ts} {us = us} {vs = vs} {y = y} {value = value} {x = x} {target = target} op c enough becomes h v e = claim-other f 1 ts vs x Other (omega arith) c.begins (λ l. c.first (omega arith)) (λ least w l k ends.
    from-assignment f (reading x Other) ts vs (from-without-yield f (reading x Other) ts vs (c.first (omega arith)) (both (enough-turns {P = λ n. target_before n op y ≡ Fits target} enough becomes) (pair (c.conditionals (omega arith) (closes-assign f us t op h)) (open-assignment v (closes-up f least 1 vs l k) ends)) (λ n k' r a z last.
    and_then _ (z.0 last) (λ end mv. if-no is_arrow _ _ (t ∷ us) end (assign-no-arrow op t h) (chosen (is_left c.shape) _ _ _ (c.left (omega arith)) (hit assign_at _ _ t op us end (assign-hit t op h)
    (known _ (ap (λ o. fitting o (record { tokens = us; last = t.span.end })) a) (and_then _ (later (mv ⟫ one) (z.1 t.span.end)) (λ end' mv'. done (ap (λ z. reading z Other) (ap (λ s. expr.Assign s op target value) (span-across mv') ∙ sym e)) mv')))))))))
    least w l k)

-- ## Arrow functions

-- what stands before an arrow: it is refined to the parameters, where it is looked into deep enough
pub record ParametersClaim (f : Flags) (ts us : List Filled) (es : List Parameter) : Type 0 where
  pub value : Expression
  pub shape : Shape
  pub begins : next_is begins_unary ts ≡ true
  pub reads : Closes f 2 us → ConditionalReads f (reading value shape) ts us
  pub enough : ℕ
  pub becomes : (n : ℕ) → enough ≤ n → parameters_before n shape value ≡ Fits es

-- a block, or a value that begins with no brace
pub data BodyClaim (f : Flags) : List Filled → ArrowBody → List Filled → Type 0 where
  block_claim : {ts us : List Filled} {b : Block} {body : ArrowBody} → next_is (next_mark marks.LeftBrace) ts ≡ true → Eventually (λ t k r. ReadsExactly ((R k r).block (of_function false)) b ts us) → body ≡ BlockBody b → BodyClaim f ts body us
  value_claim : {ts us : List Filled} {value : Expression} {body : ArrowBody} → next_is (next_mark marks.LeftBrace) ts ≡ false → Claim (of_arrow f) 1 ts us value → body ≡ ValueBody value → BodyClaim f ts body us

abbrev arrow_of : List Filled → List Filled → List Parameter → ArrowBody → Expression
arrow_of ts us es body = expr.Arrow (roll-Arrow (record { span = across ts us; parameters = es; body = body }))

same-closes : (f : Flags) (least : ℕ) (us : List Filled) → Closes f least us → Closes (of_arrow f) least us
same-closes f least us c = record { dot = c.dot; bracket = c.bracket; template = c.template; paren = c.paren; after = c.after; raised = c.raised; operator = c.operator; question = c.question; arrow = c.arrow; assigns = c.assigns; comma = c.comma }

BodyReads : Flags → List Filled → List Parameter → ArrowBody → List Filled → List Filled → ℕ → ℕ → ℕ → Type 0
BodyReads f ts es body us vs n k r = (last end : ℕ) → Moves (record { tokens = ts; last = last }) (record { tokens = us; last = end }) → Exactly (reading (arrow_of ts vs es body) Other) (record { tokens = ts; last = last }) vs (arrow_body (R k r) f (begin_of ts) es (record { tokens = us; last = end }))

body-reads : (f : Flags) (ts : List Filled) (es : List Parameter) {us vs : List Filled} {body : ArrowBody} → BodyClaim f us body vs → Closes f 1 vs → EndsYield 1 vs → Eventually (BodyReads f ts es body us vs)
unfolding arrow_body BodyReads
body-reads f ts es {us = us} {vs = vs} (block_claim {b = b} p d e) c y = then_ d (λ n k r z last end mv. if-yes (next_mark marks.LeftBrace) _ _ us end p
    (and_then _ (later mv (z end)) (λ end' mv'. done (ap (λ w. reading w Other) (ap (λ s. expr.Arrow (roll-Arrow (record { span = s; parameters = es; body = BlockBody b }))) (span-across mv') ∙ ap (λ q. arrow_of ts vs es q) (sym e))) mv')))
body-reads f ts es {us = us} {vs = vs} (value_claim {value = value} p d e) c y = then_ (open-assignment d (same-closes f 1 vs c) y) (λ n k r z last end mv. if-no (next_mark marks.LeftBrace) _ _ us end p
    (and_then _ (later mv (z end)) (λ end' mv'. done (ap (λ w. reading w Other) (ap (λ s. expr.Arrow (roll-Arrow (record { span = s; parameters = es; body = ValueBody value }))) (span-across mv') ∙ ap (λ q. arrow_of ts vs es q) (sym e))) mv')))

arrow-hit : (t : Filled) → IsMark marks.Arrow t → IsOnLine t → (is_arrow t ≡ true) × (arrow_at t ≡ Some t)
arrow-hit t h l = (rw (is-mark-true marks.Arrow t h, l) refl, ap (λ b. unless b (cond (is_mark marks.Arrow t.kind) (Some t) None)) l ∙ ap (λ b. cond b (Some t) None) (is-mark-true marks.Arrow t h))

pub arrow-claim : (f : Flags) {t : Filled} {ts us vs : List Filled} {es : List Parameter} {body : ArrowBody} {x : Expression} → ParametersClaim f ts (t ∷ us) es → IsMark marks.Arrow t → IsOnLine t → BodyClaim f us body vs → x ≡ arrow_of ts vs es body → Claim f 1 ts vs x
unfolding without_yield after_conditional BodyReads
arrow-claim f {t = t} {ts = ts} {us = us} {vs = vs} {es = es} {body = body} {x = x} p h o d e = claim-other f 1 ts vs x Other (omega arith) (expression-if-unary f ts p.begins) (λ l. p.begins) (λ least w l k ends.
    from-assignment f (reading x Other) ts vs (from-without-yield f (reading x Other) ts vs p.begins (both (enough-turns {P = λ n. parameters_before n p.shape p.value ≡ Fits es} p.enough p.becomes) (pair (p.reads (closes-arrow f us t h)) (body-reads f ts es d (closes-up f least 1 vs l k) ends)) (λ n k' r a z last.
    and_then _ (z.0 last) (λ end mv. if-yes is_arrow _ _ (t ∷ us) end (arrow-hit t h o).0 (equal (ap (λ w. arrow_if (R k' r) f (begin_of ts) (reading p.value p.shape) w (record { tokens = t ∷ us; last = end })) a)
    (hit arrow_at _ _ t t us end (arrow-hit t h o).1 (subst (λ w. Exactly (reading w Other) (record { tokens = ts; last = last }) vs (arrow_body (R k' r) f (begin_of ts) es (record { tokens = us; last = t.span.end }))) (sym e) (z.1 last t.span.end (mv ⟫ one)))))))))
    least w l k)

-- ## `yield`

not-false : (b : Bool) → not b ≡ false → b ≡ true
not-false true h = refl
not-false false h = absurd (false≢true (sym h))

no-star : (ts : List Filled) → next_is (λ t. not (ends_yield t)) ts ≡ false → Misses star_at ts
unfolding ends_yield
no-star [] h = tt
no-star (t ∷ ts) h = by t.newline refl
  where
    by : (b : Bool) → t.newline ≡ b → cond b None (mark marks.Star t) ≡ None
    by true e = refl
    by false e = mark-miss marks.Star t (no-mark ends_yield marks.Star t (not-false (ends_yield t) h) (ap (λ b. b || false) e))

pub yield-claim : (f : Flags) {t : Filled} {ts : List Filled} {x : Expression} → f.has_yield ≡ true → IsWord (codes "yield") t → x ≡ expr.Yield t.span None → Claim f 1 (t ∷ ts) ts x
unfolding assignment after_yield
yield-claim f {t = t} {ts = ts} {x = x} h w e = claim-other f 1 (t ∷ ts) ts x Other (omega arith) (yield-begins f t h w) (λ l. absurd (no-two l)) (λ least v l k y. from-assignment f (reading x Other) (t ∷ ts) ts (always (λ n k' r last.
    chosen f.has_yield _ _ _ h (hit (word (codes "yield")) _ _ t t ts last (word-hit (codes "yield") t w) (miss star_at _ _ ts t.span.end (no-star ts (y (omega arith)))
    (if-no (λ u. not (ends_yield u)) _ _ ts t.span.end (y (omega arith)) (done (ap (λ z. reading z Other) (sym e)) one)))))) least v l k)

pub delegate-claim : (f : Flags) {t s : Filled} {ts us : List Filled} {value x : Expression} → f.has_yield ≡ true → IsWord (codes "yield") t → IsMark marks.Star s → IsOnLine s → Claim f 1 ts us value → x ≡ expr.Delegate (across (t ∷ s ∷ ts) us) value → Claim f 1 (t ∷ s ∷ ts) us x
unfolding assignment after_yield
delegate-claim f {t = t} {s = s} {ts = ts} {us = us} {value = value} {x = x} h w p o c e = claim-other f 1 (t ∷ s ∷ ts) us x Other (omega arith) (yield-begins f t h w) (λ l. absurd (no-two l)) (λ least v l k y.
    from-assignment f (reading x Other) (t ∷ s ∷ ts) us (then_ (open-assignment c (closes-up f least 1 us l k) y) (λ n k' r z last.
    chosen f.has_yield _ _ _ h (hit (word (codes "yield")) _ _ t t (s ∷ ts) last (word-hit (codes "yield") t w) (hit star_at _ _ s s ts t.span.end (ap (λ b. cond b None (mark marks.Star s)) o ∙ mark-hit marks.Star s p)
    (and_then _ (later (one ⟫ one) (z s.span.end)) (λ end mv. done (ap (λ z. reading z Other) (ap (λ q. expr.Delegate q value) (span-across mv) ∙ sym e)) mv)))))) least v l k)

-- what begins an expression ends no `yield`
and-false : (b : Bool) → (b && false) ≡ false
and-false true = refl
and-false false = refl

abbrev as_kind : Filled → Filling → Filled
as_kind u k = record { kind = k; span = u.span; newline = u.newline }

no-mark-in : (f : Flags) (u : Filled) (p q : Mark) → begins_expression f (as_kind u (Read (kinds.Punctuator p))) ≡ true → begins_expression f (as_kind u (Read (kinds.Punctuator q))) ≡ false → is_mark q (Read (kinds.Punctuator p)) ≡ false
no-mark-in f u p q h n = no-mark (begins_expression f) q (as_kind u (Read (kinds.Punctuator p))) h n

six : (a b c d e g : Bool) → a ≡ false → b ≡ false → c ≡ false → d ≡ false → e ≡ false → g ≡ false → (a || b || c || d || e || g) ≡ false
six a b c d e g h i j k l m = rw (h, i, j, k, l, m) refl

value-goes-on : (f : Flags) (u : Filled) (k : Filling) → begins_expression f (as_kind u k) ≡ true → ends_value k ≡ false
unfolding begins_expression begins_unary begins_operand reserved_words operand_words unary_operators
value-goes-on f u (Inserted d) h = absurd (false≢true (sym (and-false f.has_yield) ∙ h))
value-goes-on f u (Read kinds.End) h = absurd (false≢true (sym (and-false f.has_yield) ∙ h))
value-goes-on f u (Read (kinds.Template cooked raw true last)) h = refl
value-goes-on f u (Read (kinds.Template cooked raw false last)) h = absurd (false≢true (sym (and-false f.has_yield) ∙ h))
value-goes-on f u (Read (kinds.Punctuator p)) h = six _ _ _ _ _ _
    (no-mark-in f u p marks.RightParenthesis h (and-false f.has_yield)) (no-mark-in f u p marks.RightBracket h (and-false f.has_yield)) (no-mark-in f u p marks.RightBrace h (and-false f.has_yield))
    (no-mark-in f u p marks.Comma h (and-false f.has_yield)) (no-mark-in f u p marks.Semicolon h (and-false f.has_yield)) (no-mark-in f u p marks.Colon h (and-false f.has_yield))
value-goes-on f u (Read k) h = refl

goes-on : (f : Flags) (u : Filled) → begins_expression f u ≡ true → IsOnLine u → ends_yield u ≡ false
unfolding ends_yield
goes-on f u h o = ap (λ b. b || ends_value u.kind) o ∙ value-goes-on f u u.kind h

pub yield-value-claim : (f : Flags) {t u : Filled} {ts us : List Filled} {value x : Expression} → f.has_yield ≡ true → IsWord (codes "yield") t → IsOnLine u → Claim f 1 (u ∷ ts) us value → x ≡ expr.Yield (across (t ∷ u ∷ ts) us) (Some value) → Claim f 1 (t ∷ u ∷ ts) us x
unfolding assignment after_yield
yield-value-claim f {t = t} {u = u} {ts = ts} {us = us} {value = value} {x = x} h w o c e = claim-other f 1 (t ∷ u ∷ ts) us x Other (omega arith) (yield-begins f t h w) (λ l. absurd (no-two l)) (λ least v l k y.
    from-assignment f (reading x Other) (t ∷ u ∷ ts) us (then_ (open-assignment c (closes-up f least 1 us l k) y) (λ n k' r z last.
    chosen f.has_yield _ _ _ h (hit (word (codes "yield")) _ _ t t (u ∷ ts) last (word-hit (codes "yield") t w)
    (miss star_at _ _ (u ∷ ts) t.span.end (ap (λ b. cond b None (mark marks.Star u)) o ∙ begins-no-star f (u ∷ ts) c.begins)
    (if-yes (λ v. not (ends_yield v)) _ _ (u ∷ ts) t.span.end (ap not (goes-on f u c.begins o))
    (and_then _ (later one (z t.span.end)) (λ end mv. done (ap (λ z. reading z Other) (ap (λ q. expr.Yield q (Some value)) (span-across mv) ∙ sym e)) mv))))))) least v l k)
