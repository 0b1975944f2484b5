-- For statements that are derived are read exactly so, if their parts are.
use Rattle.std.proofs.Common.{◌≡◌, ℕ, ◌≤◌, true, false, List, [], ◌∷◌, Option, Some, None, refl, sym, ap, subst, ◌∙◌, arith}
use Rattle.std.specs.Prelude.{codes, is_some}
use Rattle.es_outside.specs.HostNames.{reserved_words}
use Rattle.es6_lexer.specs.declared.token.TokenKind.TheVariants as kinds
use Rattle.es6_lexer.specs.declared.token.Punctuator.{Punctuator as Mark}
use Rattle.es6_lexer.specs.declared.token.Punctuator.TheVariants as marks
use Rattle.es6_ast.specs.declared.operators.AssignOperator.TheVariants as assign
use Rattle.es6_ast.specs.declared.operators.VariableKind.{VariableKind}
use Rattle.es6_ast.specs.declared.operators.VariableKind.TheVariants.{Var, Let, Const}
use Rattle.es6_ast.specs.declared.tree.Expression.{Expression}
use Rattle.es6_ast.specs.declared.tree.Statement.{Statement}
use Rattle.es6_ast.specs.declared.tree.Pattern.{Pattern}
use Rattle.es6_ast.specs.declared.tree.Part.{Part, roll-Part}
use Rattle.es6_ast.specs.declared.tree.ForFirst.{ForFirst}
use Rattle.es6_ast.specs.declared.tree.ForFirst.TheVariants.{NoFirst, FirstVariables, FirstExpression}
use Rattle.es6_ast.specs.declared.tree.ForTarget.{ForTarget}
use Rattle.es6_ast.specs.declared.tree.ForTarget.TheVariants.{Declared, Assigned}
use Rattle.es6_ast.specs.declared.settings.Flags.{Flags}
use Rattle.es6_ast.specs.declared.settings.Stand.TheVariants.{Under}
use Rattle.es6_ast.specs.Tokens.{Filled, IsWord, IsMark, is_word, across}
use Rattle.es6_ast.specs.Grammar.{with_in, without_in, IsEnd, kind_word}
use Rattle.es6_reading.specs.Parser.{Input, next_is, mark, word, next_word, choose, is_left, Inner}
use Rattle.es6_reading.specs.Words.{look_up, kind_at, unary_operators, operand_words, begins_operand, begins_unary, begins_expression}
use Rattle.es6_reading.specs.Refine.{Fits, target_before}
use Rattle.es6_reading.specs.Parts.{initialized}
use Rattle.es6_reading.specs.Expressions.{ends_yield, fitting}
use Rattle.es6_reading.specs.Statements.{is_whole, variables, Header, ForHeader, OfHeader, optional, rest_of_for, rest_of_of, first_variables, after_first_variable, after_bare_variable, for_variables, first_expression, assigned_in_turn, for_expression, for_header, loop_of, for_statement}
use Rattle.es6_reading.specs.Modules.{readers}
use Rattle.es6_reading.proofs.Posts.{Misses}
use Rattle.es6_reading.proofs.Meanings.{is-mark-true}
use Rattle.es6_reading.proofs.Spans.{Moves, ◌⟫◌, span-across}
use Rattle.es6_reading.proofs.Derived.{one}
use Rattle.es6_reading.proofs.Reading.{Eventually, then_, always, both, pair, deeper, begin}
use Rattle.es6_reading.proofs.Exactly.{Exactly, ReadsExactly, done, and_then, later, hit, miss, take, if-yes, if-no, chosen, either-choice, group-in, known, mark-hit, word-hit, is-word-true}
use Rattle.es6_reading.proofs.CompleteTokens.{at-kind, cond-false, Closes, closes-close, closes-semicolon, closes-of, closes-up, close-ends-yield, semicolon-ends-yield, ends-yield}
use Rattle.es6_reading.proofs.CompleteImports.{R, at-fuel, opened, mark-no-mark, mark-no-word, word-no-mark}
use Rattle.es6_reading.proofs.CompleteClaims.{Claim, begins-no-semicolon, begins-no-close, open-sequence, open-assignment}
use Rattle.es6_reading.proofs.CompleteLists.{Ends, ends-comma}
use Rattle.es6_reading.proofs.CompleteStatements.{Quiet, StatementClaim, open-statement, end-ends, AfterWord, BindingRead, VariableClaim, VariableItems, item_last, item_next, list-reads}
use Rattle.es6_reading.proofs.CompletePlain.{no-keyword}

-- ## Optional expressions

pub data OptionalClaim (f : Flags) : List Filled → Option Expression → List Filled → Type 0 where
  absent_claim : {ts : List Filled} → OptionalClaim f ts None ts
  present_claim : {ts us : List Filled} {y : Expression} → Claim (with_in f) 0 ts us y → OptionalClaim f ts (Some y) us

optional-reads : (f : Flags) (p : Mark) {t : Filled} {ts bs us : List Filled} {o : Option Expression} → OptionalClaim f ts o bs → bs ≡ t ∷ us → IsMark p t → Closes (with_in f) 0 (t ∷ us) → ends_yield t ≡ true → (next_is (begins_expression (with_in f)) ts ≡ true → Misses (mark p) ts)
    → Eventually (λ n k r. ReadsExactly (optional (R k r) f (mark p)) o ts us)
unfolding optional
optional-reads f p {t = t} {us = us} absent_claim e h c y m = subst (λ zs. Eventually (λ n k r. ReadsExactly (optional (R k r) f (mark p)) None zs us)) (sym e) (always (λ n k r last. hit (mark p) _ _ t t us last (mark-hit p t h) (done refl one)))
optional-reads f p {t = t} {us = us} (present_claim {ts = ts} {y = x} a) e h c y m =
    let b = subst (λ zs. Claim (with_in f) 0 ts zs x) e a in
    then_ (open-sequence b c (ends-yield 0 t us y)) (λ n k r z last. miss (mark p) _ _ ts last (m a.begins) (and_then _ (z last) (λ end mv. take (mark p) _ t t us end (mark-hit p t h) (done refl (mv ⟫ one)))))

pub rest-reads : (f : Flags) (first : ForFirst) {e c : Filled} {us vs ws : List Filled} {test update : Option Expression} → OptionalClaim f us test (e ∷ vs) → IsMark marks.Semicolon e → OptionalClaim f vs update (c ∷ ws) → IsMark marks.RightParenthesis c
    → Eventually (λ n k r. ReadsExactly (rest_of_for (R k r) f first) (ForHeader first test update) us ws)
unfolding rest_of_for
rest-reads f first {e = e} {c = c} {us = us} {vs = vs} {ws = ws} a p b q = both (optional-reads f marks.Semicolon a refl p (closes-semicolon (with_in f) vs e p) (semicolon-ends-yield e p) (λ h. begins-no-semicolon (with_in f) us h))
    (optional-reads f marks.RightParenthesis b refl q (closes-close (with_in f) ws c q) (close-ends-yield c q) (λ h. begins-no-close (with_in f) vs h)) (λ n k r y z last.
    and_then _ (y last) (λ end mv. and_then _ (later mv (z end)) (λ end' mv'. done refl mv')))

-- ## What stands before the first semicolon

-- what is read up to the semicolon, if what follows it is read
abbrev pub FirstRead : Flags → List Filled → ForFirst → List Filled → Type 0
FirstRead f ts first us = (h : Header) (ws : List Filled) → Eventually (λ n k r. ReadsExactly (rest_of_for (R k r) f first) h us ws) → Eventually (λ n k r. ReadsExactly (for_header (R k r) f) h ts ws)

pub first-nothing : (f : Flags) {e : Filled} {us : List Filled} → IsMark marks.Semicolon e → FirstRead f (e ∷ us) NoFirst us
unfolding for_header
first-nothing f {e = e} {us = us} p h ws d = then_ d (λ n k r y last. hit (mark marks.Semicolon) _ _ e e us last (mark-hit marks.Semicolon e p) (later one (y e.span.end)))

kind-hit : (kind : VariableKind) (t : Filled) → IsWord (kind_word kind) t → kind_at t ≡ Some kind
kind-hit Var t w = ap (λ k. look_up (λ kind. kinds.Word (kind_word kind)) (Var ∷ Let ∷ Const ∷ []) k) w
kind-hit Let t w = ap (λ k. look_up (λ kind. kinds.Word (kind_word kind)) (Var ∷ Let ∷ Const ∷ []) k) w
kind-hit Const t w = ap (λ k. look_up (λ kind. kinds.Word (kind_word kind)) (Var ∷ Let ∷ Const ∷ []) k) w

-- the reader's way to the variables after their word
to-variables : {h : Header} {s : Input} {ws : List Filled} (i : Inner) (f : Flags) (kind : VariableKind) (t : Filled) (ts : List Filled) (last : ℕ) → IsWord (kind_word kind) t → Exactly h s ws (for_variables i f t.span.begin kind (record { tokens = ts; last = t.span.end })) → Exactly h s ws (for_header i f (record { tokens = t ∷ ts; last = last }))
unfolding for_header
to-variables i f kind t ts last w y = miss (mark marks.Semicolon) _ _ (t ∷ ts) last (word-no-mark marks.Semicolon (kind_word kind) t w) (hit kind_at _ _ t kind ts last (kind-hit kind t w) y)

after-variable : {h : Header} {s : Input} {ws : List Filled} (i : Inner) (f : Flags) (at : ℕ) (kind : VariableKind) (q : Part) (p : Mark) (c : Filled) (cs : List Filled) (last : ℕ) → IsMark p c → Exactly h s ws (after_first_variable i f at kind q (record { tokens = c ∷ cs; last = last })) → Exactly h s ws (choose (is_some q.default) (after_first_variable i f at kind q) (after_bare_variable i f at kind q) (record { tokens = c ∷ cs; last = last }))
unfolding after_bare_variable
after-variable i f at kind q p c cs last m y = either-choice (is_some q.default) _ _ _ (λ e. y) (λ e. if-no (next_word (codes "in")) _ _ (c ∷ cs) last (at-kind (λ u. next_word (codes "in") u ≡ false) c _ m refl)
    (if-no (next_word (codes "of")) _ _ (c ∷ cs) last (at-kind (λ u. next_word (codes "of") u ≡ false) c _ m refl) y))

to-rest : {h : Header} {x : ForFirst} {ws : List Filled} (i : Inner) (f : Flags) (kind : VariableKind) (qs : List Part) (t : Filled) (ts : List Filled) (last : ℕ) (e : Filled) (us : List Filled) (end : ℕ) → IsMark marks.Semicolon e → x ≡ FirstVariables (across (t ∷ ts) (e ∷ us)) kind qs → Moves (record { tokens = t ∷ ts; last = last }) (record { tokens = e ∷ us; last = end }) → ReadsExactly (rest_of_for i f x) h us ws
    → Exactly h (record { tokens = t ∷ ts; last = last }) ws (first_variables i f t.span.begin kind qs (record { tokens = e ∷ us; last = end }))
unfolding first_variables
to-rest {h = h} {ws = ws} i f kind qs t ts last e us end p q mv y = take (mark marks.Semicolon) _ e e us end (mark-hit marks.Semicolon e p)
    (subst (λ z. Exactly h (record { tokens = t ∷ ts; last = last }) ws (rest_of_for i f z (record { tokens = us; last = e.span.end }))) (q ∙ ap (λ v. FirstVariables v kind qs) (sym (span-across mv))) (later (mv ⟫ one) (y e.span.end)))

open-variable : (f : Flags) (ts us : List Filled) (q : Part) → Eventually (λ n k r. ReadsExactly (initialized (R k r) f f) q ts us) → Eventually (λ n k r. ReadsExactly ((R k r).variable f) q ts us)
unfolding readers
open-variable f ts us q h = deeper h (λ n k r y. y)

semicolon-ends : (f : Flags) (us : List Filled) (e : Filled) → IsMark marks.Semicolon e → Ends f (e ∷ us)
semicolon-ends f us e p = end-ends f us e (at-kind (λ u. IsEnd u) e _ p refl)

one-first : (f : Flags) (kind : VariableKind) {t e : Filled} {ts us : List Filled} {q : Part} {x : ForFirst} → IsWord (kind_word kind) t → VariableClaim (without_in f) ts (e ∷ us) q → IsMark marks.Semicolon e → x ≡ FirstVariables (across (t ∷ ts) (e ∷ us)) kind (q ∷ []) → FirstRead f (t ∷ ts) x us
unfolding for_variables after_first_variable
one-first f kind {t = t} {e = e} {ts = ts} {us = us} {q = q} w d p j h ws a = both (open-variable (without_in f) ts (e ∷ us) q (d.reads (semicolon-ends (without_in f) us e p))) a (λ n k r y z last. to-variables (R k r) f kind t ts last w
    (and_then _ (later one (y t.span.end)) (λ end mv. after-variable (R k r) f t.span.begin kind q marks.Semicolon e us end p (chosen (is_whole q) _ _ _ d.whole
    (miss (mark marks.Comma) _ _ (e ∷ us) end (mark-no-mark marks.Comma marks.Semicolon e p refl) (to-rest (R k r) f kind (q ∷ []) t ts last e us end p j mv z))))))

more-first : (f : Flags) (kind : VariableKind) {t c e : Filled} {ts cs us : List Filled} {q : Part} {qs : List Part} {x : ForFirst} → IsWord (kind_word kind) t → VariableClaim (without_in f) ts (c ∷ cs) q → IsMark marks.Comma c → VariableItems (without_in f) cs qs (e ∷ us) → IsMark marks.Semicolon e → x ≡ FirstVariables (across (t ∷ ts) (e ∷ us)) kind (q ∷ qs) → FirstRead f (t ∷ ts) x us
unfolding for_variables after_first_variable
more-first f kind {t = t} {c = c} {e = e} {ts = ts} {cs = cs} {us = us} {q = q} {qs = qs} w d m ds p j h ws a = both (pair (open-variable (without_in f) ts (c ∷ cs) q (d.reads (ends-comma (without_in f) cs c m)))
    (begin (list-reads (without_in f) (λ k r. (R k r).variable (without_in f)) (λ zs ys v y. open-variable (without_in f) zs ys v y) ds (semicolon-ends (without_in f) us e p) (mark-no-mark marks.Comma marks.Semicolon e p refl))
    (λ n k r y. at-fuel (λ l. variables ((R k r).variable (without_in f)) l) qs cs (e ∷ us) k r y))) a (λ n k r y z last. to-variables (R k r) f kind t ts last w
    (and_then _ (later one (y.0 t.span.end)) (λ end mv. after-variable (R k r) f t.span.begin kind q marks.Comma c cs end m (chosen (is_whole q) _ _ _ d.whole
    (hit (mark marks.Comma) _ _ c c cs end (mark-hit marks.Comma c m) (and_then _ (later (mv ⟫ one) (y.1 c.span.end)) (λ end' mv'. to-rest (R k r) f kind (q ∷ qs) t ts last e us end' p j mv' z)))))))

first-items : (f : Flags) (kind : VariableKind) {t e : Filled} {ts bs us : List Filled} {qs : List Part} {x : ForFirst} → IsWord (kind_word kind) t → VariableItems (without_in f) ts qs bs → bs ≡ e ∷ us → IsMark marks.Semicolon e → x ≡ FirstVariables (across (t ∷ ts) (e ∷ us)) kind qs → FirstRead f (t ∷ ts) x us
first-items f kind {ts = ts} w (item_last {q = q} d) b p j = one-first f kind w (subst (λ zs. VariableClaim (without_in f) ts zs q) b d) p j
first-items f kind w (item_next {us = cs} {qs = qs} d m ds) b p j = more-first f kind w d m (subst (λ zs. VariableItems (without_in f) cs qs zs) b ds) p j

pub first-variables : (f : Flags) (kind : VariableKind) {t e : Filled} {ts us : List Filled} {qs : List Part} {x : ForFirst} → IsWord (kind_word kind) t → VariableItems (without_in f) ts qs (e ∷ us) → IsMark marks.Semicolon e → x ≡ FirstVariables (across (t ∷ ts) (e ∷ us)) kind qs → FirstRead f (t ∷ ts) x us
first-variables f kind w d p j = first-items f kind w d refl p j

kind-missed : (ts : List Filled) → next_is (next_word (codes "var")) ts ≡ false → next_is (next_word (codes "let")) ts ≡ false → next_is (next_word (codes "const")) ts ≡ false → Misses kind_at ts
kind-missed [] a b c = tt
kind-missed (t ∷ ts) a b c = cond-false (is_word (codes "var") t.kind) _ _ a ∙ cond-false (is_word (codes "let") t.kind) _ _ b ∙ cond-false (is_word (codes "const") t.kind) _ _ c

to-expression : {h : Header} {s : Input} {ws : List Filled} (i : Inner) (f : Flags) (ts : List Filled) (last : ℕ) → next_is (begins_expression (without_in f)) ts ≡ true → Exactly h s ws (for_expression i f (record { tokens = ts; last = last })) → Exactly h s ws (for_header i f (record { tokens = ts; last = last }))
unfolding for_header begins_unary begins_operand reserved_words operand_words unary_operators
to-expression i f ts last b y = miss (mark marks.Semicolon) _ _ ts last (begins-no-semicolon (without_in f) ts b) (miss kind_at _ _ ts last
    (kind-missed ts (no-keyword (without_in f) (codes "var") ts ((λ t. refl), refl) b) (no-keyword (without_in f) (codes "let") ts ((λ t. refl), refl) b) (no-keyword (without_in f) (codes "const") ts ((λ t. refl), refl) b)) y)

pub first-expression : (f : Flags) {e : Filled} {ts us : List Filled} {y : Expression} {x : ForFirst} → Claim (without_in f) 0 ts (e ∷ us) y → IsMark marks.Semicolon e → x ≡ FirstExpression y → FirstRead f ts x us
unfolding for_expression first_expression
first-expression f {e = e} {ts = ts} {us = us} {y = y} {x = x} c p j h ws a = both (open-sequence c (closes-semicolon (without_in f) us e p) (ends-yield 0 e us (semicolon-ends-yield e p))) a (λ n k r z v last. to-expression (R k r) f ts last c.begins
    (and_then _ (z last) (λ end mv. let go : Exactly h (record { tokens = ts; last = last }) ws (first_expression (R k r) f y (record { tokens = e ∷ us; last = end })) =
    take (mark marks.Semicolon) _ e e us end (mark-hit marks.Semicolon e p) (subst (λ w. Exactly h (record { tokens = ts; last = last }) ws (rest_of_for (R k r) f w (record { tokens = us; last = e.span.end }))) j (later (mv ⟫ one) (v e.span.end))) in
    either-choice (is_left c.shape) _ _ _ (λ l. if-no (next_word (codes "in")) _ _ (e ∷ us) end (at-kind (λ u. next_word (codes "in") u ≡ false) e _ p refl) (miss (word (codes "of")) _ _ (e ∷ us) end (mark-no-word (codes "of") marks.Semicolon e p) go)) (λ l. go))))

-- ## Headers

abbrev pub HeaderRead : Flags → List Filled → Header → List Filled → Type 0
HeaderRead f ts h us = Eventually (λ n k r. ReadsExactly (for_header (R k r) f) h ts us)

pub for-header : (f : Flags) (first : ForFirst) {e c : Filled} {ts us vs ws : List Filled} {test update : Option Expression} → FirstRead f ts first us → OptionalClaim f us test (e ∷ vs) → IsMark marks.Semicolon e → OptionalClaim f vs update (c ∷ ws) → IsMark marks.RightParenthesis c → HeaderRead f ts (ForHeader first test update) ws
for-header f first {ws = ws} d a p b q = d _ ws (rest-reads f first a p b q)

close-ends : (f : Flags) (us : List Filled) (c : Filled) → IsMark marks.RightParenthesis c → Ends f (c ∷ us)
close-ends f us c q = record { closes = closes-up f 0 1 (c ∷ us) (omega arith) (closes-close f us c q); yields = ends-yield 1 c us (close-ends-yield c q) }

bare-part : (f : Flags) {u : Filled} {ts us : List Filled} {y : Pattern} → BindingRead f ts y (u ∷ us) → IsWord (codes "of") u → Eventually (λ n k r. ReadsExactly (initialized (R k r) f f) (roll-Part (record { span = across ts (u ∷ us); pattern = y; default = None })) ts (u ∷ us))
unfolding initialized
bare-part f {u = u} {us = us} {y = y} d o = then_ d (λ n k r z last. and_then _ (z last) (λ end mv. miss (mark marks.Assign) _ _ (u ∷ us) end (word-no-mark marks.Assign (codes "of") u o) (done (ap (λ v. roll-Part (record { span = v; pattern = y; default = None })) (span-across mv)) mv)))

pub declared-header : (f : Flags) (kind : VariableKind) {t u c : Filled} {ts us vs : List Filled} {y : Pattern} {target : ForTarget} {subject : Expression} → IsWord (kind_word kind) t → BindingRead (without_in f) ts y (u ∷ us) → IsWord (codes "of") u → Claim (with_in f) 1 us (c ∷ vs) subject → IsMark marks.RightParenthesis c
    → target ≡ Declared (across (t ∷ ts) (u ∷ us)) kind y → HeaderRead f (t ∷ ts) (OfHeader target subject) vs
unfolding for_variables after_bare_variable rest_of_of
declared-header f kind {t = t} {u = u} {c = c} {ts = ts} {us = us} {vs = vs} {y = y} {subject = subject} w d o a q e =
    let part = roll-Part (record { span = across ts (u ∷ us); pattern = y; default = None }) in
    both (open-variable (without_in f) ts (u ∷ us) part (bare-part (without_in f) d o)) (open-assignment a (close-ends (with_in f) vs c q).closes (close-ends (with_in f) vs c q).yields) (λ n k r v z last. to-variables (R k r) f kind t ts last w
    (and_then _ (later one (v t.span.end)) (λ end mv. if-no (next_word (codes "in")) _ _ (u ∷ us) end (at-kind (λ b. next_word (codes "in") b ≡ false) u _ o refl) (if-yes (next_word (codes "of")) _ _ (u ∷ us) end (is-word-true (codes "of") u o)
    (take (word (codes "of")) _ u u us end (word-hit (codes "of") u o) (and_then _ (later (mv ⟫ one) (z u.span.end)) (λ end' mv'. take (mark marks.RightParenthesis) _ c c vs end' (mark-hit marks.RightParenthesis c q)
    (done (ap (λ b. OfHeader b subject) (ap (λ b. Declared b kind y) (span-across mv) ∙ sym e)) (mv' ⟫ one)))))))))

-- an expression, of which a target is made
pub assigned-header : (f : Flags) {u c : Filled} {ts us vs : List Filled} {x : Expression} {y : Pattern} {target : ForTarget} {subject : Expression} → Claim (without_in f) 16 ts (u ∷ us) x → Eventually (λ n k r. target_before (R k r).fuel assign.Assign x ≡ Fits y) → IsWord (codes "of") u → Claim (with_in f) 1 us (c ∷ vs) subject → IsMark marks.RightParenthesis c
    → target ≡ Assigned y → HeaderRead f ts (OfHeader target subject) vs
unfolding for_expression assigned_in_turn rest_of_of
assigned-header f {u = u} {c = c} {ts = ts} {us = us} {vs = vs} {y = y} {subject = subject} x d o a q e =
    both (pair (open-sequence x (closes-of (without_in f) us u o) (λ l. absurd (sixteen l))) d) (open-assignment a (close-ends (with_in f) vs c q).closes (close-ends (with_in f) vs c q).yields) (λ n k r v z last. to-expression (R k r) f ts last x.begins
    (and_then _ (v.0 last) (λ end mv. chosen (is_left x.shape) _ _ _ (x.left (omega arith)) (if-no (next_word (codes "in")) _ _ (u ∷ us) end (at-kind (λ b. next_word (codes "in") b ≡ false) u _ o refl) (hit (word (codes "of")) _ _ u u us end (word-hit (codes "of") u o)
    (known _ (ap (λ b. fitting b (record { tokens = us; last = u.span.end })) v.1) (and_then _ (later (mv ⟫ one) (z u.span.end)) (λ end' mv'. take (mark marks.RightParenthesis) _ c c vs end' (mark-hit marks.RightParenthesis c q)
    (done (ap (λ b. OfHeader b subject) (sym e)) (mv' ⟫ one))))))))))
  where
    sixteen : 16 ≤ 2 → ⊥
    sixteen l = omega arith

-- ## For statements

pub for-reads : (f : Flags) {t o : Filled} {ts us vs : List Filled} {h : Header} {body x : Statement} → IsMark marks.LeftParenthesis o → HeaderRead f ts h us → StatementClaim f Under us vs body → x ≡ loop_of h body (across (t ∷ o ∷ ts) vs) → Quiet vs → AfterWord (λ i at. for_statement i f at) t (o ∷ ts) x vs
unfolding for_statement
for-reads f {t = t} {o = o} {ts = ts} {h = h} {body = body} p d s e q = both (pair opened d) (open-statement s q) (λ n k r y z last. and_then _ (group-in (R k r) marks.LeftParenthesis _ _ o ts t.span.end (is-mark-true marks.LeftParenthesis o p) y.0 (later (one ⟫ one) (y.1 o.span.end))) (λ end mv.
    and_then _ (later mv (z end)) (λ end' mv'. done (ap (λ v. loop_of h body v) (span-across mv') ∙ sym e) mv')))
