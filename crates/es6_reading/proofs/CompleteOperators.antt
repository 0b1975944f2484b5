-- Expressions with operators that are derived are read exactly so, if their operands are.
use Rattle.std.proofs.Common.{◌≡◌, ℕ, zero, suc, ◌+◌, ◌≤◌, true, false, ◌||◌, not, List, [], ◌∷◌, refl, sym, ap, subst, ◌∙◌, arith}
use Rattle.es6_lexer.specs.declared.token.Punctuator.TheVariants as marks
use Rattle.es6_ast.specs.declared.operators.UnaryOperator.{UnaryOperator}
use Rattle.es6_ast.specs.declared.operators.UpdateOperator.{UpdateOperator}
use Rattle.es6_ast.specs.declared.operators.BinaryOperator.{BinaryOperator}
use Rattle.es6_ast.specs.declared.tree.Expression.{Expression}
use Rattle.es6_ast.specs.declared.tree.Expression.TheVariants as expr
use Rattle.es6_ast.specs.declared.tree.Operand.{Operand, roll-Operand}
use Rattle.es6_ast.specs.declared.settings.Flags.{Flags}
use Rattle.es6_ast.specs.declared.settings.Role.TheVariants.{Leading, Among}
use Rattle.es6_ast.specs.declared.settings.Shape.TheVariants.{Other}
use Rattle.es6_ast.specs.Tokens.{Filled, Read, IsMark, IsOnLine, across}
use Rattle.es6_ast.specs.Grammar.{with_in, is_in, is_before, unary_kind, update_kind, binary_kind, binary_level}
use Rattle.es6_reading.specs.Parser.{mark}
use Rattle.es6_reading.specs.Words.{unary_at, before_at, after_at, binary_at}
use Rattle.es6_reading.specs.Expressions.{postfix, prefixed, updated, update, unary, raised, power, operands, binary_from, branches, conditional, more_parts, parts, assignment, sequence}
use Rattle.es6_reading.proofs.Posts.{Misses}
use Rattle.es6_reading.proofs.Spans.{◌⟫◌, span-across}
use Rattle.es6_reading.proofs.Derived.{one}
use Rattle.es6_reading.proofs.Reading.{Eventually, always, then_, both, pair, turn, begin, on-miss-is}
use Rattle.es6_reading.proofs.Exactly.{Exactly, ReadsExactly, ReadsOnward, onward-of, nothing-taken, done, and_then, and_on, later, hit, miss, take, mark-hit}
use Rattle.es6_reading.proofs.CompleteTokens.{Closes, closes-up, closes-comma, closes-update, closes-power, closes-question, closes-colon, closes-operator, EndsYield, ends-yield, colon-ends-yield, comma-ends-yield, unary-begins, before-begins, expression-begins, unary-hit, before-hit, after-hit, binary-hit, level-low}
use Rattle.es6_reading.proofs.CompleteImports.{R, at-fuel, readers-fuel}
use Rattle.es6_reading.proofs.CompleteLevels.{reading, Level, sequence_level, assignment_level, binary_level_, unary_level, level-at-most, leads, among, from-unary, from-power, from-binary, from-conditional, from-sequence}
use Rattle.es6_reading.proofs.CompleteClaims.{Claim, claim-update, claim-other, stops-if, stand-calls, open-unary, open-power, open-assignment}

high-yields : (level : ℕ) (us : List Filled) → 3 ≤ level → EndsYield level us
high-yields level us h m = absurd (none level h m)
  where
    none : (level : ℕ) → 3 ≤ level → level ≤ 2 → ⊥
    none level h m = omega arith

-- ## Unary operators and updates

pub unary-claim : (f : Flags) {t : Filled} {ts us : List Filled} {operand x : Expression} (op : UnaryOperator) → t.kind ≡ Read (unary_kind op) → Claim f 14 ts us operand → x ≡ expr.Unary (across (t ∷ ts) us) op operand → Claim f 14 (t ∷ ts) us x
unfolding unary power prefixed
unary-claim f {t = t} {ts = ts} {us = us} {operand = operand} {x = x} op h c e = claim-other f 14 (t ∷ ts) us x Other (omega arith) (expression-begins f t (unary-begins op t h)) (λ l. unary-begins op t h) (λ least v l k y.
    let o = open-unary c (closes-up f least 14 us (level-at-most v) k) (high-yields 14 us (omega arith)) in
    from-unary f (reading x Other) (t ∷ ts) us (unary-begins op t h)
    (then_ o (λ n k' r z last. hit unary_at _ _ t op ts last (unary-hit t op h) (and_then _ (later one (z t.span.end)) (λ end mv. done (ap (λ w. reading w Other) (ap (λ s. expr.Unary s op operand) (span-across mv) ∙ sym e)) mv))))
    (λ s role stand. then_ o (λ n k' r z last. hit unary_at _ _ t op ts last (unary-hit t op h) (and_then _ (later one (z t.span.end)) (λ end mv. done (ap (λ w. reading w Other) (ap (λ s. expr.Unary s op operand) (span-across mv) ∙ sym e)) mv))))
    least v k)

pub before-claim : (f : Flags) {t : Filled} {ts us : List Filled} {target x : Expression} (op : UpdateOperator) → is_before op ≡ true → t.kind ≡ Read (update_kind op) → Claim f 14 ts us target → x ≡ expr.Update (across (t ∷ ts) us) op target → Claim f 15 (t ∷ ts) us x
unfolding update updated
before-claim f {t = t} {ts = ts} {us = us} {target = target} {x = x} op b h c e = claim-update f (t ∷ ts) us x Other (before-begins op t h)
    (λ k role calls. then_ (open-unary c k (high-yields 14 us (omega arith))) (λ n k' r z last. hit before_at _ _ t op ts last (before-hit t op b h).1 (and_then _ (later one (z t.span.end)) (λ end mv. done (ap (λ w. reading w Other) (ap (λ s. expr.Update s op target) (span-across mv) ∙ sym e)) mv))))
    (before-hit t op b h).0

pub after-claim : (f : Flags) {t : Filled} {ts us : List Filled} {target x : Expression} (op : UpdateOperator) → is_before op ≡ false → (c : Claim f 16 ts (t ∷ us) target) → t.kind ≡ Read (update_kind op) → IsOnLine t → Misses before_at ts → x ≡ expr.Update (across ts us) op target → Claim f 15 ts us x
unfolding update postfix
after-claim f {t = t} {ts = ts} {us = us} {target = target} {x = x} op b c h l m e = claim-update f ts us x Other (c.first (omega arith))
    (λ k role calls. then_ (c.chains (omega arith) (stops-if f 16 (t ∷ us) (omega arith) (closes-update f us t op h)) role calls) (λ n k' r z last. miss before_at _ _ ts last m (and_then _ (z last) (λ end mv. hit after_at _ _ t op us end (after-hit t op b l h)
    (done (ap (λ w. reading w Other) (ap (λ s. expr.Update s op target) (span-across (mv ⟫ one)) ∙ sym e)) (mv ⟫ one))))))
    (c.no_unary (omega arith))

pub power-claim : (f : Flags) {t : Filled} {ts us vs : List Filled} {base exponent x : Expression} → Claim f 15 ts (t ∷ us) base → IsMark marks.StarStar t → Claim f 13 us vs exponent → x ≡ expr.Power (across ts vs) base exponent → Claim f 13 ts vs x
unfolding power raised
power-claim f {t = t} {ts = ts} {us = us} {vs = vs} {base = base} {exponent = exponent} {x = x} b h c e = claim-other f 13 ts vs x Other (omega arith) b.begins (λ l. b.first (omega arith)) (λ least v l k y.
    from-power f (reading x Other) ts vs (b.first (omega arith)) (λ role stand. both (b.updates (omega arith) (closes-power f us t h) role (stand-calls stand)) (open-power c (closes-up f least 13 vs l k) (high-yields 13 vs (omega arith))) (λ n k' r z z' last.
    miss unary_at _ _ ts last (b.no_unary (omega arith)) (and_then _ (z last) (λ end mv. hit (mark marks.StarStar) _ _ t t us end (mark-hit marks.StarStar t h) (and_then _ (later (mv ⟫ one) (z' t.span.end)) (λ end' mv'.
    done (ap (λ w. reading w Other) (ap (λ s. expr.Power s base exponent) (span-across mv') ∙ sym e)) mv'))))))
    least v l k)

-- ## Binary operators

pub record OperandsClaim (f : Flags) (level : ℕ) (ts : List Filled) (os : List Operand) (us : List Filled) : Type 0 where
  pub closes : Closes f level us → Closes f (level + 1) ts
  pub reads : (above : ℕ) → above + (level + 1) ≡ 13 → Closes f level us → Eventually (λ t k r. ReadsOnward (operands (binary_from (R k r) f Among above (level + 1)) f level t) os ts us)

pub no-operands : (f : Flags) (level : ℕ) (us : List Filled) → level ≤ 12 → OperandsClaim f level us [] us
unfolding operands
no-operands f level us low = record {
  closes = λ c. closes-up f level (level + 1) us (omega arith) c;
  reads = λ above e c. turn (always {P = λ t k r. Unit {0}} (λ t k r. tt)) (λ t k r _ last. nothing-taken (on-miss-is (binary_at f level) _ _ us last (c.operator level (omega arith) low)));
}

pub operand-claim : (f : Flags) (level : ℕ) {t : Filled} {ts us vs : List Filled} {value : Expression} {o : Operand} {rest : List Operand} (op : BinaryOperator) → binary_level op ≡ level → (f.has_in || not (is_in op)) ≡ true → t.kind ≡ Read (binary_kind op) → Claim f (level + 1) ts us value
    → o ≡ roll-Operand (record { operator = op; value = value }) → OperandsClaim f level us rest vs → OperandsClaim f level (t ∷ ts) (o ∷ rest) vs
unfolding operands
operand-claim f level {t = t} {ts = ts} {us = us} {rest = rest} op l n h c e os = record {
  closes = λ k. closes-operator f ts t op level h l;
  reads = λ above s k. turn (pair (c.levels (level + 1) (binary_level_ Among among above s (three level l)) (omega arith) (os.closes k) (high-yields (level + 1) us (three level l))) (os.reads above s k)) (λ j k' r y last.
      onward-of (hit (binary_at f level) _ _ t op ts last (binary-hit f level t op h l n) (and_then _ (later one (y.0 t.span.end)) (λ end mv. and_on _ mv (y.1 end) (λ end' mv'. done (ap (λ z. z ∷ rest) (sym e)) mv')))));
}
  where
    low : 3 ≤ binary_level op
    low = level-low op

    three : (level : ℕ) → binary_level op ≡ level → 3 ≤ level + 1
    three level l = omega (arith, l, low)

above-of : (level : ℕ) → level ≤ 12 → (above : ℕ) × (suc above + level ≡ 13)
above-of level l = at 12 level l
  where
    none : (level : ℕ) → suc level ≤ zero → ⊥
    none level l = omega arith

    down : (n level : ℕ) → suc level ≤ suc n → level ≤ n
    down n level l = omega arith

    step : (above n level : ℕ) → suc above + level ≡ suc n → suc above + suc level ≡ suc (suc n)
    step above n level e = omega arith

    at : (n level : ℕ) → level ≤ n → (above : ℕ) × (suc above + level ≡ suc n)
    at n zero l = (n, omega arith)
    at zero (suc level) l = absurd (none level l)
    at (suc n) (suc level) l = let r = at n level (down n level l) in (r.0, step r.0 n level r.1)

pub binary-claim : (f : Flags) (level : ℕ) {ts us vs : List Filled} {first x : Expression} {o : Operand} {rest : List Operand} → 3 ≤ level → level ≤ 12 → Claim f (level + 1) ts us first → OperandsClaim f level us (o ∷ rest) vs → x ≡ expr.Binary (across ts vs) first (o ∷ rest) → Claim f level ts vs x
unfolding binary_from
binary-claim f level {ts = ts} {us = us} {vs = vs} {first = first} {x = x} {o = o} {rest = rest} low high c os e =
    let a = above-of level high in
    claim-other f level ts vs x Other (omega (arith, high)) c.begins (λ l. c.first (omega (arith, low))) (λ least v l k y.
    from-binary (suc a.0) level f (reading x Other) ts vs a.1 low (c.first (omega (arith, low))) (λ role stand. both
    (c.levels (level + 1) (binary_level_ role stand a.0 (next a.0 level a.1) (omega (arith, low))) (omega arith) (os.closes (closes-up f least level vs l k)) (high-yields (level + 1) us (omega (arith, low))))
    (begin (os.reads a.0 (next a.0 level a.1) (closes-up f least level vs l k)) (λ n k' r z. turns a.0 k' r z)) (λ n k' r z z' last. and_then _ (z last) (λ end mv. and_on _ mv (z' end) (λ end' mv'.
    done (ap (λ w. reading w Other) (ap (λ s. expr.Binary s first (o ∷ rest)) (span-across mv') ∙ sym e)) mv'))))
    least v l k)
  where
    next : (above level : ℕ) → suc above + level ≡ 13 → above + (level + 1) ≡ 13
    next above level e = omega arith

    turns : (above k r : ℕ) → ReadsOnward (operands (binary_from (R k r) f Among above (level + 1)) f level k) (o ∷ rest) us vs → ReadsOnward (operands (binary_from (R k r) f Among above (level + 1)) f level (R k r).fuel) (o ∷ rest) us vs
    turns above k r z = subst (λ n. ReadsOnward (operands (binary_from (R k r) f Among above (level + 1)) f level n) (o ∷ rest) us vs) (sym (readers-fuel k r)) z

-- ## Conditional expressions and sequences

no-three : (level : ℕ) → level ≤ 2 → 3 ≤ level → ⊥
no-three level a b = omega arith

one-at-most : {least : ℕ} (v : Level least) → least ≤ 2 → least ≤ 1
one-at-most sequence_level l = omega arith
one-at-most assignment_level l = omega arith
one-at-most (binary_level_ role stand above {level = level} e h) l = absurd (no-three level l h)
one-at-most unary_level l = absurd (no-three 14 l (omega arith))

pub conditional-claim : (f : Flags) {question colon : Filled} {ts us vs ws : List Filled} {test yes_ no_ x : Expression} → Claim f 3 ts (question ∷ us) test → IsMark marks.Question question → Claim (with_in f) 1 us (colon ∷ vs) yes_ → IsMark marks.Colon colon → Claim f 1 vs ws no_
    → x ≡ expr.Conditional (across ts ws) test yes_ no_ → Claim f 2 ts ws x
unfolding conditional branches
conditional-claim f {question = q} {colon = c} {ts = ts} {us = us} {vs = vs} {ws = ws} {test = test} {yes_ = yes_} {no_ = no_} {x = x} a h b h' d e = claim-other f 2 ts ws x Other (omega arith) a.begins (λ l. a.first (omega arith)) (λ least v l k y.
    from-conditional f (reading x Other) ts ws (a.first (omega arith)) (both (a.levels 3 (binary_level_ Leading leads 10 refl (omega arith)) (omega arith) (closes-question f us q h) (high-yields 3 (q ∷ us) (omega arith)))
    (pair (open-assignment b (closes-up (with_in f) 0 1 (c ∷ vs) (omega arith) (closes-colon (with_in f) vs c h')) (ends-yield 1 c vs (colon-ends-yield c h'))) (open-assignment d (closes-up f least 1 ws (one-at-most v l) k) (λ m. y (omega arith))))
    (λ n k' r z z' last. and_then _ (z last) (λ end mv. hit (mark marks.Question) _ _ q q us end (mark-hit marks.Question q h) (and_then _ (later (mv ⟫ one) (z'.0 q.span.end)) (λ end' mv'.
    take (mark marks.Colon) _ c c vs end' (mark-hit marks.Colon c h') (and_then _ (later (mv' ⟫ one) (z'.1 c.span.end)) (λ end'' mv''. done (ap (λ w. reading w Other) (ap (λ s. expr.Conditional s test yes_ no_) (span-across mv'') ∙ sym e)) mv'')))))))
    least v l k)

-- the parts after the first comma
pub record MoreClaim (f : Flags) (ts us : List Filled) (xs : List Expression) : Type 0 where
  pub token : Filled
  pub after : List Filled
  pub first : ts ≡ token ∷ after
  pub comma : IsMark marks.Comma token
  pub reads : Closes f 0 us → EndsYield 0 us → Eventually (λ t k r. ReadsExactly (parts (R k r) f t) xs after us)

pub more-last : (f : Flags) {c : Filled} {ts us : List Filled} {x : Expression} → IsMark marks.Comma c → Claim f 1 ts us x → MoreClaim f (c ∷ ts) us (x ∷ [])
unfolding parts
more-last f {c = c} {ts = ts} {us = us} h x = record {
  token = c;
  after = ts;
  first = refl;
  comma = h;
  reads = λ k y. turn (x.levels 1 assignment_level (omega arith) (closes-up f 0 1 us (omega arith) k) (λ m. y (omega arith))) (λ n k' r z last. and_then _ (z last) (λ end mv. miss (mark marks.Comma) _ _ us end (k.comma (omega arith)) (done refl mv)));
}

pub more-next : (f : Flags) {c : Filled} {ts us vs : List Filled} {x : Expression} {xs : List Expression} → IsMark marks.Comma c → Claim f 1 ts us x → MoreClaim f us vs xs → MoreClaim f (c ∷ ts) vs (x ∷ xs)
unfolding parts
more-next f {c = c} {ts = ts} {us = us} {vs = vs} {x = x} {xs = xs} h d m = record {
  token = c;
  after = ts;
  first = refl;
  comma = h;
  reads = λ k y. turn (pair (d.levels 1 assignment_level (omega arith) (subst (λ zs. Closes f 1 zs) (sym m.first) (closes-comma f m.after m.token m.comma)) (subst (λ zs. EndsYield 1 zs) (sym m.first) (ends-yield 1 m.token m.after (comma-ends-yield m.token m.comma)))) (m.reads k y)) (λ n k' r z last.
      and_then _ (subst (λ zs. Exactly (reading x d.shape) (record { tokens = ts; last = last }) zs (assignment (R k' r) f (record { tokens = ts; last = last }))) m.first (z.0 last)) (λ end mv. hit (mark marks.Comma) _ _ m.token m.token m.after end (mark-hit marks.Comma m.token m.comma)
      (and_then _ (later (mv ⟫ one) (z.1 m.token.span.end)) (λ end' mv'. done refl mv'))));
}

pub sequence-claim : (f : Flags) {ts us vs : List Filled} {first x : Expression} {rest : List Expression} → Claim f 1 ts us first → MoreClaim f us vs rest → x ≡ expr.Sequence (across ts vs) first rest → Claim f 0 ts vs x
unfolding sequence more_parts
sequence-claim f {ts = ts} {us = us} {vs = vs} {first = first} {x = x} {rest = rest} c m e = claim-other f 0 ts vs x Other (omega arith) c.begins (λ l. absurd (no-zero 2 1 (omega arith) l)) (λ least v l k y.
    from-sequence f (reading x Other) ts vs (both (c.levels 1 assignment_level (omega arith) (subst (λ zs. Closes f 1 zs) (sym m.first) (closes-comma f m.after m.token m.comma)) (subst (λ zs. EndsYield 1 zs) (sym m.first) (ends-yield 1 m.token m.after (comma-ends-yield m.token m.comma))))
    (begin (m.reads (zero-closes least l k) y) (λ n k' r z. at-fuel (λ j. parts (R k' r) f j) rest m.after vs k' r z))
    (λ n k' r z z' last. and_then _ (subst (λ zs. Exactly (reading first c.shape) (record { tokens = ts; last = last }) zs (assignment (R k' r) f (record { tokens = ts; last = last }))) m.first (z last)) (λ end mv. hit (mark marks.Comma) _ _ m.token m.token m.after end (mark-hit marks.Comma m.token m.comma)
    (and_then _ (later (mv ⟫ one) (z' m.token.span.end)) (λ end' mv'. done (ap (λ w. reading w Other) (ap (λ s. expr.Sequence s first rest) (span-across mv') ∙ sym e)) mv')))))
    least v l)
  where
    no-zero : (a b : ℕ) → suc b ≤ a → a ≤ zero → ⊥
    no-zero a b h l = omega arith

    same : (least : ℕ) → least ≤ 0 → least ≡ 0
    same least l = omega arith

    zero-closes : (least : ℕ) → least ≤ 0 → Closes f least vs → Closes f 0 vs
    zero-closes least l k = subst (λ n. Closes f n vs) (same least l) k
