-- Where no parameters of an arrow are made of an expression, or of parentheses that only an arrow's parameters have, its tokens spell
-- none: no tokens spell both of these, nor two of the latter with other parts.
use Rattle.std.specs.Prelude.{codes}
use Rattle.std.proofs.Common.{◌≡◌, ◌∙◌, ◌⊎◌, inl, inr, ℕ, zero, suc, ◌+◌, ◌≤◌, arith, Bool, true, false, List, [], ◌∷◌, ◌++◌, Option, Some, None, refl, sym, ap, subst}
use Rattle.es_text.specs.declared.Span.{Span}
use Rattle.es6_lexer.specs.declared.token.Punctuator.TheVariants as marks
use Rattle.es6_ast.specs.declared.tree.Expression.{Expression}
use Rattle.es6_ast.specs.declared.tree.Expression.TheVariants as expr
use Rattle.es6_ast.specs.declared.tree.Identifier.{Identifier}
use Rattle.es6_ast.specs.declared.tree.Parameter.{Parameter}
use Rattle.es6_ast.specs.declared.tree.Rest.{Rest}
use Rattle.es6_ast.specs.declared.settings.Flags.{Flags}
use Rattle.es6_ast.specs.declared.settings.Role.TheVariants.{Leading}
use Rattle.es6_ast.specs.Tokens.{Filled, IsMark}
use Rattle.es6_ast.specs.Grammar as g
use Rattle.es6_ast.specs.Grammar.{with_in, chain_level, level_sequence, level_primary, IsName, IsNode, IsExpression, AreMore, AreArrowParameters}
use Rattle.es6_reading.specs.Expressions.{Held, held_parts, covered, covered_rest, rest_after, held_group, grouped, chain, postfix, update, power, binary_from, conditional, without_yield, assignment, sequence}
use Rattle.es6_reading.specs.Parser.{Input, Outcome, Took, Parser, after, on, on_taken, take_as, choose, refused, mark, word, Inner}
use Rattle.es6_reading.specs.Refine.{Refined, Fits, Misfit, TooNested, refined_map, parameters_of, parts_of, rest_parameter, parameters_in, refine_parameters}
use Rattle.es6_reading.specs.Refinements.{IsCover, empty_cover, rest_cover, held_cover}
use Rattle.es6_reading.specs.Words.{before_at, unary_at}
use Rattle.es6_reading.proofs.CompleteClaims.{Claim, unary-if-operand, begins-no-close, begins-no-ellipsis}
use Rattle.es6_reading.proofs.CompleteCovers.{BeforeRestOf, before_rest_of, BeforeRestReads, BeforeRestClaim}
use Rattle.es6_reading.proofs.CompleteForms.{operands-level}
use Rattle.es6_reading.proofs.CompleteGroups.{paren-head}
use Rattle.es6_reading.proofs.CompleteImports.{R, readers-fuel, opened, mark-no-mark, identifier-exact}
use Rattle.es6_reading.proofs.CompleteLevels.{reading, no-unary, no-before, no-yield}
use Rattle.es6_reading.proofs.CompleteParts.{PartsClaim, last_part, next_part, SplitClaim, split-alone, split-sequence, parts-before-rest}
use Rattle.es6_reading.proofs.CompleteTokens.{parenthesis-begins}
use Rattle.es6_reading.proofs.Completeness.{expression-read}
use Rattle.es6_reading.proofs.Cover.{cover}
use Rattle.es6_reading.proofs.Exactly.{Exactly, exactly, take-is, mark-hit}
use Rattle.es6_reading.proofs.Meanings.{is-mark-true}
use Rattle.es6_reading.proofs.Posts.{Holds, took, fault, of_took, Misses}
use Rattle.es6_reading.proofs.Reading.{Eventually, always, both, pair, begin, on-miss-is, group-is}
use Rattle.es6_reading_laws.specs.Fronts.{at_end, MisfitsAreNoParameters}
use Rattle.es6_reading_laws.proofs.OneExpression.{SequenceRead, read-of, one-expression}

-- ## What faults

abbrev Never : {A : Type 0} → Outcome A → Type 0
Never o = Holds (λ x c. ⊥) o

never-as : {A : Type 0} {o o' : Outcome A} → o ≡ o' → Never o' → Never o
never-as e h = subst (λ r. Never r) (sym e) h

never-then : {A B : Type 0} {o : Outcome A} (q : A → Parser B) → Never o → Never (after o q)
never-then q (took e) = absurd e
never-then q fault = fault

never-after : {A B : Type 0} {x : A} {s : Input} {us : List Filled} {o : Outcome A} (q : A → Parser B) → Exactly x s us o → ((end : ℕ) → Never (q x (record { tokens = us; last = end }))) → Never (after o q)
never-after q (exactly m) f = f _

never-hit : {A B : Type 0} (test : Filled → Option B) (p : B → Parser A) (q : Parser A) (t : Filled) (b : B) (ts : List Filled) (last : ℕ) → test t ≡ Some b → Never (p b (record { tokens = ts; last = t.span.end })) → Never (on test p q (record { tokens = t ∷ ts; last = last }))
never-hit test p q t b ts last e h = never-as (ap (λ o. on_taken o t ts p q (record { tokens = t ∷ ts; last = last })) e) h

never-miss : {A B : Type 0} (test : Filled → Option B) (p : B → Parser A) (q : Parser A) (ts : List Filled) (last : ℕ) → Misses test ts → Never (q (record { tokens = ts; last = last })) → Never (on test p q (record { tokens = ts; last = last }))
never-miss test p q ts last m h = never-as (on-miss-is test p q ts last m) h

never-take : {A B : Type 0} (test : Filled → Option B) (q : B → Parser A) (t : Filled) (b : B) (ts : List Filled) (last : ℕ) → test t ≡ Some b → Never (q b (record { tokens = ts; last = t.span.end })) → Never (after (take_as test (record { tokens = t ∷ ts; last = last })) q)
never-take test q t b ts last e h = never-as (ap (λ o. after o q) (take-is test t b ts last e)) h

never-choice : {A : Type 0} (b : Bool) (p q : Parser A) (c : Input) → Never (p c) → Never (q c) → Never (choose b p q c)
never-choice true p q c h k = h
never-choice false p q c h k = k

-- ## An expression that begins with parentheses which are not read is not read

module _ (i : Inner) (f : Flags) (o : Filled) (ts : List Filled) (last : ℕ) (p : IsMark marks.LeftParenthesis o) where
  abbrev here : Input
  here = record { tokens = o ∷ ts; last = last }

  never-chain : i.may_open ≡ true → Never (grouped i f Leading o.span.begin (record { tokens = ts; last = o.span.end })) → Never (chain i f Leading here)
  unfolding chain
  never-chain m h = never-then _ (never-as (paren-head i f Leading o ts last p ∙ group-is i marks.LeftParenthesis _ _ o ts last (is-mark-true marks.LeftParenthesis o p) m) h)

  never-power : Never (chain i f Leading here) → Never (power i f Leading here)
  unfolding power update postfix
  never-power h = never-miss unary_at _ _ (o ∷ ts) last (no-unary (o ∷ ts) (parenthesis-begins o p)) (never-then _ (never-miss before_at _ _ (o ∷ ts) last (no-before (o ∷ ts) (parenthesis-begins o p)) (never-then _ h)))

  never-binary : (above level : ℕ) → Never (power i f Leading here) → Never (binary_from i f Leading above level here)
  unfolding binary_from
  never-binary zero level h = h
  never-binary (suc above) level h = never-then _ (never-binary above (level + 1) h)

  never-conditional : Never (power i f Leading here) → Never (conditional i f here)
  unfolding conditional
  never-conditional h = never-then _ (never-binary 10 3 h)

  never-assignment : Never (conditional i f here) → Never (assignment i f here)
  unfolding assignment without_yield
  never-assignment h = never-choice f.has_yield _ _ here (never-miss (word (codes "yield")) _ _ (o ∷ ts) last (no-yield (o ∷ ts) (unary-if-operand (o ∷ ts) (parenthesis-begins o p))) (never-then _ h)) (never-then _ h)

  pub never-sequence : i.may_open ≡ true → Never (grouped i f Leading o.span.begin (record { tokens = ts; last = o.span.end })) → Never (sequence i f here)
  unfolding sequence
  never-sequence m h = never-then _ (never-assignment (never-conditional (never-power (never-chain m h))))

-- ## The parts that stand before a rest

no-zero : (level : ℕ) → 1 ≤ level → level ≡ 0 → ⊥
no-zero level l e = omega arith

high : {A : Type 0} (level : ℕ) → 1 ≤ level → level ≡ 0 → A
high level l e = absurd (no-zero level l e)

chain-above : (calls : Bool) → 1 ≤ chain_level calls
chain-above true = omega arith
chain-above false = omega arith

above-three : (level : ℕ) → 3 ≤ level → 1 ≤ level
above-three level l = omega arith

parts-read : {f : Flags} {ts us vs : List Filled} {first : Expression} {rest : List Expression} → Claim f 1 ts us first → AreMore f us rest vs → PartsClaim f ts first rest vs
parts-read c g.no_more_parts = last_part c
parts-read c (g.one_more_part y rest h d ds) = next_part c h (parts-read (expression-read d) ds)

split-lowest : (f : Flags) {level : ℕ} {ts us : List Filled} {x : Expression} → IsNode f level ts x us → level ≡ 0 → SplitClaim f ts us x
split-lowest f (g.this x w e) k = high 19 (omega arith) k
split-lowest f (g.reference n x d e) k = high 19 (omega arith) k
split-lowest f (g.literal value x h e) k = high 19 (omega arith) k
split-lowest f (g.array elements x p d e) k = high 19 (omega arith) k
split-lowest f (g.object properties x p d e) k = high 19 (omega arith) k
split-lowest f (g.template m x d e) k = high 19 (omega arith) k
split-lowest f (g.group held x p d q e) k = high 19 (omega arith) k
split-lowest f (g.function h x d e) k = high 19 (omega arith) k
split-lowest f (g.class c x d e) k = high 19 (omega arith) k
split-lowest f (g.super_member n x w p d e) k = high 19 (omega arith) k
split-lowest f (g.super_index index x w p d q e) k = high 19 (omega arith) k
split-lowest f (g.new_target x w p v e) k = high 19 (omega arith) k
split-lowest f (g.new_call callee as_ x w d p ds e) k = high 19 (omega arith) k
split-lowest f (g.new_bare callee x w d e) k = high 16 (omega arith) k
split-lowest f (g.super_call_alone x d) k = high 17 (omega arith) k
split-lowest f (g.chain {calls = calls} first l links x d ds e) k = high (chain_level calls) (chain-above calls) k
split-lowest f (g.super_chain first l links x d ds e) k = high 17 (omega arith) k
split-lowest f (g.update_after op target x b d h o e) k = high 15 (omega arith) k
split-lowest f (g.update_before op target x b h d e) k = high 15 (omega arith) k
split-lowest f (g.unary op operand x h d e) k = high 14 (omega arith) k
split-lowest f (g.power base exponent x d p d' e) k = high 13 (omega arith) k
split-lowest f (g.binary_chain {level = level} first o rest x d ds e) k = high level (above-three level (operands-level ds).0) k
split-lowest f (g.conditional test yes_ no_ x d q d' c d'' e) k = high 2 (omega arith) k
split-lowest f (g.assignment op target value x d h d' e) k = high 1 (omega arith) k
split-lowest f (g.arrow parameters body x d h o d' e) k = high 1 (omega arith) k
split-lowest f (g.yield x y w e) k = high 1 (omega arith) k
split-lowest f (g.yield_value value x y w o d e) k = high 1 (omega arith) k
split-lowest f (g.delegate value x y w p o d e) k = high 1 (omega arith) k
split-lowest f (g.sequence first y rest x d ds e) k = split-sequence f (parts-read (expression-read d) ds) e

split : (f : Flags) {least : ℕ} {ts us : List Filled} {x : Expression} → IsExpression f least ts x us → SplitClaim f ts us x
split f (g.at_level zero x h d) = split-lowest f d refl
split f (g.at_level (suc level) x h d) = split-alone f (omega arith) d (expression-read (g.at_level (suc level) x (omega arith) d))

-- what is held before a rest
record BeforeRest (f : Flags) (ts : List Filled) (m : Filled) (us : List Filled) (held : Expression) : Type 0 where
  first : Expression
  more : List Expression
  split_ : parts_of held ≡ first ∷ more
  claim : BeforeRestClaim f ts m us first more

before-rest : (f : Flags) {m d : Filled} {ts us : List Filled} {held : Expression} → IsExpression (with_in f) level_sequence ts held (m ∷ d ∷ us) → IsMark marks.Comma m → IsMark marks.Ellipsis d → BeforeRest f ts m (d ∷ us) held
before-rest f e h k = let s = split (with_in f) e in record { first = s.first; more = s.more; split_ = s.split; claim = parts-before-rest f s.parts h k }

-- ## Parentheses are not read where no arrow follows

never-covered : (at : ℕ) (held : Option Expression) (rest : Option Rest) (last : ℕ) → Never (covered at held rest (record { tokens = []; last = last }))
unfolding covered refused
never-covered at held rest last = fault

never-rest : (at dots : ℕ) (held : Option Expression) {c : Filled} {us : List Filled} {n : Identifier} (last : ℕ) → IsName us n (c ∷ []) → IsMark marks.RightParenthesis c → Never (covered_rest at dots held (record { tokens = us; last = last }))
unfolding covered_rest
never-rest at dots held {c = c} last nm q = never-after _ (identifier-exact nm last) (λ end. never-take (mark marks.RightParenthesis) _ c c [] end (mark-hit marks.RightParenthesis c q) (never-covered at held _ c.span.end))

never-after-held : (at dots : ℕ) (held : Expression) (r : Refined (List Parameter)) (d : Filled) {c : Filled} {us : List Filled} {n : Identifier} (last : ℕ) → IsMark marks.Ellipsis d → IsName us n (c ∷ []) → IsMark marks.RightParenthesis c → Never (rest_after at dots held r (record { tokens = d ∷ us; last = last }))
unfolding refused
never-after-held at dots held (Fits ps) d {us = us} last h nm q = never-hit (mark marks.Ellipsis) _ _ d d us last (mark-hit marks.Ellipsis d h) (never-rest at dots (Some held) d.span.end nm q)
never-after-held at dots held (Misfit place) d last h nm q = fault
never-after-held at dots held TooNested d last h nm q = fault

never-held : {A : Type 0} {first : Expression} {more : List Expression} {s : Input} {m : Filled} {us : List Filled} {o : Outcome Held} (q : Held → Parser A) → BeforeRestOf first more s m us o
    → ((end : ℕ) → Never (q (record { first = first; more = more; end = end; before_rest = true }) (record { tokens = us; last = m.span.end }))) → Never (after o q)
never-held q (before_rest_of k) h = h _

abbrev HeldRead : Flags → List Filled → Expression → List Expression → Filled → List Filled → ℕ → ℕ → Type 0
HeldRead f ts first more m us k r = (last : ℕ) → BeforeRestOf first more (record { tokens = ts; last = last }) m us (held_parts (R k r) f Leading (R k r).fuel (record { tokens = ts; last = last }))

at-turns : (f : Flags) (ts : List Filled) (first : Expression) (more : List Expression) (m : Filled) (us : List Filled) (k r : ℕ) → BeforeRestReads f ts first more m us k k r → HeldRead f ts first more m us k r
at-turns f ts first more m us k r y = subst (λ j. (last : ℕ) → BeforeRestOf first more (record { tokens = ts; last = last }) m us (held_parts (R k r) f Leading j (record { tokens = ts; last = last }))) (sym (readers-fuel k r)) y

never-grouped : (f : Flags) {o : Filled} {ts : List Filled} {x : Expression} → IsCover f (o ∷ ts) x [] → Eventually (λ t k r. Never (grouped (R k r) f Leading o.span.begin (record { tokens = ts; last = o.span.end })))
unfolding grouped held_group
never-grouped f (empty_cover {open_ = o} {close = c} span x p q e) = always (λ t k r. never-hit (mark marks.RightParenthesis) _ _ c c [] o.span.end (mark-hit marks.RightParenthesis c q) (never-covered o.span.begin None None c.span.end))
never-grouped f (rest_cover {open_ = o} {dots = d} {ts = ts} span n x p h nm q e) = always (λ t k r. never-miss (mark marks.RightParenthesis) _ _ (d ∷ ts) o.span.end (mark-no-mark marks.RightParenthesis marks.Ellipsis d h refl)
    (never-hit (mark marks.Ellipsis) _ _ d d ts o.span.end (mark-hit marks.Ellipsis d h) (never-rest o.span.begin d.span.begin None d.span.end nm q)))
never-grouped f (held_cover {open_ = o} {comma = m} {dots = d} {ts = ts} {us = us} span held n x p k h k' nm q e) =
    let b = before-rest f k h k' in
    begin b.claim.reads (λ t k r y.
    never-miss (mark marks.RightParenthesis) _ _ ts o.span.end (begins-no-close (with_in f) ts b.claim.begins) (never-miss (mark marks.Ellipsis) _ _ ts o.span.end (begins-no-ellipsis (with_in f) ts b.claim.begins)
    (never-held _ (at-turns f ts b.first b.more m (d ∷ us) k r y o.span.end) (λ end. never-after-held o.span.begin d.span.begin _ _ d m.span.end k' nm q))))

-- ## No tokens spell both

took-never : {A : Type 0} {x : A} {s : Input} {us : List Filled} {o : Outcome A} → Exactly x s us o → Never o → ⊥
took-never (exactly m) h = of_took h

self-low : (n : ℕ) → n ≤ n
self-low n = omega arith

never-at-all : Eventually (λ t k r. ⊥) → ⊥
never-at-all e = e.reads e.bound e.bound e.bound (self-low e.bound) (self-low e.bound) (self-low e.bound)

not-both-read : (f : Flags) {least : ℕ} {o : Filled} {ts : List Filled} {x y : Expression} → IsMark marks.LeftParenthesis o → IsExpression f least (o ∷ ts) x [] → IsCover f (o ∷ ts) y [] → ⊥
not-both-read f {o = o} {ts = ts} {x = x} p d k =
    let c = expression-read d in
    let a : SequenceRead f (o ∷ ts) [] (reading x c.shape) = read-of at_end c in
    never-at-all (both (pair a opened) (never-grouped f k) (λ t k r h n. took-never (h.0 0) (never-sequence (R k r) f o ts 0 p h.1 n)))

not-both : (f : Flags) {least : ℕ} {ts : List Filled} {x y : Expression} → IsExpression f least ts x [] → IsCover f ts y [] → ⊥
not-both f d (empty_cover span y p q e) = not-both-read f p d (empty_cover span y p q e)
not-both f d (rest_cover span n y p h nm q e) = not-both-read f p d (rest_cover span n y p h nm q e)
not-both f d (held_cover span held n y p k h k' nm q e) = not-both-read f p d (held_cover span held n y p k h k' nm q e)

-- ## Two that are spelled by the same tokens hold the same parts

outcome-before : {first : Expression} {more : List Expression} {s : Input} {m : Filled} {us : List Filled} {o : Outcome Held} → BeforeRestOf first more s m us o → (end : ℕ) × (o ≡ Took (record { first = first; more = more; end = end; before_rest = true }) (record { tokens = us; last = m.span.end }))
outcome-before (before_rest_of {end = end} k) = (end, refl)

took-one : {a b : Held} {p q : Input} → Took a p ≡ Took b q → a ≡ b
took-one k = cc

low-left : (n m : ℕ) → n ≤ n + m
low-left n m = omega arith

low-right : (n m : ℕ) → m ≤ n + m
low-right n m = omega arith

same-parts : {f : Flags} {ts us vs : List Filled} {m m' : Filled} {a b : Expression} {as_ bs : List Expression} → BeforeRestClaim f ts m us a as_ → BeforeRestClaim f ts m' vs b bs → a ∷ as_ ≡ b ∷ bs
same-parts p q =
    let l : ℕ = p.reads.bound in
    let k : ℕ = q.reads.bound in
    let d = outcome-before (p.reads.reads (l + k) (l + k) (l + k) (low-left l k) (low-left l k) (low-left l k) 0) in
    let e = outcome-before (q.reads.reads (l + k) (l + k) (l + k) (low-right l k) (low-right l k) (low-right l k) 0) in
    ap (λ h. h.first ∷ h.more) (took-one (sym d.1 ∙ e.1))

-- ## What parameters are made of parentheses

empty-fits : (n : ℕ) (span : Span) → refine_parameters n (expr.Cover span None None) ≡ Fits []
unfolding refine_parameters
empty-fits n span = ap (λ l. parameters_in n l) (expr.outs-Cover span None None)

rest-fits : (n : ℕ) (span : Span) (rest : Rest) → refine_parameters n (expr.Cover span None (Some rest)) ≡ Fits (rest_parameter rest ∷ [])
unfolding refine_parameters
rest-fits n span rest = ap (λ l. parameters_in n l) (expr.outs-Cover span None (Some rest))

held-is : (n : ℕ) (span : Span) (held : Expression) (rest : Rest) → refine_parameters n (expr.Cover span (Some held) (Some rest)) ≡ refined_map (λ es. es ++ rest_parameter rest ∷ []) (parameters_of n (parts_of held))
unfolding refine_parameters
held-is n span held rest = ap (λ l. parameters_in n l) (expr.outs-Cover span (Some held) (Some rest))

fits-within : {A B : Type 0} (k : A → B) (r : Refined A) (y : B) → refined_map k r ≡ Fits y → (x : A) × (r ≡ Fits x)
fits-within k (Fits x) y h = (x, refl)
fits-within k (Misfit at) y h = absurd (cc)
fits-within k TooNested y h = absurd (cc)

abbrev NoneFits : Expression → Type 0
NoneFits x = (n : ℕ) (es : List Parameter) → refine_parameters n x ≡ Fits es → ⊥

hit-and-miss : {A : Type 0} (o : Option A) (b : A) → o ≡ Some b → o ≡ None → ⊥
hit-and-miss o b h k = absurd (cc)

held-against : (f : Flags) {m o : Filled} {ts us : List Filled} {x held y : Expression} (span : Span) (rest : Rest) → NoneFits x → x ≡ expr.Cover span (Some held) (Some rest) → BeforeRest f ts m us held → IsCover f (o ∷ ts) y [] → (n : ℕ) (es : List Parameter) → refine_parameters n y ≡ Fits es → ⊥
held-against f span rest none w b (empty_cover {close = c} span' y p q e) n es r = hit-and-miss _ _ (mark-hit marks.RightParenthesis c q) (begins-no-close (with_in f) (c ∷ []) b.claim.begins)
held-against f span rest none w b (rest_cover {dots = d} {ts = ts} span' name y p h nm q e) n es r = hit-and-miss _ _ (mark-hit marks.Ellipsis d h) (begins-no-ellipsis (with_in f) (d ∷ ts) b.claim.begins)
held-against f span rest none w b (held_cover span' held' name y p k h k' nm q e) n es r =
    let z = before-rest f k h k' in
    let same = b.split_ ∙ same-parts b.claim z.claim ∙ sym z.split_ in
    let fit = fits-within _ (parameters_of n (parts_of held')) es (sym (held-is n span' held' _) ∙ ap (λ v. refine_parameters n v) (sym e) ∙ r) in
    none n (fit.0 ++ rest_parameter rest ∷ []) (ap (λ v. refine_parameters n v) w ∙ held-is n span _ rest ∙ ap (λ l. refined_map (λ ds. ds ++ rest_parameter rest ∷ []) (parameters_of n l)) same ∙ ap (λ v. refined_map (λ ds. ds ++ rest_parameter rest ∷ []) v) fit.1)

cover-against : (f : Flags) {ts : List Filled} {x y : Expression} → NoneFits x → IsCover f ts x [] → IsCover f ts y [] → (n : ℕ) (es : List Parameter) → refine_parameters n y ≡ Fits es → ⊥
cover-against f none (empty_cover span x p q e) c n es r = none n _ (ap (λ v. refine_parameters n v) e ∙ empty-fits n span)
cover-against f none (rest_cover span name x p h nm q e) c n es r = none n _ (ap (λ v. refine_parameters n v) e ∙ rest-fits n span _)
cover-against f none (held_cover span held name x p k h k' nm q e) c n es r = held-against f span _ none e (before-rest f k h k') c n es r

-- ## The law

none-fits : {r : Refined (List Parameter)} {at : ℕ} {es : List Parameter} → (r ≡ Misfit at) ⊎ (r ≡ TooNested) → r ≡ Fits es → ⊥
none-fits (inl k) e = absurd (cc)
none-fits (inr k) e = absurd (cc)

abbrev IsEither : Flags → List Filled → Expression → Type 0
IsEither f ts y = IsExpression f level_primary ts y [] ⊎ IsCover f ts y []

expression-spells-none : (f : Flags) (least : ℕ) (ts : List Filled) (x y : Expression) → NoneFits x → IsExpression f least ts x [] → IsEither f ts y → (n : ℕ) (es : List Parameter) → refine_parameters n y ≡ Fits es → ⊥
expression-spells-none f least ts x y none d (inl k) n es r = none n es (ap (λ v. refine_parameters n v) (one-expression f least level_primary ts x y d k) ∙ r)
expression-spells-none f least ts x y none d (inr k) n es r = not-both f d k

cover-spells-none : (f : Flags) (ts : List Filled) (x y : Expression) → NoneFits x → IsCover f ts x [] → IsEither f ts y → (n : ℕ) (es : List Parameter) → refine_parameters n y ≡ Fits es → ⊥
cover-spells-none f ts x y none d (inl k) n es r = not-both f k d
cover-spells-none f ts x y none d (inr k) n es r = cover-against f none d k n es r

pub no-parameters : MisfitsAreNoParameters
no-parameters x at h = record {
  spelled = λ f least ts d es e. let y = cover.parameters f ts [] es e in expression-spells-none f least ts x y.value (λ n es k. none-fits (h n) k) d y.spelled y.enough es (y.becomes y.enough (self-low y.enough));
  covered = λ f ts d es e. let y = cover.parameters f ts [] es e in cover-spells-none f ts x y.value (λ n es k. none-fits (h n) k) d y.spelled y.enough es (y.becomes y.enough (self-low y.enough));
}
