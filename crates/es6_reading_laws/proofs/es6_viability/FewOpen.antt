-- At each token that a reader passes, at most as many constructs are open as may be, in whatever a reader reads of tokens that begin so of
-- which more may be open.
use Rattle.std.proofs.Common.{◌≡◌, ◌∙◌, ◌⊎◌, inl, inr, ℕ, zero, suc, ◌+◌, ◌≤◌, true, false, List, [], ◌∷◌, ◌++◌, append_assoc, length, map, ap, sym, refl, subst, arith}
use Rattle.std.proofs.lemmas.Bool.{false≢true}
use Rattle.std.proofs.lemmas.List.{length-map, map-append}
use Rattle.es6_lexer.specs.declared.token.Token.{Token}
use Rattle.es6_ast.specs.declared.settings.Flags.{Flags}
use Rattle.es6_ast.specs.declared.settings.Stand.{Stand}
use Rattle.es6_ast.specs.declared.settings.Stop.{Stop}
use Rattle.es6_ast.specs.Depth.{begin_of_last, expression_spans, module_spans, open_groups, statement_spans}
use Rattle.es6_ast.specs.Tokens.{Filled, read}
use Rattle.es6_reading.specs.Expressions.{sequence}
use Rattle.es6_reading.specs.Modules.{most_open, readers, whole_module}
use Rattle.es6_reading.specs.Parser.{Input, Outcome, Took, Fault, Parser, Reading}
use Rattle.es6_reading.specs.Statements.{statement}
use Rattle.es6_reading.proofs.Follows.{plus, SameHead, same}
use Rattle.es6_reading.proofs.LocalExpressions as x'
use Rattle.es6_reading.proofs.LocalModules as m'
use Rattle.es6_reading.proofs.LocalReaders.{gain, grown}
use Rattle.es6_reading.proofs.Locality.{Local, LocalOf, took_so, stops_so, too_deep, too_long, not_inserted, same_mode}
use Rattle.es6_reading.proofs.Shallow.{Sorted, Walk}
use Rattle.es6_reading.proofs.ShallowItems.{in_item}
use Rattle.es6_reading.proofs.SpanCounts.{around-is, sum_of, in_expression, in_statement}
use Rattle.es6_reading_laws.specs.es6_viability.TooDeep.{AreOfText, IsShallowIn, Passes, open_in_expression, open_in_module, open_in_statement}
use Rattle.es6_reading_laws.proofs.es6_viability.BesideStatements.{no-slack}
use Rattle.es6_reading_laws.proofs.es6_viability.Deep.{Limit, Mode, still, gone, Spot, Walked, At, held, stops, Runs, alike, went, alone}
use Rattle.es6_reading_laws.proofs.es6_viability.DeepExpressions as expressions'
use Rattle.es6_reading_laws.proofs.es6_viability.DeepItems as items'
use Rattle.es6_reading_laws.proofs.es6_viability.DeepLaws.{begin-of, ready-of, same-readers, spans-are}
use Rattle.es6_reading_laws.proofs.es6_viability.DeepLevels as levels'
use Rattle.es6_reading_laws.proofs.es6_viability.DeepReaders.{deeper}
use Rattle.es6_reading_laws.proofs.es6_viability.DeepStatements as statements'
use Rattle.es6_reading_laws.proofs.es6_viability.ShallowLaws.{bounded, expressions-are-shallow, modules-are-shallow, statements-are-shallow}
use Rattle.es6_reading_laws.proofs.es6_viability.Texts.{begin-last, head-of, sorted, tail-of}
use Rattle.es6_reading_laws.proofs.es6_viability.Viable.{left}

-- ## A token that isn't passed, isn't passed whatever follows

-- what lies between a front and what is left, which is the rest or more
record Between (front rest taken us : List Filled) : Type 0 where
  more : List Filled
  left_is : us ≡ more ++ rest
  front_is : front ≡ taken ++ more

up : (a b : ℕ) → a ≤ b → a ≤ suc b
up a b h = omega arith

low : (n : ℕ) → n ≤ n
low n = omega arith

least : (front us : List Filled) → length us ≤ length (front ++ us)
least [] us = low (length us)
least (t ∷ front) us = up (length us) (length (front ++ us)) (least front us)

never-less : (a b c : ℕ) → a ≡ suc b → c ≤ b → a ≤ c → ⊥
never-less a b c e l m = omega arith

between : (taken front rest us : List Filled) → front ++ rest ≡ taken ++ us → length rest ≤ length us → Between front rest taken us
between [] front rest us e l = record { more = front; left_is = sym e; front_is = refl }
between (t ∷ taken) [] rest us e l = absurd (never-less (length rest) (length (taken ++ us)) (length us) (ap length e) (least taken us) l)
between (t ∷ taken) (u ∷ front) rest us e l =
    let r = between taken front rest us (tail-of e) l in
    record { more = r.more; left_is = r.left_is; front_is = ap (λ v. v ∷ front) (head-of e) ∙ ap (λ vs. t ∷ vs) r.front_is }

same-heads : (more : List Filled) (t : Filled) (us vs : List Filled) → SameHead (more ++ t ∷ us) (more ++ t ∷ vs)
same-heads [] t us vs = same
same-heads (u ∷ more) t us vs = same

module _ {A : Type 0} (p p0 : Parser A) (same-run : (c : Input) → p0 c ≡ p c) (local : (s : Input) → Local (gain zero false) p p0 s) where
  module _ (front others behind : List Filled) (t : Filled) where
    abbrev run : List Filled → Outcome A
    run us = p (record { tokens = us; last = 0 })

    moved : (taken us : List Filled) (o : List Filled → Outcome A) → front ++ t ∷ others ≡ taken ++ us → suc (length others) ≤ length us → ((rest : List Filled) → SameHead us rest → p0 (record { tokens = taken ++ rest; last = 0 }) ≡ o rest) → (rest : List Filled) × (run (front ++ t ∷ behind) ≡ o rest) × (suc (length behind) ≤ length rest)
    moved taken us o e l r =
        let b = between taken front (t ∷ others) us e l in
        let rest : List Filled = b.more ++ t ∷ behind in
        let place : front ++ t ∷ behind ≡ taken ++ rest = ap (λ vs. vs ++ t ∷ behind) b.front_is ∙ append_assoc taken b.more (t ∷ behind) in
        (rest, sym (same-run (record { tokens = front ++ t ∷ behind; last = 0 })) ∙ ap (λ vs. p0 (record { tokens = vs; last = 0 })) place ∙ r rest (subst (λ vs. SameHead vs rest) (sym b.left_is) (same-heads b.more t others behind)), least b.more (t ∷ behind))

    by-local : {o : Outcome A} → LocalOf (gain zero false) (λ vs. p0 (record { tokens = vs; last = 0 })) (front ++ t ∷ others) o → suc (length others) ≤ length (left o) → suc (length behind) ≤ length (left (run (front ++ t ∷ behind)))
    by-local (took_so {x = x} {c = c} taken e r) l =
        let m = moved taken c.tokens (λ rest. Took x (record { tokens = rest; last = c.last })) e l r in
        subst (λ o. suc (length behind) ≤ length (left o)) (sym m.1) m.2
    by-local (stops_so {stop = stop} {us = us} taken e r) l =
        let m = moved taken us (λ rest. Fault stop rest) e l r in
        subst (λ o. suc (length behind) ≤ length (left o)) (sym m.1) m.2
    by-local (too_deep m) l = absurd (no-slack m)
    by-local (too_long m) l = absurd (no-slack m)
    by-local (not_inserted m) l = absurd (false≢true m)

    pub not-passed : suc (length others) ≤ length (left (run (front ++ t ∷ others))) → suc (length behind) ≤ length (left (run (front ++ t ∷ behind)))
    not-passed l = by-local (local (record { tokens = front ++ t ∷ others; last = 0 })) l

order : (a b : ℕ) → (a ≤ b) ⊎ (suc b ≤ a)
order zero b = inl (zero-least b)
  where
    zero-least : (b : ℕ) → 0 ≤ b
    zero-least b = omega arith
order (suc a) zero = inr (one-least a)
  where
    one-least : (a : ℕ) → 1 ≤ suc a
    one-least a = omega arith
order (suc a) (suc b) = step (order a b)
  where
    step : (a ≤ b) ⊎ (suc b ≤ a) → (suc a ≤ suc b) ⊎ (suc (suc b) ≤ suc a)
    step (inl h) = inl (omega (arith, h))
    step (inr h) = inr (omega (arith, h))

passes-left : {A : Type 0} (o : Outcome A) (n : ℕ) → Passes n o → length (left o) ≤ n
passes-left (Took x c) n h = h
passes-left (Fault stop rest) n h = h.1

never-both : (a b : ℕ) → suc a ≤ b → b ≤ a → ⊥
never-both a b h k = omega arith

-- ## What is passed

-- Of two readers: whatever the second one reads of tokens of a text that begin with those up to one that the first one passes, at most
-- `room` constructs are open at that one.
abbrev pub IsFew : {A : Type 0} → ℕ → (A → List Token → ℕ) → Parser A → Parser A → Type 0
IsFew {A = A} room count p q = (front behind : List Token) (t : Token) → Passes (length behind) (p (record { tokens = map read (front ++ t ∷ behind); last = 0 }))
    → (others : List Token) → AreOfText (front ++ t ∷ others) → (x : A) (after : Input) → q (record { tokens = map read (front ++ t ∷ others); last = 0 }) ≡ Took x after → count x (front ++ t ∷ []) ≤ room

value-of : {A : Type 0} {x y : A} {c d : Input} → Took x c ≡ Took y d → x ≡ y
value-of e = cc

never-stops : {A : Type 0} {x : A} {c : Input} {stop : Stop} {ts : List Filled} → ◌≡◌ {A = Outcome A} (Fault stop ts) (Took x c) → ⊥
never-stops e = absurd (cc)

module _ {A : Type 0} (count : A → List Token → ℕ) (D : A → ℕ → ℕ) (counts : (x : A) (tokens : List Token) → open_groups 0 tokens + D x (begin_of_last tokens) ≡ count x tokens) (room : ℕ) (p p0 q : Parser A) (same-run : (c : Input) → p0 c ≡ p c) (local : (s : Input) → Local (gain zero false) p p0 s)
    (Q : (all : List Filled) → A → Spot all → Type 0) (runs : (all : List Filled) → Sorted 0 all → Runs (Q all) still (p (record { tokens = all; last = 0 })) (q (record { tokens = all; last = 0 }))) (shallow : IsShallowIn room count p)
    (walks : (all : List Filled) (x : A) (l : Limit all) (n : ℕ) (c : Input) → Q all x (record { mode = gone l; groups = n; input = c }) → (low high k : ℕ) × Walk room (D x) low high 0 all k (l.token ∷ l.behind)) where
  module _ (front others : List Token) (t : Token) (text : AreOfText (front ++ t ∷ others)) (x : A) (after : Input) where
    abbrev all : List Filled
    all = map read (front ++ t ∷ others)

    by : {m : Mode all} {o o' : Outcome A} → Runs (Q all) m o o' → m ≡ still → p (record { tokens = all; last = 0 }) ≡ o → o' ≡ Took x after → length (left o) ≤ length others → count x (front ++ t ∷ []) ≤ room
    by (alike h) m e k l = shallow (front ++ t ∷ others) text x after (e ∙ k) front others t refl (subst (λ o. length (left o) ≤ length others) k l)
    by (went {l = limit} (held {c = c} {n = n} h)) m e k l =
        let w = walks all x limit n c (subst (λ y. Q all y (record { mode = gone limit; groups = n; input = c })) (value-of k) h) in
        let b = bounded w.3 front t (map read others) (map-append read front (t ∷ others)) (subst (λ n. length (limit.token ∷ limit.behind) ≤ n) (sym (length-map others read)) l) in
        subst (λ n. n ≤ room) (counts x (front ++ t ∷ [])) (subst (λ at. open_groups 0 (front ++ t ∷ []) + D x at ≤ room) (sym (begin-last front t)) b)
    by (went stops) m e k l = absurd (never-stops k)
    by (alone h) m e k l = absurd (cc)

  abbrev made_of : List Token → Outcome A
  made_of tokens = p (record { tokens = map read tokens; last = 0 })

  over : (front behind others : List Token) (t : Token) → Passes (length behind) (made_of (front ++ t ∷ behind)) → suc (length others) ≤ length (left (made_of (front ++ t ∷ others))) → ⊥
  over front behind others t h l =
      let e = not-passed p p0 same-run local (map read front) (map read others) (map read behind) (read t)
      (subst (λ ts. suc (length (map read others)) ≤ length (left (p (record { tokens = ts; last = 0 })))) (map-append read front (t ∷ others)) (subst (λ n. suc n ≤ length (left (made_of (front ++ t ∷ others)))) (sym (length-map others read)) l)) in
      let n : length (map read behind) ≡ length behind = length-map behind read in
      let short = passes-left (made_of (front ++ t ∷ behind)) (length behind) h in
      never-both (length behind) (length (left (made_of (front ++ t ∷ behind)))) (subst (λ ts. suc (length behind) ≤ length (left (p (record { tokens = ts; last = 0 })))) (sym (map-append read front (t ∷ behind))) (subst (λ k. suc k ≤ length (left (p (record { tokens = map read front ++ read t ∷ map read behind; last = 0 })))) n e)) short

  at-most : (front behind others : List Token) (t : Token) → Passes (length behind) (made_of (front ++ t ∷ behind)) → (length (left (made_of (front ++ t ∷ others))) ≤ length others) ⊎ (suc (length others) ≤ length (left (made_of (front ++ t ∷ others)))) → length (left (made_of (front ++ t ∷ others))) ≤ length others
  at-most front behind others t h (inl l) = l
  at-most front behind others t h (inr l) = absurd (over front behind others t h l)

  few : IsFew room count p q
  few front behind t h others text x after k =
      by front others t text x after (runs (map read (front ++ t ∷ others)) (sorted (front ++ t ∷ others) text)) refl refl k (at-most front behind others t h (order (length (left (made_of (front ++ t ∷ others)))) (length others)))

module _ (fuel room more : ℕ) where
  pub expressions : (f : Flags) → IsFew room (λ (x : Reading). open_in_expression x.value) (sequence (readers true fuel room) f) (sequence (readers true fuel (plus room more)) f)
  expressions f = few (λ (x : Reading). open_in_expression x.value) (λ x. in_expression x.value) (λ x tokens. ap (λ n. open_groups 0 tokens + n) (around-is (expression_spans x.value) (begin_of_last tokens))) room
      (sequence (readers true fuel room) f) (sequence (readers true (plus fuel zero) (plus room zero)) f) (sequence (readers true fuel (plus room more)) f)
      (λ c. same-readers fuel room more (λ i. sequence i f) c) (λ s. x'.sequence (readers true fuel room) (readers true (plus fuel zero) (plus room zero)) (grown false true true fuel room zero same_mode) f s)
      (λ all. expressions'.ExpressionAt room (begin-of all)) (λ all w. levels'.sequence (readers true fuel room) (readers true fuel (plus room more)) room (deeper true fuel room more) f (begin-of all) (ready-of all room w))
      (expressions-are-shallow fuel room f) (λ all x l n c a. (0, c.last, a.0.walk.0, a.0.walk.1))

  pub statements : (f : Flags) (stand : Stand) → IsFew room open_in_statement (statement (readers true fuel room) f stand) (statement (readers true fuel (plus room more)) f stand)
  statements f stand = few open_in_statement in_statement (λ x tokens. ap (λ n. open_groups 0 tokens + n) (around-is (statement_spans x) (begin_of_last tokens))) room
      (statement (readers true fuel room) f stand) (statement (readers true (plus fuel zero) (plus room zero)) f stand) (statement (readers true fuel (plus room more)) f stand)
      (λ c. same-readers fuel room more (λ i. statement i f stand) c) (λ s. m'.statement (readers true fuel room) (readers true (plus fuel zero) (plus room zero)) (grown false true true fuel room zero same_mode) f stand s)
      (λ all. statements'.StatementAt room (begin-of all)) (λ all w. statements'.statement (readers true fuel room) (readers true fuel (plus room more)) room (deeper true fuel room more) f stand (begin-of all) (ready-of all room w))
      (statements-are-shallow fuel room f stand) (λ all x l n c a. (0, c.last, a.0.walk.0, a.0.walk.1))

pub modules : (fuel more : ℕ) → IsFew most_open open_in_module (whole_module (readers true fuel most_open)) (whole_module (readers true fuel (plus most_open more)))
modules fuel more = few open_in_module (λ m. sum_of in_item m.items) (λ m tokens. ap (λ n. open_groups 0 tokens + n) (sym (spans-are m.items (begin_of_last tokens)) ∙ around-is (module_spans m) (begin_of_last tokens))) most_open
    (whole_module (readers true fuel most_open)) (whole_module (readers true (plus fuel zero) (plus most_open zero))) (whole_module (readers true fuel (plus most_open more)))
    (λ c. same-readers fuel most_open more (λ i. whole_module i) c) (λ s. m'.whole_module (readers true fuel most_open) (readers true (plus fuel zero) (plus most_open zero)) (grown false true true fuel most_open zero same_mode) s)
    (λ all m d. (c : Spot all) × (d.mode ≡ c.mode) × At false most_open (begin-of all) 0 0 c (sum_of in_item m.items)) (λ all w. items'.whole (readers true fuel most_open) (readers true fuel (plus most_open more)) most_open (deeper true fuel most_open more) (begin-of all) (ready-of all most_open w))
    (modules-are-shallow fuel) (λ all m l n c a. let w = subst (λ k. Walked most_open (sum_of in_item m.items) (begin-of all).input 0 a.0.input 0 still k) (sym a.1) a.2.walk in (0, a.0.input.last, w.0, w.1))
