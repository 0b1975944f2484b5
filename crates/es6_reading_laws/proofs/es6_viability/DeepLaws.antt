-- Where a reader stops for depth at a token, more constructs than may be open are open there, in whatever a reader reads of tokens that
-- begin so of which more may be open.
use Rattle.std.proofs.Common.{◌≡◌, ◌∙◌, ℕ, zero, suc, ◌+◌, ◌<◌, true, false, List, [], ◌∷◌, ◌++◌, map, ap, sym, refl, subst, arith}
use Rattle.std.proofs.lemmas.Bool.{false≢true}
use Rattle.std.proofs.lemmas.List.{append_cancel_right, map-append}
use Rattle.es6_lexer.specs.declared.token.Token.{Token}
use Rattle.es6_ast.specs.declared.module.Item.{Item}
use Rattle.es6_ast.specs.declared.settings.Flags.{Flags}
use Rattle.es6_ast.specs.declared.settings.Stand.{Stand}
use Rattle.es6_ast.specs.declared.settings.Stop.{Stop}
use Rattle.es6_ast.specs.declared.settings.Stop.TheVariants.{Depth}
use Rattle.es6_ast.specs.Depth.{begin_of_last, expression_spans, item_spans, joined, module_spans, open_groups, opens_group, statement_spans}
use Rattle.es6_ast.specs.Tokens.{Filled, read}
use Rattle.es6_reading.specs.Expressions.{sequence}
use Rattle.es6_reading.specs.Modules.{readers, whole_module}
use Rattle.es6_reading.specs.Parser.{Input, Outcome, Took, Fault, Parser, Reading, Inner}
use Rattle.es6_reading.specs.Statements.{statement}
use Rattle.es6_reading.proofs.Follows.{plus, SameHead, same}
use Rattle.es6_reading.proofs.LocalExpressions as x'
use Rattle.es6_reading.proofs.LocalModules as m'
use Rattle.es6_reading.proofs.LocalReaders.{gain, grown}
use Rattle.es6_reading.proofs.Locality.{Local, LocalOf, took_so, stops_so, too_deep, too_long, not_inserted, same_mode}
use Rattle.es6_reading.proofs.Shallow.{opens_of, Sorted}
use Rattle.es6_reading.proofs.ShallowItems.{in_item}
use Rattle.es6_reading.proofs.SpanCounts.{around, around-append, around-is, sum_of, in_expression, in_statement}
use Rattle.es6_reading_laws.specs.es6_viability.TooDeep.{AreOfText, open_in_expression, open_in_module, open_in_statement}
use Rattle.es6_reading_laws.proofs.es6_viability.BesideStatements.{no-slack}
use Rattle.es6_reading_laws.proofs.es6_viability.Deep.{start, Limit, Mode, still, gone, Spot, Claim, Bound, At, Ready, held, stops, Runs, alike, went, alone}
use Rattle.es6_reading_laws.proofs.es6_viability.DeepExpressions as expressions'
use Rattle.es6_reading_laws.proofs.es6_viability.DeepItems as items'
use Rattle.es6_reading_laws.proofs.es6_viability.DeepLevels as levels'
use Rattle.es6_reading_laws.proofs.es6_viability.DeepReaders.{deeper}
use Rattle.es6_reading_laws.proofs.es6_viability.Texts.{sorted, forth, groups-of, begin-last, head-of}
use Rattle.es6_reading_laws.proofs.es6_viability.DeepStatements as statements'

-- ## A fault stands there whatever follows

module _ {A : Type 0} (p p0 : Parser A) (same-run : (c : Input) → p0 c ≡ p c) (local : (s : Input) → Local (gain zero false) p p0 s) where
  stop-of : {a b : Stop} {vs ws : List Filled} → ◌≡◌ {A = Outcome A} (Fault a vs) (Fault b ws) → a ≡ b
  stop-of e = cc

  rest-of : {a b : Stop} {vs ws : List Filled} → ◌≡◌ {A = Outcome A} (Fault a vs) (Fault b ws) → vs ≡ ws
  rest-of e = cc

  never : {x : A} {c : Input} {b : Stop} {ws : List Filled} → ◌≡◌ {A = Outcome A} (Took x c) (Fault b ws) → ⊥
  never e = absurd (cc)

  pub moves : (front us : List Filled) (stop : Stop) → p (record { tokens = front ++ us; last = 0 }) ≡ Fault stop us → (rest : List Filled) → SameHead us rest → p (record { tokens = front ++ rest; last = 0 }) ≡ Fault stop rest
  moves front us stop h rest w = by (local (record { tokens = front ++ us; last = 0 })) h
    where
      by : {o : Outcome A} → LocalOf (gain zero false) (λ vs. p0 (record { tokens = vs; last = 0 })) (front ++ us) o → o ≡ Fault stop us → p (record { tokens = front ++ rest; last = 0 }) ≡ Fault stop rest
      by (took_so front' e r) k = absurd (never k)
      by (stops_so {us = vs} front' e r) k =
          let same-front : front ≡ front' = append_cancel_right front front' us (e ∙ ap (λ ws. front' ++ ws) (rest-of k)) in
          sym (same-run (record { tokens = front ++ rest; last = 0 })) ∙ ap (λ ws. p0 (record { tokens = ws ++ rest; last = 0 })) same-front ∙ r rest (subst (λ ws. SameHead ws rest) (sym (rest-of k)) w) ∙ ap (λ a. Fault a rest) (stop-of k)
      by (too_deep m) k = absurd (no-slack m)
      by (too_long m) k = absurd (no-slack m)
      by (not_inserted m) k = absurd (false≢true m)

-- ## At the limit

never-both : {A : Type 0} {x : A} {c : Input} {stop : Stop} {ts : List Filled} (o : Outcome A) → o ≡ Took x c → o ≡ Fault stop ts → ⊥
never-both o h k = absurd (cc)

value-of : {A : Type 0} {x y : A} {c d : Input} → Took x c ≡ Took y d → x ≡ y
value-of e = cc

never-stops : {A : Type 0} {x : A} {c : Input} {stop : Stop} {ts : List Filled} → ◌≡◌ {A = Outcome A} (Fault stop ts) (Took x c) → ⊥
never-stops e = absurd (cc)

depth-rest : {A : Type 0} {vs ws : List Filled} → ◌≡◌ {A = Outcome A} (Fault Depth vs) (Fault Depth ws) → vs ≡ ws
depth-rest e = cc

-- Of two readers, of which the first one stops for depth at the token behind the front: whatever the second one reads of tokens of a
-- text that begin with these, more than `room` constructs are open at that token.
abbrev pub IsDeepAt : {A : Type 0} → ℕ → (A → List Token → ℕ) → Parser A → Parser A → Type 0
IsDeepAt {A = A} room count p q = (front behind : List Token) (t : Token) → p (record { tokens = map read (front ++ t ∷ behind); last = 0 }) ≡ Fault Depth (map read (t ∷ behind))
    → (others : List Token) → AreOfText (front ++ t ∷ others) → (x : A) (after : Input) → q (record { tokens = map read (front ++ t ∷ others); last = 0 }) ≡ Took x after → room < count x (front ++ t ∷ [])

-- Where the first one stops for depth at the end, the second one takes nothing.
abbrev pub StopsInside : {A : Type 0} → Parser A → Parser A → Type 0
StopsInside {A = A} p q = (tokens : List Token) → AreOfText tokens → p (record { tokens = map read tokens; last = 0 }) ≡ Fault Depth [] → (x : A) (after : Input) → q (record { tokens = map read tokens; last = 0 }) ≡ Took x after → ⊥

pub record IsDeep {A : Type 0} (room : ℕ) (count : A → List Token → ℕ) (p q : Parser A) : Type 0 where
  pub inside : StopsInside p q
  pub deep : IsDeepAt room count p q

-- what holds where the first reader stopped
pub record AtLimit {all : List Filled} {A : Type 0} (Q : A → Spot all → Type 0) (x : A) (us : List Filled) : Type 0 where
  pub limit : Limit all
  pub there : limit.token ∷ limit.behind ≡ us
  pub groups : ℕ
  pub input : Input
  pub holds : Q x (record { mode = gone limit; groups = groups; input = input })

limit-of : {all : List Filled} {A : Type 0} {Q : A → Spot all → Type 0} {m : Mode all} {o o' : Outcome A} (x : A) (after : Input) (us : List Filled) → Runs Q m o o' → m ≡ still → o ≡ Fault Depth us → o' ≡ Took x after → AtLimit Q x us
limit-of x after us (alike {o = o} h) e k q = absurd (never-both o q k)
limit-of {Q = Q} x after us (went {l = l} (held {c = c} {n = n} h)) e k q = record { limit = l; there = depth-rest k; groups = n; input = c; holds = subst (λ y. Q y (record { mode = gone l; groups = n; input = c })) (value-of q) h }
limit-of x after us (went stops) e k q = absurd (never-stops q)
limit-of x after us (alone h) e k q = absurd (cc)

open-at : (all : List Filled) (room : ℕ) (s : Spot all) (D : ℕ → ℕ) (last : ℕ) (l : Limit all) (front : List Token) (t : Token) (us : List Filled) → all ≡ map read front ++ read t ∷ us → l.token ∷ l.behind ≡ read t ∷ us → Bound room s 0 last l D
    → room < open_groups 0 (front ++ t ∷ []) + D (begin_of_last (front ++ t ∷ []))
open-at all room s D last l front t us e k b =
    let g : open_groups 0 (front ++ t ∷ []) ≡ l.groups + opens_group t.kind = groups-of (forth l.stands) front t us e k in
    let token : l.token ≡ read t = head-of k in
    let opens : opens_of l.token.kind ≡ opens_group t.kind = ap (λ u. opens_of u.kind) token in
    let place : D l.token.span.begin ≡ D (begin_of_last (front ++ t ∷ [])) = ap (λ u. D u.span.begin) token ∙ ap D (sym (begin-last front t)) in
    omega (arith, b.deep, g, opens, place)

abbrev pub begin-of : (all : List Filled) → Spot all
begin-of all = record { mode = still; groups = 0; input = record { tokens = all; last = 0 } }

pub ready-of : (all : List Filled) (room : ℕ) → Sorted 0 all → Ready room 0 (begin-of all)
ready-of all room w = record { enough = omega arith; stands = start; sorted = w; fits = λ u. omega arith }

plus-is : (n l : ℕ) → plus n l ≡ n + l
plus-is zero l = omega arith
plus-is (suc n) l = ap (λ m. suc m) (plus-is n l) ∙ step (n + l) l
  where
    step : (m l : ℕ) → suc (n + l) ≡ suc n + l
    step m l = omega arith

plus-zero : (n : ℕ) → plus n zero ≡ n
plus-zero n = plus-is n zero ∙ none n
  where
    none : (n : ℕ) → n + zero ≡ n
    none n = omega arith

-- a reader and one of which more may open
module _ {A : Type 0} (count : A → List Token → ℕ) (D : A → ℕ → ℕ) (counts : (x : A) (tokens : List Token) → open_groups 0 tokens + D x (begin_of_last tokens) ≡ count x tokens) (room : ℕ) (p p0 q : Parser A) (same-run : (c : Input) → p0 c ≡ p c) (local : (s : Input) → Local (gain zero false) p p0 s)
    (Q : (all : List Filled) → A → Spot all → Type 0) (runs : (all : List Filled) → Sorted 0 all → Runs (Q all) still (p (record { tokens = all; last = 0 })) (q (record { tokens = all; last = 0 })))
    (bound : (all : List Filled) (x : A) (l : Limit all) (n : ℕ) (c : Input) → Q all x (record { mode = gone l; groups = n; input = c }) → (last : ℕ) × Bound room (begin-of all) 0 last l (D x)) where
  inside-them : StopsInside p q
  inside-them tokens a h x after k = (let l = limit-of x after [] (runs (map read tokens) (sorted tokens a)) refl h k in none l.limit.token l.limit.behind l.there)
    where
      none : (t : Filled) (ts : List Filled) → t ∷ ts ≡ [] → ⊥
      none t ts e = absurd (cc)

  deep-at : IsDeepAt room count p q
  deep-at front behind t h others a x after k =
      let all : List Filled = map read (front ++ t ∷ others) in
      let whole : all ≡ map read front ++ read t ∷ map read others = map-append read front (t ∷ others) in
      let before : p (record { tokens = map read front ++ map read (t ∷ behind); last = 0 }) ≡ Fault Depth (map read (t ∷ behind)) = ap (λ ts. p (record { tokens = ts; last = 0 })) (sym (map-append read front (t ∷ behind))) ∙ h in
      let stopped : p (record { tokens = all; last = 0 }) ≡ Fault Depth (read t ∷ map read others) = ap (λ ts. p (record { tokens = ts; last = 0 })) whole ∙ moves p p0 same-run local (map read front) (map read (t ∷ behind)) Depth before (read t ∷ map read others) same in
      let l = limit-of x after (read t ∷ map read others) (runs all (sorted (front ++ t ∷ others) a)) refl stopped k in
      let b = bound all x l.limit l.groups l.input l.holds in
      subst (λ n. room < n) (counts x (front ++ t ∷ [])) (open-at all room (begin-of all) (D x) b.0 l.limit front t (map read others) whole l.there b.1)

  is-deep : IsDeep room count p q
  is-deep = record { inside = inside-them; deep = deep-at }

pub spans-are : (xs : List Item) (at : ℕ) → around (joined item_spans xs) at ≡ sum_of in_item xs at
spans-are [] at = refl
spans-are (x ∷ xs) at = omega (arith, around-append (item_spans x) (joined item_spans xs) at, spans-are xs at)

module _ (fuel room more : ℕ) where
  pub same-readers : {A : Type 0} (p : Inner → Parser A) (c : Input) → p (readers true (plus fuel zero) (plus room zero)) c ≡ p (readers true fuel room) c
  same-readers p c = ap (λ n. p (readers true n (plus room zero)) c) (plus-zero fuel) ∙ ap (λ n. p (readers true fuel n) c) (plus-zero room)

  pub expressions : (f : Flags) → IsDeep room (λ (x : Reading). open_in_expression x.value) (sequence (readers true fuel room) f) (sequence (readers true fuel (plus room more)) f)
  expressions f = is-deep (λ (x : Reading). open_in_expression x.value) (λ x. in_expression x.value) (λ x tokens. ap (λ n. open_groups 0 tokens + n) (around-is (expression_spans x.value) (begin_of_last tokens))) room
      (sequence (readers true fuel room) f) (sequence (readers true (plus fuel zero) (plus room zero)) f) (sequence (readers true fuel (plus room more)) f)
      (λ c. same-readers (λ i. sequence i f) c) (λ s. x'.sequence (readers true fuel room) (readers true (plus fuel zero) (plus room zero)) (grown false true true fuel room zero same_mode) f s)
      (λ all. expressions'.ExpressionAt room (begin-of all)) (λ all w. levels'.sequence (readers true fuel room) (readers true fuel (plus room more)) room (deeper true fuel room more) f (begin-of all) (ready-of all room w))
      (λ all x l n c a. (c.last, a.0.claim))

  pub statements : (f : Flags) (stand : Stand) → IsDeep room open_in_statement (statement (readers true fuel room) f stand) (statement (readers true fuel (plus room more)) f stand)
  statements f stand = is-deep open_in_statement in_statement (λ x tokens. ap (λ n. open_groups 0 tokens + n) (around-is (statement_spans x) (begin_of_last tokens))) room
      (statement (readers true fuel room) f stand) (statement (readers true (plus fuel zero) (plus room zero)) f stand) (statement (readers true fuel (plus room more)) f stand)
      (λ c. same-readers (λ i. statement i f stand) c) (λ s. m'.statement (readers true fuel room) (readers true (plus fuel zero) (plus room zero)) (grown false true true fuel room zero same_mode) f stand s)
      (λ all. statements'.StatementAt room (begin-of all)) (λ all w. statements'.statement (readers true fuel room) (readers true fuel (plus room more)) room (deeper true fuel room more) f stand (begin-of all) (ready-of all room w))
      (λ all x l n c a. (c.last, a.0.claim))

  pub modules : IsDeep room open_in_module (whole_module (readers true fuel room)) (whole_module (readers true fuel (plus room more)))
  modules = is-deep open_in_module (λ m. sum_of in_item m.items) (λ m tokens. ap (λ n. open_groups 0 tokens + n) (sym (spans-are m.items (begin_of_last tokens)) ∙ around-is (module_spans m) (begin_of_last tokens))) room
      (whole_module (readers true fuel room)) (whole_module (readers true (plus fuel zero) (plus room zero))) (whole_module (readers true fuel (plus room more)))
      (λ c. same-readers (λ i. whole_module i) c) (λ s. m'.whole_module (readers true fuel room) (readers true (plus fuel zero) (plus room zero)) (grown false true true fuel room zero same_mode) s)
      (λ all m d. (c : Spot all) × (d.mode ≡ c.mode) × At false room (begin-of all) 0 0 c (sum_of in_item m.items)) (λ all w. items'.whole (readers true fuel room) (readers true fuel (plus room more)) room (deeper true fuel room more) (begin-of all) (ready-of all room w))
      (λ all m l n c a. (a.0.input.last, subst (λ k. Claim room (begin-of all) 0 still k a.0.input.last (sum_of in_item m.items)) (sym a.1) a.2.claim))
