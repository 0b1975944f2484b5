-- The readers tied into one another look at no token past the first one that they don't take, and read the same where more may open and
-- loops have more turns. So a fault stands at a token with which no script goes on.
use Rattle.std.proofs.Common.{◌≡◌, ◌∙◌, ◌⊎◌, inl, inr, ℕ, zero, suc, ◌+◌, ◌≤◌, arith, Bool, true, false, List, [], ◌∷◌, ◌++◌, Option, Some, None, cond, refl, sym, ap, subst}
use Rattle.std.proofs.lemmas.Bool.{false≢true}
use Rattle.std.proofs.lemmas.List.{append_cancel_right}
use Rattle.es5_ast.specs.declared.tree.Stat5.{Stat5}
use Rattle.es5_ast.specs.Lexical.{Token5}
use Rattle.es5_ast.specs.Grammar.{Mode5, IsProgram}
use Rattle.es5_ast.specs.Script.{IsStrict}
use Rattle.es5_ast.specs.Depth.{most_open}
use Rattle.es5_reading.specs.Parser.{Input5, Stop5, Syntax, Outside, Endless, Outcome5, Took, Fault, Inner5}
use Rattle.es5_reading.specs.Expressions as e5
use Rattle.es5_reading.specs.Expressions.{begins_operand, begins_expression}
use Rattle.es5_reading.specs.Statements as s5
use Rattle.es5_reading.specs.Statements.{begins_statement}
use Rattle.es5_reading.specs.Programs.{readers, program, is_directive, continues, second_fault, directive_fault, unless_fault, script}
use Rattle.es5_reading.specs.Laws.{IsReadInFull}
use Rattle.es5_reading.proofs.Meanings.{some_same}
use Rattle.es5_reading.proofs.Follows.{plus, SameHead, nothing, same}
use Rattle.es5_reading_laws.specs.Laws.{BeginAlike, IsFinal, FaultsStay, AnswersLast, FaultsAreDead, FaultsSayWhatStandsThere, Says, no_token, no_directive}
use Rattle.es5_reading_laws.proofs.Locality.{More, more_of, Slack, slack, Local, LocalOf, took_so, stops_so, too_deep, too_long, bind, done, stops, deep, left_out, looks, looks_so, endless, alike, opens_now}
use Rattle.es5_reading_laws.proofs.LocalReaders as r
use Rattle.es5_reading_laws.proofs.LocalReaders.{Grown}
use Rattle.es5_reading_laws.proofs.Directive.{no-fault, directive-true}
use Rattle.es5_reading_laws.proofs.Rows.{division, with-word}
use Rattle.es5_reading_laws.proofs.LocalLimits.{callee-limit, unary-limit, assignment-limit, sequence-limit, statement-limit, stops_there, at-limit}

-- ## Where no construct may open any more

no-expression : {l : More} (s : Input5) → Local l e5.no_expression e5.no_expression s
unfolding e5.no_expression
no-expression s = looks_so _ _ _ _ _ s (λ e. left_out (division s.tokens e)) stops

no-statement : {l : More} (s : Input5) → Local l stops_there stops_there s
no-statement s = looks _ _ _ _ _ s stops (looks_so _ _ _ _ _ s (λ e. left_out (with-word s.tokens e)) (looks_so _ _ _ _ _ s (λ e. left_out (division s.tokens e)) stops))

expression-alike : {l : More} (s : Input5) → Local l e5.expression_at_limit e5.expression_at_limit s
unfolding e5.expression_at_limit
expression-alike s = looks _ _ _ _ _ s deep (no-expression s)

callee-alike : {l : More} (s : Input5) → Local l e5.callee_at_limit e5.callee_at_limit s
unfolding e5.callee_at_limit
callee-alike s = looks _ _ _ _ _ s deep (no-expression s)

statement-alike : {l : More} (inside : Bool) (s : Input5) → Local l (s5.statement_at_limit inside) (s5.statement_at_limit inside) s
unfolding s5.statement_at_limit
statement-alike inside s = looks _ _ _ _ _ s deep (no-statement s)

module _ {l : More} (m : Slack l.room) (j : Inner5) where
  sequence-now : (k : Bool) (s : Input5) → Local l e5.expression_at_limit (e5.sequence j k) s
  unfolding e5.expression_at_limit
  sequence-now k s = at-limit begins_expression e5.no_expression (e5.sequence j k) m (sequence-limit j k) s (no-expression s)

  assignment-now : (k : Bool) (s : Input5) → Local l e5.expression_at_limit (e5.assignment j k) s
  unfolding e5.expression_at_limit
  assignment-now k s = at-limit begins_expression e5.no_expression (e5.assignment j k) m (assignment-limit j k) s (no-expression s)

  unary-now : (s : Input5) → Local l e5.expression_at_limit (e5.unary j) s
  unfolding e5.expression_at_limit
  unary-now s = at-limit begins_expression e5.no_expression (e5.unary j) m (unary-limit j) s (no-expression s)

  callee-now : (s : Input5) → Local l e5.callee_at_limit (e5.chain j false) s
  unfolding e5.callee_at_limit
  callee-now s = at-limit begins_operand e5.no_expression (e5.chain j false) m (callee-limit j) s (no-expression s)

  statement-now : (inside top : Bool) → (top ≡ true → false ≡ true) → (s : Input5) → Local l (s5.statement_at_limit inside) (s5.statement j inside top) s
  unfolding s5.statement_at_limit
  statement-now inside true w s = absurd (false≢true (w refl))
  statement-now inside false w s = at-limit (begins_statement inside) stops_there (s5.statement j inside false) m (statement-limit j inside) s (no-statement s)

-- ## All readers

grown : (mode : Bool) (fuel room turns more : ℕ) → Grown (more_of turns more) (readers mode fuel room) (readers mode (plus fuel turns) (plus room more))
unfolding readers
grown mode fuel zero turns zero = record {
  mode = refl;
  turns = refl;
  opens = alike;
  sequence = λ k s. expression-alike s;
  assignment = λ k s. expression-alike s;
  unary = λ s. expression-alike s;
  callee = λ s. callee-alike s;
  property = λ s. deep;
  declared = λ k s. deep;
  statement = λ inside top w s. statement-alike inside s;
}
grown mode fuel zero turns (suc more) =
    let j : Inner5 = readers mode (plus fuel turns) more in
    record {
      mode = refl;
      turns = refl;
      opens = opens_now slack;
      sequence = sequence-now slack j;
      assignment = assignment-now slack j;
      unary = unary-now slack j;
      callee = callee-now slack j;
      property = λ s. too_deep slack;
      declared = λ k s. too_deep slack;
      statement = λ inside top w s. statement-now slack j inside top w s;
    }
grown mode fuel (suc room) turns more =
    let l : More = more_of turns more in
    let i : Inner5 = readers mode fuel room in
    let j : Inner5 = readers mode (plus fuel turns) (plus room more) in
    let deeper : Grown l i j = grown mode fuel room turns more in
    record {
      mode = refl;
      turns = refl;
      opens = alike;
      sequence = λ k s. r.sequence l i j deeper k s;
      assignment = λ k s. r.assignment l i j deeper k s;
      unary = λ s. r.unary l i j deeper s;
      callee = λ s. r.chain l i j deeper false s;
      property = λ s. r.property l i j deeper s;
      declared = λ k s. r.declared l i j deeper k s;
      statement = λ inside top w s. r.statement l i j deeper inside top s;
    }

programs : (l : More) (i j : Inner5) → Grown l i j → (n : ℕ) (s : Input5) → Local l (program i n) (program j (plus n l.turns)) s
unfolding program
programs l i j h zero s = endless (λ n. program j n) l (λ c. refl) s
programs l i j h (suc n) s = looks _ _ _ _ _ s (bind _ _ (r.statement l i j h false true s) λ x c. bind _ _ (programs l i j h n c) λ y d. done) done

-- ## Faults

alike-head : (ts us : List Token5) → BeginAlike ts us → SameHead ts us
alike-head [] us e = subst (λ vs. SameHead [] vs) (sym e) nothing
alike-head (t ∷ ts) us (rest, e) = subst (λ vs. SameHead (t ∷ ts) vs) (sym e) same

-- a fault of a reader, and what the reader with more gives of other tokens
record FaultOf (run : List Token5 → Outcome5 (List Stat5)) (ts : List Token5) (stop : Stop5) (us : List Token5) : Type 0 where
  front : List Token5
  splits : ts ≡ front ++ us
  stays : (rest : List Token5) → SameHead us rest → run (front ++ rest) ≡ Fault stop rest

abbrev stopped_at : Stop5 → List Token5 → Outcome5 (List Stat5)
stopped_at stop us = Fault stop us

same-stop : {a b : Stop5} {vs ws : List Token5} → stopped_at a vs ≡ stopped_at b ws → a ≡ b
same-stop h = cc

same-rest : {a b : Stop5} {vs ws : List Token5} → stopped_at a vs ≡ stopped_at b ws → vs ≡ ws
same-rest h = cc

moved : {run : List Token5 → Outcome5 (List Stat5)} {ts : List Token5} {a b : Stop5} {vs ws : List Token5} → a ≡ b → vs ≡ ws → FaultOf run ts a vs → FaultOf run ts b ws
moved {run = run} {ts = ts} {a = a} {ws = ws} e k r = subst (λ v. FaultOf run ts v ws) e (subst (λ v. FaultOf run ts a v) k r)

fault-of : {l : More} {run : List Token5 → Outcome5 (List Stat5)} {ts us : List Token5} {stop : Stop5} {o : Outcome5 (List Stat5)} → LocalOf l run ts o → o ≡ Fault stop us → IsFinal stop → FaultOf run ts stop us
fault-of (took_so front e r) h k = absurd (cc)
fault-of (stops_so front e m r) h k = moved (same-stop h) (same-rest h) (record { front = front; splits = e; stays = r })
fault-of (too_deep m) h k = absurd (subst (λ v. IsFinal v) (sym (same-stop h)) k)
fault-of (too_long m) h k = absurd (subst (λ v. IsFinal v) (sym (same-stop h)) k)

-- what is answered where loops have more turns, and no more constructs may open than before
no-slack : {n : ℕ} → n ≡ zero → Slack n → ⊥
no-slack e slack = absurd (cc)

head-same : (ts : List Token5) → SameHead ts ts
head-same [] = nothing
head-same (t ∷ ts) = same

lasting : {turns : ℕ} {run : List Token5 → Outcome5 (List Stat5)} {ts : List Token5} {o : Outcome5 (List Stat5)} → LocalOf (more_of turns zero) run ts o → ((rest : List Token5) × (o ≡ Fault Endless rest)) ⊎ (run ts ≡ o)
lasting {run = run} (took_so {c = c} front e r) = inr (ap run e ∙ r c.tokens (head-same c.tokens))
lasting {run = run} (stops_so {us = us} front e m r) = inr (ap run e ∙ r us (head-same us))
lasting (too_deep m) = absurd (no-slack refl m)
lasting (too_long {us = us} m) = inl (us, refl)

plus-is : (n l : ℕ) → plus n l ≡ n + l
plus-is zero l = none l
  where
    none : (l : ℕ) → l ≡ zero + l
    none l = omega arith
plus-is (suc n) l = ap (λ m. suc m) (plus-is n l) ∙ one n l
  where
    one : (n l : ℕ) → suc (n + l) ≡ suc n + l
    one n l = omega arith

with-more : (mode : Bool) (fuel room l : ℕ) (s : Input5) → program (readers mode (fuel + l) (room + l)) (fuel + l) s ≡ program (readers mode (plus fuel l) (plus room l)) (plus fuel l) s
with-more mode fuel room l s = ap (λ n. program (readers mode n (room + l)) n s) (sym (plus-is fuel l)) ∙ ap (λ n. program (readers mode (plus fuel l) n) (plus fuel l) s) (sym (plus-is room l))

low : (n l : ℕ) → l ≤ n + l
low n l = omega arith

pub faults-stay : FaultsStay
faults-stay mode fuel room tokens last stop rest h k =
    let f = faults 0 in
    (f.front, f.splits, λ more others a. by f.front f.splits more others a)
  where
    faults : (l : ℕ) → FaultOf (λ us. program (readers mode (plus fuel l) (plus room l)) (plus fuel l) (record { tokens = us; last = last })) tokens stop rest
    faults l = fault-of (programs (more_of l l) (readers mode fuel room) (readers mode (plus fuel l) (plus room l)) (grown mode fuel room l l) fuel (record { tokens = tokens; last = last })) h k

    by : (front : List Token5) → tokens ≡ front ++ rest → (l : ℕ) (others : List Token5) → BeginAlike rest others → program (readers mode (fuel + l) (room + l)) (fuel + l) (record { tokens = front ++ others; last = last }) ≡ Fault stop others
    by front e l others a =
        let g' = faults l in
        with-more mode fuel room l (record { tokens = front ++ others; last = last })
        ∙ ap (λ ts. program (readers mode (plus fuel l) (plus room l)) (plus fuel l) (record { tokens = ts ++ others; last = last })) (append_cancel_right front g'.front rest (sym e ∙ g'.splits))
        ∙ g'.stays others (alike-head rest others a)

plus-none : (n : ℕ) → plus n zero ≡ n
plus-none zero = refl
plus-none (suc n) = ap (λ m. suc m) (plus-none n)

pub answers-last : AnswersLast
answers-last mode fuel room tokens last more =
    elim (lasting (programs (more_of more zero) (readers mode fuel room) (readers mode (plus fuel more) (plus room zero)) (grown mode fuel room more zero) fuel (record { tokens = tokens; last = last }))) [
      | inl e ↦ inl e
      | inr e ↦ inr (
          ap (λ n. program (readers mode n room) n (record { tokens = tokens; last = last })) (sym (plus-is fuel more))
          ∙ ap (λ n. program (readers mode (plus fuel more) n) (plus fuel more) (record { tokens = tokens; last = last })) (sym (plus-none room))
          ∙ e)
    ]

pub never-both : {x : List Stat5} {c : Input5} {stop : Stop5} {ts : List Token5} {o : Outcome5 (List Stat5)} → o ≡ Took x c → o ≡ Fault stop ts → ⊥
never-both h k = absurd (cc)

-- a fault of the reader that inserts semicolons
record DeadAt (tokens rest : List Token5) : Type 0 where
  front : List Token5
  splits : tokens ≡ front ++ rest
  dead : (mode : Mode5) (others : List Token5) (statements : List Stat5) → BeginAlike rest others → IsProgram mode (front ++ others) statements → ⊥

program-dead : IsReadInFull → (fuel room : ℕ) (tokens : List Token5) (stop : Stop5) (rest : List Token5) → program (readers true fuel room) fuel (record { tokens = tokens; last = 0 }) ≡ Fault stop rest → IsFinal stop → DeadAt tokens rest
program-dead full fuel room tokens stop rest h k =
    let f = faults-stay true fuel room tokens 0 stop rest h k in
    record { front = f.0; splits = f.1; dead = λ mode others statements a d. dead f.0 f.2 mode others statements a d }
  where
    dead : (front : List Token5) → ((more : ℕ) (others : List Token5) → BeginAlike rest others → program (readers true (fuel + more) (room + more)) (fuel + more) (record { tokens = front ++ others; last = 0 }) ≡ Fault stop others)
        → (mode : Mode5) (others : List Token5) (statements : List Stat5) → BeginAlike rest others → IsProgram mode (front ++ others) statements → ⊥
    dead front stays mode others statements a d =
        let c = full mode (front ++ others) statements d in
        let t = c.1 (fuel + c.0) (room + c.0) 0 (low fuel c.0) (low room c.0) in
        never-both t.2 (stays c.0 others a)

-- ## The directive

-- where a script stops before its statements are read, all do that begin so
pub record Early (tokens rest : List Token5) : Type 0 where
  pub front : List Token5
  pub splits : tokens ≡ front ++ rest
  pub stays : (others : List Token5) → BeginAlike rest others → (fault : Stop5 × List Token5) × (directive_fault (front ++ others) ≡ Some fault)

none-some : {x : Stop5 × List Token5} → None ≡ Some x → ⊥
none-some e = cc

second-early : (t : Token5) (ts : List Token5) (x : Stop5 × List Token5) → is_directive t ≡ true → second_fault ts ≡ Some x → Early (t ∷ ts) x.1
second-early t [] x k e = absurd (none-some e)
second-early t (u ∷ us) x k e = by (continues u) refl e
  where
    stays : (others : List Token5) → continues u ≡ true → directive_fault (t ∷ u ∷ others) ≡ Some (Syntax, u ∷ others)
    stays others c = rw (k, c) refl

    by : (b : Bool) → continues u ≡ b → cond b (Some (Syntax, u ∷ us)) None ≡ Some x → Early (t ∷ u ∷ us) x.1
    by false c e = absurd (none-some e)
    by true c e = subst (λ z. Early (t ∷ u ∷ us) z.1) (some_same e) (record {
      front = t ∷ [];
      splits = refl;
      stays = λ others a. ((Syntax, u ∷ a.0), ap (λ z. directive_fault (t ∷ z)) a.1 ∙ stays a.0 c);
    })

pub directive-early : (tokens : List Token5) (x : Stop5 × List Token5) → directive_fault tokens ≡ Some x → Early tokens x.1
directive-early [] x e = subst (λ z. Early [] z.1) (some_same e) (record { front = []; splits = refl; stays = λ others a. ((Outside 1, []), ap (λ z. directive_fault z) a) })
directive-early (t ∷ ts) x e = by (is_directive t) refl e
  where
    stays : (others : List Token5) → is_directive t ≡ false → directive_fault (t ∷ others) ≡ Some (Outside 1, t ∷ others)
    stays others k = ap (λ b. cond b (second_fault others) (Some (Outside 1, t ∷ others))) k

    by : (b : Bool) → is_directive t ≡ b → cond b (second_fault ts) (Some (Outside 1, t ∷ ts)) ≡ Some x → Early (t ∷ ts) x.1
    by false k e = subst (λ z. Early (t ∷ ts) z.1) (some_same e) (record { front = []; splits = refl; stays = λ others a. ((Outside 1, t ∷ a.0), ap (λ z. directive_fault z) a.1 ∙ stays a.0 k) })
    by true k e = second-early t ts x k e

pub dead-faults : IsReadInFull → FaultsAreDead
unfolding script
dead-faults full fuel tokens stop rest h k = by (directive_fault tokens) refl h
  where
    by : (o : Option (Stop5 × List Token5)) → directive_fault tokens ≡ o → unless_fault o (program (readers true fuel most_open) fuel (record { tokens = tokens; last = 0 })) ≡ Fault stop rest
        → (front : List Token5) × (tokens ≡ front ++ rest) × ((mode : Mode5) (others : List Token5) (statements : List Stat5) → BeginAlike rest others → IsStrict (front ++ others) → IsProgram mode (front ++ others) statements → ⊥)
    by None e h = let d = program-dead full fuel most_open tokens stop rest h k in (d.front, d.splits, λ mode others statements a s p. d.dead mode others statements a p)
    by (Some x) e h = let d = subst (λ z. Early tokens z) (same-rest h) (directive-early tokens x e) in (d.front, d.splits, λ mode others statements a s p. none-some (sym (no-fault (d.front ++ others) s) ∙ (d.stays others a).1))

-- ## What stands there

said : {run : List Token5 → Outcome5 (List Stat5)} {ts us : List Token5} {stop : Stop5} {o : Outcome5 (List Stat5)} → LocalOf (more_of zero zero) run ts o → o ≡ Fault stop us → Says stop us
said (took_so front e r) h = absurd (cc)
said (stops_so front e m r) h = moved-says (same-stop h) (same-rest h) m
  where
    moved-says : {a b : Stop5} {vs ws : List Token5} → a ≡ b → vs ≡ ws → Says a vs → Says b ws
    moved-says {a = a} {ws = ws} e k m = subst (λ v. Says v ws) e (subst (λ v. Says a v) k m)
said (too_deep m) h = absurd (no-slack refl m)
said (too_long m) h = absurd (no-slack refl m)

second-says : (ts : List Token5) (x : Stop5 × List Token5) → second_fault ts ≡ Some x → Says x.0 x.1
second-says [] x e = absurd (none-some e)
second-says (t ∷ ts) x e = by (continues t) e
  where
    by : (b : Bool) → cond b (Some (Syntax, t ∷ ts)) None ≡ Some x → Says x.0 x.1
    by true e = subst (λ z. Says z.0 z.1) (some_same e) tt
    by false e = absurd (none-some e)

directive-says : (tokens : List Token5) (x : Stop5 × List Token5) → directive_fault tokens ≡ Some x → Says x.0 x.1
directive-says [] x e = subst (λ z. Says z.0 z.1) (some_same e) no_token
directive-says (t ∷ ts) x e = by (is_directive t) refl e
  where
    by : (b : Bool) → is_directive t ≡ b → cond b (second_fault ts) (Some (Outside 1, t ∷ ts)) ≡ Some x → Says x.0 x.1
    by true k e = second-says ts x e
    by false k e = subst (λ z. Says z.0 z.1) (some_same e) (no_directive (λ d. false≢true (sym k ∙ directive-true t d.0 d.1)))

pub faults-say : FaultsSayWhatStandsThere
unfolding script
faults-say fuel tokens stop rest h = by (directive_fault tokens) refl h
  where
    s : Input5
    s = record { tokens = tokens; last = 0 }

    by : (o : Option (Stop5 × List Token5)) → directive_fault tokens ≡ o → unless_fault o (program (readers true fuel most_open) fuel s) ≡ Fault stop rest → Says stop rest
    by None e h = said (programs (more_of zero zero) (readers true fuel most_open) (readers true (plus fuel zero) (plus most_open zero)) (grown true fuel most_open zero zero) fuel s) h
    by (Some x) e h = subst (λ z. Says z rest) (same-stop h) (subst (λ z. Says x.0 z) (same-rest h) (directive-says tokens x e))
