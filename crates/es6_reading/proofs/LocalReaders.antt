-- The readers tied into one another look at no token past the first one that they don't take, and read the same where more may open
-- and loops have more turns. So a fault stands at a token with which no module goes on.
use Rattle.std.proofs.Common.{◌≡◌, ◌∙◌, ℕ, zero, suc, ◌+◌, ◌≤◌, arith, Bool, true, false, List, [], ◌∷◌, ◌++◌, refl, sym, ap, subst}
use Rattle.std.proofs.lemmas.Bool.{false≢true}
use Rattle.std.proofs.lemmas.List.{append_cancel_right}
use Rattle.es6_ast.specs.declared.module.Module.{Module}
use Rattle.es6_ast.specs.declared.settings.Flags.{Flags}
use Rattle.es6_ast.specs.declared.settings.Role.TheVariants.{Among, Heritage, Callee}
use Rattle.es6_ast.specs.declared.settings.Stand.{Stand}
use Rattle.es6_ast.specs.declared.settings.Stand.TheVariants.{Listed}
use Rattle.es6_ast.specs.declared.settings.Stop.{Stop}
use Rattle.es6_ast.specs.declared.settings.Stop.TheVariants.{Depth, Endless}
use Rattle.es6_ast.specs.Tokens.{Filled}
use Rattle.es6_ast.specs.Modules.{IsModule}
use Rattle.es6_reading.specs.Parser.{Input, Outcome, Took, Fault, no_expression, no_number, Inner}
use Rattle.es6_reading.specs.Words.{begins_operand, begins_unary, begins_expression}
use Rattle.es6_reading.specs.Expressions.{chain, unary, power, assignment, sequence, expression_at_limit, operand_at_limit}
use Rattle.es6_reading.specs.Statements.{begins_statement, statement_at_limit}
use Rattle.es6_reading.specs.Statements as s6
use Rattle.es6_reading.specs.Modules.{readers, whole_module}
use Rattle.es6_reading.specs.Laws.{IsComplete, BeginAlike, IsFinal, FaultsAreLocal, FaultsAreDead, FaultsStay, ReadingsStay, ReadingsStayInserting, IsReadInFull}
use Rattle.es6_reading.proofs.Follows.{plus, SameHead, nothing, same}
use Rattle.es6_reading.proofs.Locality.{Slack, slack, Gain, Modes, same_mode, now_inserts, Local, LocalOf, took_so, stops_so, too_deep, too_long, not_inserted, stops, number, expression, looks, alike, opens_now, turns-plus}
use Rattle.es6_reading.proofs.LocalExpressions as x'
use Rattle.es6_reading.proofs.LocalExpressions.{Inside, in_list, under_statement, under_label, Grown}
use Rattle.es6_reading.proofs.LocalModules as m'
use Rattle.es6_reading.proofs.LocalLimits.{no_statement, operand-limit, heritage-limit, unary-limit, power-limit, assignment-limit, sequence-limit, statement-limit, at-limit}

-- ## Where no construct may open any more

expression-alike : {l : Gain} (test : Filled → Bool) (s : Input) → Local l (expression_at_limit test) (expression_at_limit test) s
unfolding expression_at_limit
expression-alike test s = looks _ _ _ _ _ s stops (expression s)

operand-alike : {l : Gain} (s : Input) → Local l operand_at_limit operand_at_limit s
unfolding operand_at_limit
operand-alike s = looks _ _ _ _ _ s stops (number s)

none-alike : {l : Gain} (s : Input) → Local l no_statement no_statement s
none-alike s = looks _ _ _ _ _ s stops (expression s)

statement-alike : {l : Gain} (f : Flags) (stand : Stand) (s : Input) → Local l (statement_at_limit f stand) (statement_at_limit f stand) s
unfolding statement_at_limit
statement-alike f stand s = looks _ _ _ _ _ s stops (none-alike s)

module _ {l : Gain} (m : Slack l.more) (j : Inner) where
  sequence-now : (f : Flags) (s : Input) → Local l (expression_at_limit (begins_expression f)) (sequence j f) s
  unfolding expression_at_limit
  sequence-now f s = at-limit (begins_expression f) no_expression (sequence j f) m (sequence-limit j f) s (expression s)

  assignment-now : (f : Flags) (s : Input) → Local l (expression_at_limit (begins_expression f)) (assignment j f) s
  unfolding expression_at_limit
  assignment-now f s = at-limit (begins_expression f) no_expression (assignment j f) m (assignment-limit j f) s (expression s)

  power-now : (f : Flags) (s : Input) → Local l (expression_at_limit begins_unary) (power j f Among) s
  unfolding expression_at_limit
  power-now f s = at-limit begins_unary no_expression (power j f Among) m (power-limit j f) s (expression s)

  unary-now : (f : Flags) (s : Input) → Local l (expression_at_limit begins_unary) (unary j f) s
  unfolding expression_at_limit
  unary-now f s = at-limit begins_unary no_expression (unary j f) m (unary-limit j f) s (expression s)

  callee-now : (f : Flags) (s : Input) → Local l operand_at_limit (chain j f Callee) s
  unfolding operand_at_limit
  callee-now f s = at-limit begins_operand no_number (chain j f Callee) m (operand-limit j f) s (number s)

  heritage-now : (f : Flags) (s : Input) → Local l operand_at_limit (chain j f Heritage) s
  unfolding operand_at_limit
  heritage-now f s = at-limit begins_operand no_number (chain j f Heritage) m (heritage-limit j f) s (number s)

  statement-now : (f : Flags) (stand : Stand) → (stand ≡ Listed → ⊥) → (s : Input) → Local l (statement_at_limit f stand) (s6.statement j f stand) s
  unfolding statement_at_limit
  statement-now f stand n s = at-limit (begins_statement f stand) no_statement (s6.statement j f stand) m (statement-limit j f stand n) s (none-alike s)

not-listed : (i : Inner) (stand : Stand) → i.may_open ≡ false → Inside i stand → stand ≡ Listed → ⊥
not-listed i stand h (in_list e) k = false≢true (sym h ∙ e)
not-listed i stand h under_statement k = absurd (cc)
not-listed i stand h under_label k = absurd (cc)

-- ## All readers

abbrev pub gain : ℕ → Bool → Gain
gain l g = record { more = l; inserts = g }

module _ (g a b : Bool) where
  pub grown : (fuel room l : ℕ) → Modes (gain l g) a b → Grown (gain l g) (readers a fuel room) (readers b (plus fuel l) (plus room l))
  unfolding readers
  grown fuel zero zero m = record {
    mode = m;
    fuel = turns-plus fuel zero;
    opens = alike;
    sequence = λ f s. expression-alike _ s;
    assignment = λ f s. expression-alike _ s;
    power = λ f s. expression-alike _ s;
    unary = λ f s. expression-alike _ s;
    callee = λ f s. operand-alike s;
    heritage = λ f s. operand-alike s;
    block = λ f s. stops;
    property = λ f s. stops;
    target = λ f s. stops;
    part = λ f s. stops;
    object_part = λ f s. stops;
    variable = λ f s. stops;
    member = λ f s. stops;
    statement = λ f stand w s. statement-alike f stand s;
  }
  grown fuel zero (suc l) m =
      let j : Inner = readers b (plus fuel (suc l)) l in
      record {
        mode = m;
        fuel = turns-plus fuel (suc l);
        opens = opens_now slack;
        sequence = sequence-now slack j;
        assignment = assignment-now slack j;
        power = power-now slack j;
        unary = unary-now slack j;
        callee = callee-now slack j;
        heritage = heritage-now slack j;
        block = λ f s. too_deep slack;
        property = λ f s. too_deep slack;
        target = λ f s. too_deep slack;
        part = λ f s. too_deep slack;
        object_part = λ f s. too_deep slack;
        variable = λ f s. too_deep slack;
        member = λ f s. too_deep slack;
        statement = λ f stand w s. statement-now slack j f stand (not-listed (readers a fuel zero) stand refl w) s;
      }
  grown fuel (suc room) l m =
      let i : Inner = readers a fuel room in
      let j : Inner = readers b (plus fuel l) (plus room l) in
      let deeper : Grown (gain l g) i j = grown fuel room l m in
      record {
        mode = m;
        fuel = turns-plus fuel l;
        opens = alike;
        sequence = x'.sequence i j deeper;
        assignment = x'.assignment i j deeper;
        power = λ f s. x'.power i j deeper f Among s;
        unary = x'.unary i j deeper;
        callee = λ f s. x'.chain i j deeper f Callee s;
        heritage = λ f s. x'.chain i j deeper f Heritage s;
        block = x'.block i j deeper;
        property = x'.property i j deeper;
        target = x'.binding i j deeper;
        part = x'.one_part i j deeper;
        object_part = x'.object_part i j deeper;
        variable = λ f s. x'.initialized i j deeper f f s;
        member = x'.member i j deeper;
        statement = λ f stand w s. m'.statement i j deeper f stand s;
      }

-- ## Whole modules

alike-head : (ts us : List Filled) → BeginAlike ts us → SameHead ts us
alike-head [] us e = subst (λ vs. SameHead [] vs) (sym e) nothing
alike-head (t ∷ ts) us (rest, e) = subst (λ vs. SameHead (t ∷ ts) vs) (sym e) same

whole-with : (g a b : Bool) (fuel room l : ℕ) → Modes (gain l g) a b → (s : Input) → Local (gain l g) (whole_module (readers a fuel room)) (whole_module (readers b (plus fuel l) (plus room l))) s
whole-with g a b fuel room l m s = m'.whole_module (readers a fuel room) (readers b (plus fuel l) (plus room l)) (grown g a b fuel room l m) s

whole : (mode : Bool) (fuel room l : ℕ) (s : Input) → Local (gain l false) (whole_module (readers mode fuel room)) (whole_module (readers mode (plus fuel l) (plus room l))) s
whole mode fuel room l s = whole-with false mode mode fuel room l same_mode s

plus-zero : (n : ℕ) → plus n zero ≡ n
plus-zero zero = refl
plus-zero (suc n) = ap (λ m. suc m) (plus-zero n)

-- a fault of a reader, and what the reader with more gives of others tokens
pub record FaultOf (run : List Filled → Outcome Module) (ts : List Filled) (stop : Stop) (us : List Filled) : Type 0 where
  pub front : List Filled
  pub splits : ts ≡ front ++ us
  pub stays : (rest : List Filled) → SameHead us rest → run (front ++ rest) ≡ Fault stop rest

abbrev stopped_at : Stop → List Filled → Outcome Module
stopped_at stop us = Fault stop us

pub fault-of : {l : ℕ} {run : List Filled → Outcome Module} {ts us : List Filled} {stop : Stop} {o : Outcome Module} → LocalOf (gain l false) run ts o → o ≡ Fault stop us → ((stop ≡ Depth) → Slack l → ⊥) → ((stop ≡ Endless) → Slack l → ⊥) → FaultOf run ts stop us
fault-of (took_so front e r) h d n = absurd (cc)
fault-of {run = run} {ts = ts} {us = us} {stop = stop} (stops_so front e r) h d n = moved (same-stop h) (same-rest h) (record { front = front; splits = e; stays = r })
  where
    same-stop : {a b : Stop} {vs ws : List Filled} → stopped_at a vs ≡ stopped_at b ws → a ≡ b
    same-stop h = cc

    same-rest : {a b : Stop} {vs ws : List Filled} → stopped_at a vs ≡ stopped_at b ws → vs ≡ ws
    same-rest h = cc

    moved : {a b : Stop} {vs ws : List Filled} → a ≡ b → vs ≡ ws → FaultOf run ts a vs → FaultOf run ts b ws
    moved {a = a} {ws = ws} e k r = subst (λ v. FaultOf run ts v ws) e (subst (λ v. FaultOf run ts a v) k r)
fault-of (too_deep m) h d n = absurd (d (at h) m)
  where
    at : {b : Stop} {vs ws : List Filled} → stopped_at Depth vs ≡ stopped_at b ws → b ≡ Depth
    at h = cc
fault-of (too_long m) h d n = absurd (n (at h) m)
  where
    at : {b : Stop} {vs ws : List Filled} → stopped_at Endless vs ≡ stopped_at b ws → b ≡ Endless
    at h = cc
fault-of (not_inserted m) h d n = absurd (false≢true m)

no-slack : Slack zero → ⊥
no-slack m = by m refl
  where
    by : {l : ℕ} → Slack l → l ≡ zero → ⊥
    by slack e = absurd (cc)

pub local-faults : FaultsAreLocal
local-faults mode fuel room tokens last stop rest h =
    let r = fault-of (whole mode fuel room zero (record { tokens = tokens; last = last })) h (λ e m. no-slack m) (λ e m. no-slack m) in (
      r.front,
      r.splits,
      λ others k.
          ap (λ n. whole_module (readers mode n room) (record { tokens = r.front ++ others; last = last })) (sym (plus-zero fuel))
          ∙ ap (λ n. whole_module (readers mode (plus fuel zero) n) (record { tokens = r.front ++ others; last = last })) (sym (plus-zero room)) ∙ r.stays others (alike-head rest others k),
    )

-- ## More turns and constructs

plus-is : (n l : ℕ) → plus n l ≡ n + l
plus-is zero l = omega arith
plus-is (suc n) l = ap (λ m. suc m) (plus-is n l) ∙ next n l
  where
    next : (n l : ℕ) → suc (n + l) ≡ suc n + l
    next n l = omega arith

with-more : (mode : Bool) (fuel room l : ℕ) (s : Input) → whole_module (readers mode (fuel + l) (room + l)) s ≡ whole_module (readers mode (plus fuel l) (plus room l)) s
with-more mode fuel room l s = ap (λ n. whole_module (readers mode n (room + l)) s) (sym (plus-is fuel l)) ∙ ap (λ n. whole_module (readers mode (plus fuel l) n) s) (sym (plus-is room l))

final-fault : (l : ℕ) (run : List Filled → Outcome Module) (ts : List Filled) (stop : Stop) (us : List Filled) (o : Outcome Module) → LocalOf (gain l false) run ts o → o ≡ Fault stop us → IsFinal stop → FaultOf run ts stop us
final-fault l run ts stop us o r h k = fault-of r h (λ e m. subst (λ v. IsFinal v) e k) (λ e m. subst (λ v. IsFinal v) e k)

same-refl : (ts : List Filled) → SameHead ts ts
same-refl [] = nothing
same-refl (t ∷ ts) = same

-- a fault of a reader, with the one of the reader with more on other tokens
stays-with : (mode : Bool) (fuel room l : ℕ) (tokens front rest : List Filled) (last : ℕ) (stop : Stop) → tokens ≡ front ++ rest → whole_module (readers mode fuel room) (record { tokens = tokens; last = last }) ≡ Fault stop rest → IsFinal stop
    → (others : List Filled) → SameHead rest others → whole_module (readers mode (fuel + l) (room + l)) (record { tokens = front ++ others; last = last }) ≡ Fault stop others
stays-with mode fuel room l tokens front rest last stop e h k others a =
    let r = final-fault l _ tokens stop rest _ (whole mode fuel room l (record { tokens = tokens; last = last })) h k in
    with-more mode fuel room l (record { tokens = front ++ others; last = last })
    ∙ ap (λ ts. whole_module (readers mode (plus fuel l) (plus room l)) (record { tokens = ts ++ others; last = last })) (append_cancel_right front r.front rest (sym e ∙ r.splits))
    ∙ r.stays others a

pub faults-stay : FaultsStay
faults-stay mode fuel room tokens last stop rest h k =
    let f = local-faults mode fuel room tokens last stop rest h in
    (f.0, f.1, λ l others a. stays-with mode fuel room l tokens f.0 rest last stop f.1 h k others (alike-head rest others a))

took-of : {l : Gain} {run : List Filled → Outcome Module} {ts : List Filled} {o : Outcome Module} (m : Module) (after : Input) → LocalOf l run ts o → o ≡ Took m after → run ts ≡ Took m after
took-of {run = run} m after (took_so {x = x} {c = c} front e r) h = ap run e ∙ r c.tokens (same-refl c.tokens) ∙ h
took-of m after (stops_so front e r) h = absurd (cc)
took-of m after (too_deep k) h = absurd (cc)
took-of m after (too_long k) h = absurd (cc)
took-of m after (not_inserted k) h = absurd (cc)

pub readings-stay : ReadingsStay
readings-stay mode fuel room l tokens last m after h =
    let s : Input = record { tokens = tokens; last = last } in
    with-more mode fuel room l s ∙ took-of m after (whole mode fuel room l s) h

-- ## Where semicolons are inserted

pub readings-stay-inserting : ReadingsStayInserting
readings-stay-inserting fuel room tokens last m after h =
    let s : Input = record { tokens = tokens; last = last } in
    ap (λ n. whole_module (readers true n room) s) (sym (plus-zero fuel)) ∙ ap (λ n. whole_module (readers true (plus fuel zero) n) s) (sym (plus-zero room))
    ∙ took-of m after (whole-with true false true fuel room zero (now_inserts refl) s) h

pub full-readings : IsComplete → IsReadInFull
full-readings complete tokens m d =
    let c = complete tokens m d in
    (c.0, λ fuel room last f r. let k = c.1 fuel room last f r in (k.0, readings-stay-inserting fuel room tokens last m k.0 k.1))

-- ## Faults stand at dead tokens

never-both : {m : Module} {after : Input} {stop : Stop} {ts : List Filled} {o : Outcome Module} → o ≡ Took m after → o ≡ Fault stop ts → ⊥
never-both h k = absurd (cc)

low : (n l : ℕ) → l ≤ n + l
low n l = omega arith

pub dead-faults : IsComplete → FaultsAreDead
dead-faults complete fuel room tokens last stop rest h k =
    let f = faults-stay false fuel room tokens last stop rest h k in
    (f.0, f.1, λ others m a d. dead f.0 f.2 others m a d)
  where
    dead : (front : List Filled) → ((more : ℕ) (others : List Filled) → BeginAlike rest others → whole_module (readers false (fuel + more) (room + more)) (record { tokens = front ++ others; last = last }) ≡ Fault stop others)
        → (others : List Filled) (m : Module) → BeginAlike rest others → IsModule (front ++ others) m → ⊥
    dead front stays others m a d =
        let c = complete (front ++ others) m d in
        never-both (c.1 (fuel + c.0) (room + c.0) last (low fuel c.0) (low room c.0)).1 (stays c.0 others a)
