-- What a fault reports is what the definition has a reader report: for what is outside the profile, some module would go on with the
-- other token, or none would; and none would where a syntax fault stands at such a token.
use Rattle.std.specs.Prelude.{◌⊎◌}
use Rattle.std.proofs.Common.{◌≡◌, ◌∙◌, inl, inr, ℕ, zero, suc, ◌+◌, ◌<◌, ◌≤◌, arith, Bool, true, false, List, [], ◌∷◌, ◌++◌, append_assoc, length, length-append, map, take, refl, sym, ap, subst}
use Rattle.std.proofs.lemmas.Bool.{false≢true}
use Rattle.std.proofs.lemmas.List.{append-nil, append_cancel_right, length-map, map-append}
use Rattle.es6_lexer.specs.declared.token.Token.{Token}
use Rattle.es6_lexer.specs.declared.token.TokenKind.{TokenKind}
use Rattle.es6_ast.specs.declared.module.Module.{Module}
use Rattle.es6_ast.specs.declared.settings.Flags.{Flags}
use Rattle.es6_ast.specs.declared.settings.Stand.TheVariants.{Listed}
use Rattle.es6_ast.specs.declared.settings.Stop.{Stop}
use Rattle.es6_ast.specs.declared.settings.Stop.TheVariants.{Depth, Endless, Lexical, Outside, Syntax}
use Rattle.es6_ast.specs.declared.tree.Statement.{Statement}
use Rattle.es6_ast.specs.Dead as dead'
use Rattle.es6_ast.specs.Dead.{IsAlive, IsDead, IsOutside, IsReported, StopsAt, WouldLive, outside_profile, syntax_fault}
use Rattle.es6_ast.specs.Semicolons.{SpellsModule}
use Rattle.es6_ast.specs.Tokens.{Filled, Filling, Read, read}
use Rattle.es6_reading.specs.Expressions as e6
use Rattle.es6_reading.specs.Laws as laws'
use Rattle.es6_reading.specs.Laws.{IsFinal, IsOutsideAt, Says}
use Rattle.es6_reading.specs.Modules.{most_open, read_module, readers, whole_module}
use Rattle.es6_reading.specs.Parser.{Input, Outcome, Took, Fault, Parser, Reading}
use Rattle.es6_reading.specs.Statements as s6
use Rattle.es6_reading.proofs.Completeness.{what-is-derived-is-read}
use Rattle.es6_reading.proofs.Follows.{plus, same}
use Rattle.es6_reading.proofs.LocalExpressions as local-x
use Rattle.es6_reading.proofs.LocalModules as local-m
use Rattle.es6_reading.proofs.LocalReaders.{grown, local-faults}
use Rattle.es6_reading.proofs.Locality.{same_mode}
use Rattle.es6_reading.proofs.Places.{Leaves, fault_rest}
use Rattle.es6_reading.proofs.PlacesOfModules.{placed, places, says}
use Rattle.es6_reading.proofs.Spelled.{spelled}
use Rattle.es6_reading_laws.specs.Fronts.{at_end}
use Rattle.es6_reading_laws.specs.es6_viability.Alive.{BeginsExpression, BeginsStatement}
use Rattle.es6_reading_laws.specs.es6_viability.Fronts.{IsExpressionBefore, IsStatementBefore}
use Rattle.es6_reading_laws.proofs.es6_viability.AliveAlone.{depth-begins-expressions, depth-begins-statements, expressions-begin, statements-begin}
use Rattle.es6_reading_laws.proofs.es6_viability.DeadAlone.{no-expression-goes-on, no-statement-goes-on}
use Rattle.es6_reading_laws.proofs.es6_viability.DeepLaws.{moves, same-readers}
use Rattle.es6_reading_laws.proofs.es6_viability.NoStop.{first-stops, lexical-stops, module-read}
use Rattle.es6_reading_laws.proofs.es6_viability.Passed.{faults-dead, seam}
use Rattle.es6_reading_laws.proofs.es6_viability.Readers.{depth-alive, tokens-alive}
use Rattle.es6_reading_laws.proofs.es6_viability.ReadInserted.{none-past}
use Rattle.es6_reading_laws.proofs.es6_viability.SpelledAlone.{Spelled, expression-spelled, statement-spelled}
use Rattle.es6_reading_laws.specs.es6_outside_laws.Reported as reported'
use Rattle.es6_reading_laws.specs.es6_outside_laws.Reported.{ExpressionFaultsAreReported, FaultsAreReported, GoesOn, IsOutsideIn, ReportsIn, StatementFaultsAreReported}
use Rattle.es6_reading_laws.proofs.es6_outside_laws.Exchanged.{Exchange, for_in, slash, slash_assign, marked, too_large, with_, Place, it, one_of, two_of, Lock, last_one, further, input, left, Any, Over, Ahead, Stuck, Told, outside, stuck, passed, limit, Rel, both, gone, before, here, locked, Keeps}
use Rattle.es6_reading_laws.proofs.es6_outside_laws.ExchangedExpressions.{sequence}
use Rattle.es6_reading_laws.proofs.es6_outside_laws.ExchangedModules.{whole-module}
use Rattle.es6_reading_laws.proofs.es6_outside_laws.ExchangedReaders.{pairs}
use Rattle.es6_reading_laws.proofs.es6_outside_laws.ExchangedStatements.{statement}

-- ## What the two readers say of each other

lock-of : (e : Place) (fs : List Filled) → Lock e (fs ++ it e ∷ []) (fs ++ one_of e ∷ []) (fs ++ two_of e ∷ [])
lock-of e [] = last_one
lock-of e (t ∷ fs) = further t (lock-of e fs)

locked-some : {e : Place} {ts us vs : List Filled} → Lock e ts us vs → ts ≡ [] → ⊥
locked-some last_one k = absurd (cc)
locked-some (further t m) k = absurd (cc)

module _ {e : Place} {A : Type 0} {W : A → Type 0} {os ps : ℕ → Outcome A} where
  told-of : {o : Outcome A} {stop : Stop} → Rel e W os ps o → o ≡ Fault stop (it e ∷ []) → Told e W os ps stop
  told-of (both m a b) k = absurd (cc)
  told-of (gone n) k = absurd (some (sym n ∙ ap left k))
    where
      some : [] ≡ it e ∷ [] → ⊥
      some k = absurd (cc)
  told-of (before m) k = absurd (locked-some m (behind k))
    where
      behind : {stop other : Stop} {t u : Filled} {ts : List Filled} → ◌≡◌ {A = Outcome A} (Fault stop (t ∷ ts)) (Fault other (u ∷ [])) → ts ≡ []
      behind k = cc
  told-of (here t) k = subst (λ s. Told e W os ps s) (same k) t
    where
      same : {stop other : Stop} {ts us : List Filled} → ◌≡◌ {A = Outcome A} (Fault stop ts) (Fault other us) → stop ≡ other
      same k = cc

  told-outside : {stop : Stop} → Told e W os ps stop → stop ≡ Outside e.rule → Ahead W (one_of e) os × (e.strict ≡ true → Stuck (two_of e) ps)
  told-outside (outside a s) k = (a, s)
  told-outside (stuck n s) k = absurd (n k)
  told-outside (passed n y a) k = absurd (n k)
  told-outside (limit n) k = absurd (n (subst IsFinal (sym k) tt))

  told-other : {stop : Stop} → Told e W os ps stop → IsFinal stop → (stop ≡ Outside e.rule → ⊥) → Stuck (one_of e) os ⊎ ((e.strict ≡ true) × Ahead W (two_of e) ps)
  told-other (outside a s) f n = absurd (n refl)
  told-other (stuck m s) f n = inl s
  told-other (passed m y a) f n = inr (y, a)
  told-other (limit m) f n = absurd (m f)

-- ## A reader, and what begins

-- how a reader, whatever turns its loops have, is about what begins with tokens
record Reader {A : Type 0} (run : ℕ → Parser A) (Begins : List Token → Type 0) : Type 0 where
  keeps : (e : Place) (fuel : ℕ) → Keeps e (run fuel) (λ l. run (plus fuel (suc l)))
  says : (fuel : ℕ) (ts : List Filled) (stop : Stop) (us : List Filled) → run fuel (input ts 0) ≡ Fault stop us → Says stop us
  alone : (fuel : ℕ) (front behind : List Token) (t : Token) (stop : Stop) → run fuel (input (map read (front ++ t ∷ behind)) 0) ≡ Fault stop (map read (t ∷ behind)) → run fuel (input (map read front ++ read t ∷ []) 0) ≡ Fault stop (read t ∷ [])
  taken : (fuel : ℕ) (tokens : List Token) (x : A) (c : Input) → run fuel (input (map read tokens) 0) ≡ Took x c → c.tokens ≡ [] → Begins tokens
  begun : (fuel : ℕ) (front : List Token) (stop : Stop) → run fuel (input (map read front) 0) ≡ Fault stop [] → (stop ≡ Endless → ⊥) → Begins front
  deep : (fuel : ℕ) (front : List Token) (t : Token) → run fuel (input (map read (front ++ t ∷ [])) 0) ≡ Fault Depth (read t ∷ []) → Begins (front ++ t ∷ [])
  ends : (fuel : ℕ) (front : List Token) (t : Token) (stop : Stop) → run fuel (input (map read (front ++ t ∷ [])) 0) ≡ Fault stop (read t ∷ []) → IsFinal stop → Begins (front ++ t ∷ []) → ⊥

module _ {A : Type 0} (run : ℕ → Parser A) (Begins : List Token → Type 0) (r : Reader run Begins) (fuel : ℕ) (front : List Token) where
  -- what the readers with more turns make of the tokens
  abbrev runs : Token → ℕ → Outcome A
  runs t l = run (plus fuel (suc l)) (input (map read (front ++ t ∷ [])) 0)

  over-begins : (t : Token) (l : ℕ) (o : Outcome A) → runs t l ≡ o → Over Any o → Begins (front ++ t ∷ [])
  over-begins t l (Took x c) k h = r.taken (plus fuel (suc l)) (front ++ t ∷ []) x c k h.0
  over-begins t l (Fault stop ts) k h = r.begun (plus fuel (suc l)) (front ++ t ∷ []) stop (k ∙ ap (λ us. Fault stop us) h.1) h.0

  ahead-begins : (t : Token) → Ahead Any (read t) (runs t) → Begins (front ++ t ∷ [])
  ahead-begins t a = by (a.1 a.0 (low a.0))
    where
      low : (n : ℕ) → n ≤ n
      low n = omega arith

      by : Over Any (runs t a.0) ⊎ (runs t a.0 ≡ Fault Depth (read t ∷ [])) → Begins (front ++ t ∷ [])
      by (inl h) = over-begins t a.0 (runs t a.0) refl h
      by (inr h) = r.deep (plus fuel (suc a.0)) front t h

  stuck-ends : (t : Token) → Stuck (read t) (runs t) → Begins (front ++ t ∷ []) → ⊥
  stuck-ends t s b = let q = s 0 in r.ends (plus fuel 1) front t q.0 q.1 q.2 b

  -- ## A fault at a token

  module _ (behind : List Token) (t : Token) (stop : Stop) (fault : run fuel (input (map read (front ++ t ∷ behind)) 0) ≡ Fault stop (map read (t ∷ behind))) where
    module _ {one two : TokenKind} {rule : ℕ} {strict : Bool} (x : Exchange t.kind one two rule strict) where
      place : Place
      place = record { kind = t.kind; one = one; two = two; rule = rule; strict = strict; exchange = x; span = t.span; newline = t.newline }

      abbrev other : TokenKind → Token
      other k = record t { kind = k }

      row : (k : TokenKind) → map read front ++ read (other k) ∷ [] ≡ map read (front ++ other k ∷ [])
      row k = sym (map-append read front (other k ∷ []))

      told : Told place Any (runs (other one)) (runs (other two)) stop
      unfolding place
      told = subst (λ us. Told place Any (λ l. run (plus fuel (suc l)) (input us 0)) (runs (other two)) stop) (row one)
          (subst (λ vs. Told place Any (λ l. run (plus fuel (suc l)) (input (map read front ++ read (other one) ∷ []) 0)) (λ l. run (plus fuel (suc l)) (input vs 0)) stop) (row two)
          (told-of (locked (r.keeps place fuel).onward (lock-of place (map read front)) 0) (r.alone fuel front behind t stop fault)))

      is-outside : stop ≡ Outside rule → GoesOn Begins front t one × (strict ≡ true → GoesOn Begins front t two → ⊥)
      unfolding place
      is-outside k = let q = told-outside told k in (ahead-begins (other one) q.0, λ y b. stuck-ends (other two) (q.1 y) b)

      -- where it isn't reported
      is-none : IsFinal stop → (stop ≡ Outside rule → ⊥) → GoesOn Begins front t one → (strict ≡ true) × GoesOn Begins front t two
      unfolding place
      is-none f n b = by (told-other told f n)
        where
          by : Stuck (one_of place) (runs (other one)) ⊎ ((strict ≡ true) × Ahead Any (two_of place) (runs (other two))) → (strict ≡ true) × GoesOn Begins front t two
          by (inl s) = absurd (stuck-ends (other one) s b)
          by (inr a) = (a.0, ahead-begins (other two) a.1)

    kind-read : {k : TokenKind} → ◌≡◌ {A = Filling} (Read t.kind) (Read k) → t.kind ≡ k
    kind-read h = cc

    exchanged : {k one two : TokenKind} {rule : ℕ} {strict : Bool} → Exchange k one two rule strict → t.kind ≡ k → Exchange t.kind one two rule strict
    exchanged {one = one} {two = two} {rule = rule} {strict = strict} x h = subst (λ k. Exchange k one two rule strict) (sym h) x

    -- it is what is reported
    outside-there : {rule : ℕ} → stop ≡ Outside rule → IsOutsideAt (map read (t ∷ behind)) rule → IsOutsideIn Begins front t rule
    outside-there k (laws'.for_in h) = let q = is-outside (exchanged for_in (kind-read h)) k in reported'.for_in (kind-read h) q.0 (q.1 refl)
    outside-there k (laws'.regular_expression (inl h)) = reported'.regular_expression (inl (kind-read h)) (is-outside (exchanged slash (kind-read h)) k).0
    outside-there k (laws'.regular_expression (inr h)) = reported'.regular_expression (inr (kind-read h)) (is-outside (exchanged slash_assign (kind-read h)) k).0
    outside-there k (laws'.marked_number h) = reported'.marked_number (kind-read h) (is-outside (exchanged marked (kind-read h)) k).0
    outside-there k (laws'.large_number h) = reported'.large_number (kind-read h) (is-outside (exchanged too_large (kind-read h)) k).0
    outside-there k (laws'.with h) = reported'.with (kind-read h) (is-outside (exchanged with_ (kind-read h)) k).0

    -- and nothing else is
    module _ (syntax : stop ≡ Syntax) where
      is-final : IsFinal stop
      is-final = subst IsFinal (sym syntax) tt

      not-outside : (rule : ℕ) → stop ≡ Outside rule → ⊥
      not-outside rule y = by (sym syntax ∙ y)
        where
          by : Syntax ≡ Outside rule → ⊥
          by y = absurd (cc)

      none-of : {k one two : TokenKind} {rule : ℕ} → Exchange k one two rule false → t.kind ≡ k → GoesOn Begins front t one → ⊥
      none-of {rule = rule} x h b = false≢true (is-none (exchanged x h) is-final (not-outside rule) b).0

      none-there : (rule : ℕ) → IsOutsideIn Begins front t rule → ⊥
      none-there rule (reported'.for_in h b n) = n (is-none (exchanged for_in h) is-final (not-outside 1) b).1
      none-there rule (reported'.regular_expression (inl h) b) = none-of slash h b
      none-there rule (reported'.regular_expression (inr h) b) = none-of slash_assign h b
      none-there rule (reported'.marked_number h b) = none-of marked h b
      none-there rule (reported'.large_number h b) = none-of too_large h b
      none-there rule (reported'.with h b) = none-of with_ h b

reported-in : {A : Type 0} (run : ℕ → Parser A) (Begins : List Token → Type 0) → Reader run Begins → (fuel : ℕ) (front behind : List Token) (t : Token) (stop : Stop) → run fuel (input (map read (front ++ t ∷ behind)) 0) ≡ Fault stop (map read (t ∷ behind)) → ReportsIn Begins front t stop
reported-in run Begins r fuel front behind t (Outside rule) e = outside-there run Begins r fuel front behind t (Outside rule) e refl (r.says fuel (map read (front ++ t ∷ behind)) (Outside rule) (map read (t ∷ behind)) e).2
reported-in run Begins r fuel front behind t Syntax e = none-there run Begins r fuel front behind t Syntax e refl
reported-in run Begins r fuel front behind t (Lexical kind) e = tt
reported-in run Begins r fuel front behind t Depth e = tt
reported-in run Begins r fuel front behind t Endless e = tt

with-nothing : (front : List Token) → map read (front ++ []) ≡ map read front
with-nothing front = ap (map read) (append-nil front)

-- ## Modules

module-run : ℕ → Parser Module
module-run fuel = whole_module (readers true fuel most_open)

of-read : (fuel : ℕ) (ts : List Filled) {o : Outcome Module} → module-run fuel (input ts 0) ≡ o → read_module fuel ts ≡ o
unfolding module-run
of-read fuel ts h = module-read fuel ts ∙ h

modules : Reader module-run IsAlive
unfolding module-run
modules = record {
  keeps = λ e fuel. whole-module (pairs e fuel most_open);
  says = λ fuel ts stop us h. says fuel ts stop us (of-read fuel ts h);
  alone = λ fuel front behind t stop h.
      let l = local-faults true fuel most_open (map read (front ++ t ∷ behind)) 0 stop (map read (t ∷ behind)) h in
      let same : map read front ≡ l.0 = append_cancel_right (map read front) l.0 (map read (t ∷ behind)) (sym (map-append read front (t ∷ behind)) ∙ l.1) in
      ap (λ fs. module-run fuel (input (fs ++ read t ∷ []) 0)) same ∙ l.2 (read t ∷ []) ([], refl);
  taken = λ fuel tokens m c h k. ([], m, subst (λ ts. SpellsModule ts m) (sym (append-nil tokens)) (spelled what-is-derived-is-read fuel tokens m c (of-read fuel (map read tokens) h)));
  begun = λ fuel front stop h n. tokens-alive what-is-derived-is-read fuel front [] stop (ap (read_module fuel) (with-nothing front) ∙ of-read fuel (map read front) h) n;
  deep = λ fuel front t h. depth-alive what-is-derived-is-read fuel front [] t (of-read fuel (map read (front ++ t ∷ [])) h);
  ends = λ fuel front t stop h final alive. none-past what-is-derived-is-read fuel (front ++ t ∷ []) stop (read t ∷ []) (of-read fuel (map read (front ++ t ∷ [])) h) final front (t ∷ []) refl refl (t ∷ alive.0) (map read alive.0, refl) alive.1 (subst (λ ts. SpellsModule ts alive.1) (append_assoc front (t ∷ []) alive.0) alive.2);
}

take-front : (front rest : List Token) → take (length front) (front ++ rest) ≡ front
take-front [] rest = refl
take-front (t ∷ front) rest = ap (λ ts. t ∷ ts) (take-front front rest)

module _ (front behind : List Token) (t : Token) where
  abbrev tokens : List Token
  tokens = front ++ t ∷ behind

  would-live : (k : TokenKind) → GoesOn IsAlive front t k → WouldLive tokens (length front) t k
  would-live k a = record { alive = subst (λ ts. IsAlive (ts ++ record t { kind = k } ∷ [])) (sym (take-front front (t ∷ behind))) a }

  goes-on : (k : TokenKind) → WouldLive tokens (length front) t k → GoesOn IsAlive front t k
  goes-on k w = subst (λ ts. IsAlive (ts ++ record t { kind = k } ∷ [])) (take-front front (t ∷ behind)) w.alive

  outside-of : (rule : ℕ) → IsOutsideIn IsAlive front t rule → IsOutside tokens (length front) t rule
  outside-of rule (reported'.for_in h b n) = dead'.for_in h (would-live _ b) (λ w. n (goes-on _ w))
  outside-of rule (reported'.regular_expression h b) = dead'.regular_expression h (would-live _ b)
  outside-of rule (reported'.marked_number h b) = dead'.marked_number h (would-live _ b)
  outside-of rule (reported'.large_number h b) = dead'.large_number h (would-live _ b)
  outside-of rule (reported'.with h b) = dead'.with h (would-live _ b)

  outside-in : (rule : ℕ) → IsOutside tokens (length front) t rule → IsOutsideIn IsAlive front t rule
  outside-in rule (dead'.for_in h w n) = reported'.for_in h (goes-on _ w) (λ b. n (would-live _ b))
  outside-in rule (dead'.regular_expression h w) = reported'.regular_expression h (goes-on _ w)
  outside-in rule (dead'.marked_number h w) = reported'.marked_number h (goes-on _ w)
  outside-in rule (dead'.large_number h w) = reported'.large_number h (goes-on _ w)
  outside-in rule (dead'.with h w) = reported'.with h (goes-on _ w)

  lengths : length front + length (map read (t ∷ behind)) ≡ length tokens
  lengths = omega (arith, length-map (t ∷ behind) read, length-append front (t ∷ behind))

  inside : length front < length tokens
  inside = omega (arith, length-append front (t ∷ behind))

  module _ (fuel : ℕ) (stop : Stop) (fault : read_module fuel (map read tokens) ≡ Fault stop (map read (t ∷ behind))) (final : IsFinal stop) where
    stands : IsReported tokens (length front) t stop → StopsAt tokens t.span.begin stop
    stands r = record { index = length front; token = t; there = seam front t behind; stops = first-stops fuel tokens stop (map read (t ∷ behind)) fault final (length front) lengths inside; reported = r; place = refl }

    is-dead : IsDead tokens (length front)
    is-dead = faults-dead places (none-past what-is-derived-is-read) fuel tokens stop (map read (t ∷ behind)) fault final (length front) lengths inside

    in-terms : ReportsIn IsAlive front t stop
    unfolding module-run
    in-terms = reported-in module-run IsAlive modules fuel front behind t stop (sym (module-read fuel (map read tokens)) ∙ fault)

pub faults-reported : FaultsAreReported
faults-reported fuel front behind t Syntax e f = stands front behind t fuel Syntax e f (syntax_fault (is-dead front behind t fuel Syntax e f) (λ kind k. says fuel (map read (front ++ t ∷ behind)) Syntax (map read (t ∷ behind)) e kind (ap Read k)) (λ rule o. in-terms front behind t fuel Syntax e f rule (outside-in front behind t rule o)))
faults-reported fuel front behind t (Lexical kind) e f = lexical-stops fuel (front ++ t ∷ behind) kind (map read (t ∷ behind)) e
faults-reported fuel front behind t (Outside rule) e f = stands front behind t fuel (Outside rule) e f (outside_profile rule (is-dead front behind t fuel (Outside rule) e f) (outside-of front behind t rule (in-terms front behind t fuel (Outside rule) e f)))
faults-reported fuel front behind t Depth e f = absurd f
faults-reported fuel front behind t Endless e f = absurd f

-- ## Expressions and statements

left-says : {A : Type 0} {ts us : List Filled} {stop : Stop} → Leaves {A = A} ts (Fault stop us) → Says stop us
left-says (fault_rest k r) = k

nothing-left : (rest : List Token) → map read rest ≡ [] → rest ≡ []
nothing-left [] e = refl
nothing-left (t ∷ rest) e = absurd (cc)

-- where nothing is left, it is spelled by all of the tokens
spelled-whole : {Spells : List Token → List Token → Type 0} {tokens : List Token} {us : List Filled} → Spelled Spells tokens us → us ≡ [] → Spells (tokens ++ ([] ++ [])) []
spelled-whole {Spells = Spells} {tokens = tokens} s e = subst (λ ts. Spells ts []) (sym (append-nil tokens)) (subst (λ rest. Spells tokens rest) (nothing-left s.rest (sym s.left_ ∙ e)) s.spelled)

module _ (room : ℕ) (f : Flags) where
  expression-run : ℕ → Parser Reading
  expression-run fuel = e6.sequence (readers true fuel room) f

  expressions : Reader expression-run (BeginsExpression f)
  unfolding expression-run readers
  expressions = record {
    keeps = λ e fuel. sequence (pairs e fuel room) f;
    says = λ fuel ts stop us h. left-says {A = Reading} (subst (λ o. Leaves ts o) h ((placed true fuel (suc room)).sequence f (input ts 0)));
    alone = λ fuel front behind t stop h. moves (expression-run fuel) (e6.sequence (readers true (plus fuel zero) (plus room zero)) f) (λ c. same-readers fuel room zero (λ i. e6.sequence i f) c)
        (λ s. local-x.sequence (readers true fuel room) (readers true (plus fuel zero) (plus room zero)) (grown false true true fuel room zero same_mode) f s)
        (map read front) (map read (t ∷ behind)) stop (ap (λ us. expression-run fuel (input us 0)) (sym (map-append read front (t ∷ behind))) ∙ h) (read t ∷ []) same;
    taken = λ fuel tokens x c h k. record { more = []; rest = []; value = x.value; spelled = (spelled-whole (expression-spelled fuel room f tokens x c h) k, at_end) };
    begun = λ fuel front stop h n. expressions-begin fuel room f front [] stop (ap (λ us. expression-run fuel (input us 0)) (with-nothing front) ∙ h) n;
    deep = λ fuel front t h. depth-begins-expressions fuel room f front [] t h;
    ends = λ fuel front t stop h final b. no-expression-goes-on fuel room f front (t ∷ []) stop h final (b.more ++ b.rest) b.value (b.rest, subst (λ ts. IsExpressionBefore f ts b.value b.rest) (append_assoc front (t ∷ []) (b.more ++ b.rest)) b.spelled);
  }

  statement-run : ℕ → Parser Statement
  statement-run fuel = s6.statement (readers true fuel room) f Listed

  statements : Reader statement-run (BeginsStatement f)
  unfolding statement-run readers
  statements = record {
    keeps = λ e fuel. statement (pairs e fuel room) f Listed;
    says = λ fuel ts stop us h. left-says {A = Statement} (subst (λ o. Leaves ts o) h ((placed true fuel (suc room)).statement f Listed (input ts 0)));
    alone = λ fuel front behind t stop h. moves (statement-run fuel) (s6.statement (readers true (plus fuel zero) (plus room zero)) f Listed) (λ c. same-readers fuel room zero (λ i. s6.statement i f Listed) c)
        (λ s. local-m.statement (readers true fuel room) (readers true (plus fuel zero) (plus room zero)) (grown false true true fuel room zero same_mode) f Listed s)
        (map read front) (map read (t ∷ behind)) stop (ap (λ us. statement-run fuel (input us 0)) (sym (map-append read front (t ∷ behind))) ∙ h) (read t ∷ []) same;
    taken = λ fuel tokens x c h k. record { more = []; rest = []; value = x; spelled = (spelled-whole (statement-spelled fuel room f tokens x c h) k, λ y. y) };
    begun = λ fuel front stop h n. statements-begin fuel room f front [] stop (ap (λ us. statement-run fuel (input us 0)) (with-nothing front) ∙ h) n;
    deep = λ fuel front t h. depth-begins-statements fuel room f front [] t h;
    ends = λ fuel front t stop h final b. no-statement-goes-on fuel room f front (t ∷ []) stop h final (b.more ++ b.rest) b.value (b.rest, subst (λ ts. IsStatementBefore f ts b.value b.rest) (append_assoc front (t ∷ []) (b.more ++ b.rest)) b.spelled);
  }

pub expressions-reported : ExpressionFaultsAreReported
unfolding expression-run
expressions-reported fuel room f front behind t stop e = reported-in (expression-run room f) (BeginsExpression f) (expressions room f) fuel front behind t stop e

pub statements-reported : StatementFaultsAreReported
unfolding statement-run
statements-reported fuel room f front behind t stop e = reported-in (statement-run room f) (BeginsStatement f) (statements room f) fuel front behind t stop e
