-- The readers tied into one another, and those where more constructs may open.
use Rattle.std.proofs.Common.{◌≡◌, ◌∙◌, ℕ, zero, suc, ◌+◌, ◌<◌, ◌≤◌, Bool, true, false, ◌&&◌, ◌||◌, List, [], ◌∷◌, sym, refl, subst, arith}
use Rattle.std.proofs.lemmas.Bool.{true≢false, false≢true}
use Rattle.es_text.specs.declared.Span.{Span}
use Rattle.es6_lexer.specs.declared.token.Punctuator.TheVariants as marks
use Rattle.es6_lexer.specs.declared.token.TokenKind.TheVariants as kinds
use Rattle.es6_ast.specs.declared.settings.Flags.{Flags}
use Rattle.es6_ast.specs.declared.settings.Role.TheVariants.{Among, Heritage, Callee}
use Rattle.es6_ast.specs.declared.settings.Stand.{Stand}
use Rattle.es6_ast.specs.declared.settings.Stand.TheVariants.{Listed, Under, Labelled}
use Rattle.es6_ast.specs.declared.settings.Stop.TheVariants.{Depth}
use Rattle.es6_ast.specs.declared.tree.Statement.{Statement}
use Rattle.es6_ast.specs.Tokens.{Filling, Read, Filled}
use Rattle.es6_reading.specs.Parser.{Input, Outcome, Fault, Parser, Reading, fails, choose, next_is, if_next, next_mark, no_expression, no_number, Inner}
use Rattle.es6_reading.specs.Words.{begins_operand, begins_unary, begins_expression, unary_operators}
use Rattle.es6_reading.specs.Parts as t6
use Rattle.es6_reading.specs.Expressions as e
use Rattle.es6_reading.specs.Statements as s6
use Rattle.es6_reading.specs.Statements.{begins_statement, statement_words, may_declare}
use Rattle.es6_reading.specs.Modules as m6
use Rattle.es6_reading.specs.Modules.{is_end, is_end_kind}
use Rattle.es6_reading.proofs.Follows.{plus}
use Rattle.es6_reading.proofs.LocalLimits.{no_statement, operand-limit, heritage-limit, unary-limit, power-limit, assignment-limit, statement-limit}
use Rattle.es6_reading.proofs.SpanCounts.{one, spans_block, spans_expression, spans_statement, in_block, in_expression, in_statement}
use Rattle.es6_reading_laws.proofs.es6_viability.Beside.{both}
use Rattle.es6_reading.proofs.Shallow.{Sorted, stay}
use Rattle.es6_reading_laws.proofs.es6_viability.Deep.{Limit, Mode, still, gone, Spot, Claim, Walked, At, Ready, Within, Opened, Deep, Runs, fault, weaken, no-number-holds, no-expression-holds, looks, inside, surround, one-around, round-before, round-behind, stays-gone, went-on, by-itself}
use Rattle.es6_reading_laws.proofs.es6_viability.DeepParts.{Deeper, binding, initialized, one_part, object_part, block, member}
use Rattle.es6_reading_laws.proofs.es6_viability.DeepExpressions.{chain}
use Rattle.es6_reading_laws.proofs.es6_viability.DeepLevels.{unary, power, assignment, sequence, property}
use Rattle.es6_reading_laws.proofs.es6_viability.DeepStatements.{statement}

-- ## Where the first reader has stopped

module _ {all : List Filled} (l : Limit all) where
  claim-gone : (room : ℕ) (s : Spot all) (g last : ℕ) (D : ℕ → ℕ) (sm cm : Mode all) → sm ≡ gone l → cm ≡ gone l → Claim room s g sm cm last D
  claim-gone room s g last D still cm k c = absurd (cc)
  claim-gone room s g last D (gone l') cm k c = c ∙ sym k

  walked-gone : (room : ℕ) (D : ℕ → ℕ) (s : Input) (g : ℕ) (c : Input) (h : ℕ) (sm cm : Mode all) → sm ≡ gone l → Walked room D s g c h sm cm
  walked-gone room D s g c h still cm k = absurd (cc)
  walked-gone room D s g c h (gone l') cm k = tt

  never-still : {m : Mode all} → m ≡ still → m ≡ gone l → ⊥
  never-still k c = absurd (cc)

  -- there nothing is claimed
  relax : {room room' h : ℕ} {s c : Spot all} {D : ℕ → ℕ} (E : ℕ → ℕ) → ((at : ℕ) → at < s.input.last → E at ≡ 0) → ((at : ℕ) → c.input.last ≤ at → E at ≡ 0) → s.mode ≡ gone l → h ≤ s.groups → At true room s 0 0 c D → At true room' s h h c E
  relax {room = room} {room' = room'} {h = h} {s = s} {c = c} {D = D} E before behind k o a =
      let u = stays-gone room s 0 c.input.last D s.mode c.mode a.claim l k in
      record {
        balance = omega (arith, a.balance);
        enough = o;
        stands = a.stands;
        sorted = a.sorted;
        order = a.order;
        comes = a.comes;
        steps = a.steps;
        moved = a.moved;
        fits = λ v. absurd (never-still v u);
        before = before;
        behind = behind;
        walk = walked-gone room' E s.input h c.input h s.mode c.mode k;
        claim = claim-gone room' s h c.input.last E s.mode c.mode k u;
      }

  relax-opened : (h : ℕ) {room : ℕ} (room' : ℕ) {s c : Spot all} {D : ℕ → ℕ} (span : Span) → Sorted s.input.last s.input.tokens → s.mode ≡ gone l → h ≤ s.groups → At true room s 0 0 c D × Within s c span → Opened room' h s c D (λ at. one span at + D at)
  relax-opened zero room' span sorted k o a = relax _ (round-before a.1 sorted (a.0.moved refl) a.0.before) (round-behind a.1 a.0.behind) k o a.0
  relax-opened (suc h) room' {D = D} span sorted k o a = relax D a.0.before a.0.behind k (omega (arith, o)) a.0

  alone-of : {A : Type 0} {P Q : A → Spot all → Type 0} (p' : Parser A) (s : Spot all) (o : Outcome A) → s.mode ≡ gone l → Deep P p' p' s → ((x : A) (c : Spot all) → P x c → Q x c) → Runs Q s.mode o (p' s.input)
  alone-of {Q = Q} p' s o k h f = subst (λ m. Runs Q m o (p' s.input)) (sym k) (by-itself o (subst (λ m. Runs Q m (p' s.input) (p' s.input)) k (weaken h f)))

-- ## Where no construct may open any more

module _ {all : List Filled} {A : Type 0} (k : ℕ) (D : A → ℕ → ℕ) (span : A → Span) (p' : Parser A) (same : (s : Spot all) → Ready k 0 s → Deep (λ x c. At true k s 0 0 c (D x) × Within s c (span x)) p' p' s) where
  module _ (n : ℕ) (t : Filled) (ts : List Filled) (last : ℕ) (inner : is_end t ≡ false) where
    abbrev here : Spot all
    here = record { mode = still; groups = n; input = record { tokens = t ∷ ts; last = last } }

    module _ (r : Ready 0 0 here) where
      abbrev limit : Limit all
      limit = record { token = t; behind = ts; groups = n; stands = r.stands }

      abbrev there : Spot all
      there = record { mode = gone limit; groups = n; input = record { tokens = t ∷ ts; last = last } }

      counted : (x : A) (c : Spot all) → At true k there 0 0 c (D x) → Within there c (span x) → At true 0 here 0 0 c (λ at. one (span x) at + D x at)
      counted x c a w =
          let u = stays-gone k there 0 c.input.last (D x) (gone limit) c.mode a.claim limit refl in
          let long : t.span.begin < t.span.end = r.sorted.1 inner in
          let past : t.span.end ≤ c.input.last = a.moved refl in
          let counts = one-around t.span.begin (span x) (omega (arith, w.begins)) (omega (arith, long, past, w.ends)) in
          record {
            balance = a.balance;
            enough = a.enough;
            stands = a.stands;
            sorted = a.sorted;
            order = a.order;
            comes = a.comes;
            steps = a.steps;
            moved = a.moved;
            fits = λ v. absurd (never-still limit v u);
            before = round-before w r.sorted past a.before;
            behind = round-behind w a.behind;
            walk = subst (λ m. Walked 0 (λ at. one (span x) at + D x at) here.input 0 c.input 0 still m) (sym u) (0, stay);
            claim = subst (λ m. Claim 0 here 0 still m c.input.last (λ at. one (span x) at + D x at)) (sym u) (record { deep = omega (arith, counts); comes = λ m o. o; ends = omega (arith, long, past) });
          }

      stops-here : Runs (λ x c. At true 0 here 0 0 c (λ at. one (span x) at + D x at)) still (Fault Depth (t ∷ ts)) (p' (record { tokens = t ∷ ts; last = last }))
      stops-here = went-on {l = limit} (weaken (same there (record { enough = omega arith; stands = r.stands; sorted = r.sorted; fits = λ v. absurd (never-still limit v refl) })) (λ x c q. counted x c q.0 q.1))

  module _ (test : Filled → Bool) (inner : (t : Filled) → test t ≡ true → is_end t ≡ false) where
    pub stops-at : (m : Mode all) (n : ℕ) (t : Filled) (ts : List Filled) (last h : ℕ) → test t ≡ true → Ready 0 h (record { mode = m; groups = n; input = record { tokens = t ∷ ts; last = last } })
        → Runs (λ x c. Opened 0 h (record { mode = m; groups = n; input = record { tokens = t ∷ ts; last = last } }) c (D x) (λ at. one (span x) at + D x at)) m (Fault Depth (t ∷ ts)) (p' (record { tokens = t ∷ ts; last = last }))
    stops-at still n t ts last zero e r = stops-here n t ts last (inner t e) r
    stops-at still n t ts last (suc h) e r = absurd (omega (arith, r.fits refl))
    stops-at (gone l) n t ts last h e r = alone-of l p' (record { mode = gone l; groups = n; input = record { tokens = t ∷ ts; last = last } }) (Fault Depth (t ∷ ts)) refl (same (record { mode = gone l; groups = n; input = record { tokens = t ∷ ts; last = last } }) (record { enough = omega arith; stands = r.stands; sorted = r.sorted; fits = λ v. absurd (never-still l v refl) }))
        (λ x c q. relax-opened l h 0 (span x) r.sorted refl r.enough q)

    module _ (q : Parser A) (none : (ts : List Filled) (last : ℕ) → next_is test ts ≡ false → p' (record { tokens = ts; last = last }) ≡ q (record { tokens = ts; last = last })) (stops : (h : ℕ) (s : Spot all) → Deep (λ x c. Opened 0 h s c (D x) (λ at. one (span x) at + D x at)) q q s) where
      else-stops : (h : ℕ) (s : Spot all) → next_is test s.input.tokens ≡ false → Deep (λ x c. Opened 0 h s c (D x) (λ at. one (span x) at + D x at)) q p' s
      else-stops h s e = subst (λ o. Runs (λ x c. Opened 0 h s c (D x) (λ at. one (span x) at + D x at)) s.mode (q s.input) o) (sym (none s.input.tokens s.input.last e)) (stops h s)

      by-token : (m : Mode all) (n : ℕ) (t : Filled) (ts : List Filled) (last h : ℕ) (v : Bool) → test t ≡ v → Ready 0 h (record { mode = m; groups = n; input = record { tokens = t ∷ ts; last = last } })
          → Runs (λ x c. Opened 0 h (record { mode = m; groups = n; input = record { tokens = t ∷ ts; last = last } }) c (D x) (λ at. one (span x) at + D x at)) m (choose v (fails Depth) q (record { tokens = t ∷ ts; last = last })) (p' (record { tokens = t ∷ ts; last = last }))
      by-token m n t ts last h true e r = stops-at m n t ts last h e r
      by-token m n t ts last h false e r = else-stops h (record { mode = m; groups = n; input = record { tokens = t ∷ ts; last = last } }) e

      by-tokens : (m : Mode all) (n : ℕ) (ts : List Filled) (last h : ℕ) → Ready 0 h (record { mode = m; groups = n; input = record { tokens = ts; last = last } })
          → Runs (λ x c. Opened 0 h (record { mode = m; groups = n; input = record { tokens = ts; last = last } }) c (D x) (λ at. one (span x) at + D x at)) m (if_next test (fails Depth) q (record { tokens = ts; last = last })) (p' (record { tokens = ts; last = last }))
      by-tokens m n [] last h r = else-stops h (record { mode = m; groups = n; input = record { tokens = []; last = last } }) refl
      by-tokens m n (t ∷ ts) last h r = by-token m n t ts last h (test t) refl r

      pub at-limit : {h : ℕ} (s : Spot all) → Ready 0 h s → Deep (λ x c. Opened 0 h s c (D x) (λ at. one (span x) at + D x at)) (if_next test (fails Depth) q) p' s
      at-limit {h = h} s r = by-tokens s.mode s.groups s.input.tokens s.input.last h r

-- what stands in a group isn't reached
module _ {all : List Filled} {A : Type 0} (k : ℕ) (D : A → ℕ → ℕ) (p p' : Parser A) (same : (s : Spot all) → Ready k 0 s → Deep (λ x c. At true k s 0 0 c (D x)) p' p' s) where
  unreached-by : (m : Mode all) (s : Spot all) → s.mode ≡ m → Ready 0 1 s → Deep (λ x c. At true 0 s 1 1 c (D x)) p p' s
  unreached-by still s u r = absurd (omega (arith, r.fits u))
  unreached-by (gone l) s u r = alone-of l p' s (p s.input) u (same s (record { enough = omega arith; stands = r.stands; sorted = r.sorted; fits = λ v. absurd (never-still l v u) })) (λ x c q. relax l (D x) q.before q.behind u r.enough q)

  pub unreached : (s : Spot all) → Ready 0 1 s → Deep (λ x c. At true 0 s 1 1 c (D x)) p p' s
  unreached s r = unreached-by s.mode s refl r

-- ## No construct begins with the end of the text

not-end : (test : Filled → Bool) → ((span : Span) (newline : Bool) → test (record { kind = Read kinds.End; span = span; newline = newline }) ≡ false) → (t : Filled) → test t ≡ true → is_end t ≡ false
not-end test none t h = by t.kind h
  where
    by : (k : Filling) → test (record { kind = k; span = t.span; newline = t.newline }) ≡ true → is_end_kind k ≡ false
    by (Read kinds.End) h = absurd (true≢false (sym h ∙ none t.span t.newline))
    by k h = refl

and-none : (v : Bool) → (v && false) ≡ false
and-none true = refl
and-none false = refl

operand-inner : (t : Filled) → begins_operand t ≡ true → is_end t ≡ false
unfolding begins_operand
operand-inner t h = not-end begins_operand (λ span newline. refl) t h

unary-inner : (t : Filled) → begins_unary t ≡ true → is_end t ≡ false
unfolding begins_unary begins_operand unary_operators
unary-inner t h = not-end begins_unary (λ span newline. refl) t h

expression-inner : (f : Flags) (t : Filled) → begins_expression f t ≡ true → is_end t ≡ false
unfolding begins_expression begins_unary begins_operand unary_operators
expression-inner f t h = not-end (begins_expression f) (λ span newline. and-none f.has_yield) t h

statement-inner : (f : Flags) (stand : Stand) (t : Filled) → begins_statement f stand t ≡ true → is_end t ≡ false
unfolding begins_statement begins_expression begins_unary begins_operand unary_operators
statement-inner f stand t h = not-end (begins_statement f stand) (λ span newline. none span newline f.has_return f.has_yield) t h
  where
    none : (span : Span) (newline : Bool) (v w : Bool) → ((v && false) || ((w && false) && may_declare stand (record { kind = Read kinds.End; span = span; newline = newline }))) ≡ false
    none span newline true true = refl
    none span newline true false = refl
    none span newline false true = refl
    none span newline false false = refl

brace-inner : (t : Filled) → next_mark marks.LeftBrace t ≡ true → is_end t ≡ false
brace-inner t h = not-end (next_mark marks.LeftBrace) (λ span newline. refl) t h

-- ## All readers

expression_stops : {all : List Filled} {Q : Reading → Spot all → Type 0} (test : Filled → Bool) (s : Spot all) → Deep Q (e.expression_at_limit test) (e.expression_at_limit test) s
unfolding e.expression_at_limit
expression_stops test s = looks _ _ _ _ _ s fault (no-expression-holds s)

operand_stops : {all : List Filled} {Q : Reading → Spot all → Type 0} (s : Spot all) → Deep Q e.operand_at_limit e.operand_at_limit s
unfolding e.operand_at_limit
operand_stops s = looks _ _ _ _ _ s fault (no-number-holds s)

none_stops : {all : List Filled} {Q : Statement → Spot all → Type 0} (s : Spot all) → Deep Q no_statement no_statement s
none_stops s = looks _ _ _ _ _ s fault (no-expression-holds s)

statement_stops : {all : List Filled} {Q : Statement → Spot all → Type 0} (f : Flags) (stand : Stand) (s : Spot all) → Deep Q (s6.statement_at_limit f stand) (s6.statement_at_limit f stand) s
unfolding s6.statement_at_limit
statement_stops f stand s = looks _ _ _ _ _ s fault (none_stops s)

module _ {all : List Filled} where
  fresh : {room h : ℕ} {s : Spot all} → Ready (suc room) h s → Ready room 0 s
  fresh r = record { enough = omega arith; stands = r.stands; sorted = r.sorted; fits = λ u. omega arith }

  opened : {room : ℕ} (h : ℕ) {s c : Spot all} {D : ℕ → ℕ} (span : Span) → Ready (suc room) h s → At true room s 0 0 c D → Within s c span → Opened (suc room) h s c D (λ at. one span at + D at)
  opened zero span r a w = surround span refl r.sorted w a
  opened (suc h) span r a w = inside refl (omega arith) (omega (arith, r.enough)) a

module _ {all : List Filled} (mode : Bool) (fuel : ℕ) where
  one-more : (a b : ℕ) → Deeper all (m6.readers mode fuel a) (m6.readers mode fuel b) a → Deeper all (m6.readers mode fuel (suc a)) (m6.readers mode fuel (suc b)) (suc a)
  unfolding m6.readers
  one-more a b d =
      let i : Inner = m6.readers mode fuel a in
      let j : Inner = m6.readers mode fuel b in
      record {
        opens = record { none = λ u v. absurd (true≢false u); both = λ u. refl; some = λ u. omega arith };
        mode = refl;
        turns = both fuel;
        sequence = λ f s r. weaken (sequence i j a d f s (fresh r)) (λ x c q. inside refl (omega arith) r.enough q.0);
        assignment = λ f {h} s r. weaken (assignment i j a d f s (fresh r)) (λ x c q. opened h (spans_expression x.value).span r q.0 q.1);
        power = λ f {h} s r. weaken (power i j a d f Among s (fresh r)) (λ x c q. opened h (spans_expression x.value).span r q.0 q.1);
        unary = λ f {h} s r. weaken (unary i j a d f s (fresh r)) (λ x c q. opened h (spans_expression x.value).span r q.0 q.1);
        callee = λ f {h} s r. weaken (chain i j a d f Callee s (fresh r)) (λ x c q. opened h (spans_expression x.value).span r q.0 q.1);
        heritage = λ f {h} s r. weaken (chain i j a d f Heritage s (fresh r)) (λ x c q. opened h (spans_expression x.value).span r q.0 q.1);
        block = λ f {h} s u r. weaken (block i j a d f s (fresh r)) (λ x c q. opened h (spans_block x).span r q.0 q.1);
        property = λ f s r. weaken (property i j a d f s (fresh r)) (λ x c q. inside refl (omega arith) r.enough q);
        target = λ f s r. weaken (binding i j a d f s (fresh r)) (λ x c q. inside refl (omega arith) r.enough q);
        part = λ f s r. weaken (one_part i j a d f s (fresh r)) (λ x c q. inside refl (omega arith) r.enough q);
        object_part = λ f s r. weaken (object_part i j a d f s (fresh r)) (λ x c q. inside refl (omega arith) r.enough q);
        variable = λ f s r. weaken (initialized i j a d f f s (fresh r)) (λ x c q. inside refl (omega arith) r.enough q);
        member = λ f s r. weaken (member i j a d f s (fresh r)) (λ x c q. inside refl (omega arith) r.enough q);
        statement = λ f stand {h} n s r. weaken (statement i j a d f stand s (fresh r)) (λ x c q. opened h (spans_statement x).span r q.0 q.1);
      }

  same : (n : ℕ) → Deeper all (m6.readers mode fuel n) (m6.readers mode fuel n) n
  unfolding m6.readers
  same zero = record {
    opens = record { none = λ u v. absurd (false≢true v); both = λ u. absurd (false≢true u); some = λ u. absurd (false≢true u) };
    mode = refl;
    turns = both fuel;
    sequence = λ f s r. expression_stops _ s;
    assignment = λ f s r. expression_stops _ s;
    power = λ f s r. expression_stops _ s;
    unary = λ f s r. expression_stops _ s;
    callee = λ f s r. operand_stops s;
    heritage = λ f s r. operand_stops s;
    block = λ f s u r. fault;
    property = λ f s r. fault;
    target = λ f s r. fault;
    part = λ f s r. fault;
    object_part = λ f s r. fault;
    variable = λ f s r. fault;
    member = λ f s r. fault;
    statement = λ f stand n s r. statement_stops f stand s;
  }
  same (suc n) = one-more n n (same n)

  module _ (k : ℕ) where
    assignment-limited : (f : Flags) {h : ℕ} (s : Spot all) → Ready 0 h s → Deep (λ x c. Opened 0 h s c (in_expression x.value) (λ at. one (spans_expression x.value).span at + in_expression x.value at)) (e.expression_at_limit (begins_expression f)) (e.assignment (m6.readers mode fuel k) f) s
    unfolding e.expression_at_limit
    assignment-limited f s r = at-limit k (λ x. in_expression x.value) (λ x. (spans_expression x.value).span) (e.assignment (m6.readers mode fuel k) f) (λ c q. assignment (m6.readers mode fuel k) (m6.readers mode fuel k) k (same k) f c q) (begins_expression f) (expression-inner f) no_expression (assignment-limit (m6.readers mode fuel k) f) (λ h s. no-expression-holds s) s r

    power-limited : (f : Flags) {h : ℕ} (s : Spot all) → Ready 0 h s → Deep (λ x c. Opened 0 h s c (in_expression x.value) (λ at. one (spans_expression x.value).span at + in_expression x.value at)) (e.expression_at_limit begins_unary) (e.power (m6.readers mode fuel k) f Among) s
    unfolding e.expression_at_limit
    power-limited f s r = at-limit k (λ x. in_expression x.value) (λ x. (spans_expression x.value).span) (e.power (m6.readers mode fuel k) f Among) (λ c q. power (m6.readers mode fuel k) (m6.readers mode fuel k) k (same k) f Among c q) begins_unary unary-inner no_expression (power-limit (m6.readers mode fuel k) f) (λ h s. no-expression-holds s) s r

    unary-limited : (f : Flags) {h : ℕ} (s : Spot all) → Ready 0 h s → Deep (λ x c. Opened 0 h s c (in_expression x.value) (λ at. one (spans_expression x.value).span at + in_expression x.value at)) (e.expression_at_limit begins_unary) (e.unary (m6.readers mode fuel k) f) s
    unfolding e.expression_at_limit
    unary-limited f s r = at-limit k (λ x. in_expression x.value) (λ x. (spans_expression x.value).span) (e.unary (m6.readers mode fuel k) f) (λ c q. unary (m6.readers mode fuel k) (m6.readers mode fuel k) k (same k) f c q) begins_unary unary-inner no_expression (unary-limit (m6.readers mode fuel k) f) (λ h s. no-expression-holds s) s r

    callee-limited : (f : Flags) {h : ℕ} (s : Spot all) → Ready 0 h s → Deep (λ x c. Opened 0 h s c (in_expression x.value) (λ at. one (spans_expression x.value).span at + in_expression x.value at)) e.operand_at_limit (e.chain (m6.readers mode fuel k) f Callee) s
    unfolding e.operand_at_limit
    callee-limited f s r = at-limit k (λ x. in_expression x.value) (λ x. (spans_expression x.value).span) (e.chain (m6.readers mode fuel k) f Callee) (λ c q. chain (m6.readers mode fuel k) (m6.readers mode fuel k) k (same k) f Callee c q) begins_operand operand-inner no_number (operand-limit (m6.readers mode fuel k) f) (λ h s. no-number-holds s) s r

    heritage-limited : (f : Flags) {h : ℕ} (s : Spot all) → Ready 0 h s → Deep (λ x c. Opened 0 h s c (in_expression x.value) (λ at. one (spans_expression x.value).span at + in_expression x.value at)) e.operand_at_limit (e.chain (m6.readers mode fuel k) f Heritage) s
    unfolding e.operand_at_limit
    heritage-limited f s r = at-limit k (λ x. in_expression x.value) (λ x. (spans_expression x.value).span) (e.chain (m6.readers mode fuel k) f Heritage) (λ c q. chain (m6.readers mode fuel k) (m6.readers mode fuel k) k (same k) f Heritage c q) begins_operand operand-inner no_number (heritage-limit (m6.readers mode fuel k) f) (λ h s. no-number-holds s) s r

    statement-here : (f : Flags) (stand : Stand) → (stand ≡ Listed → ⊥) → {h : ℕ} (s : Spot all) → Ready 0 h s → Deep (λ x c. Opened 0 h s c (in_statement x) (λ at. one (spans_statement x).span at + in_statement x at)) (s6.statement_at_limit f stand) (s6.statement (m6.readers mode fuel k) f stand) s
    unfolding s6.statement_at_limit
    statement-here f stand n s r = at-limit k in_statement (λ x. (spans_statement x).span) (s6.statement (m6.readers mode fuel k) f stand) (λ c q. statement (m6.readers mode fuel k) (m6.readers mode fuel k) k (same k) f stand c q) (begins_statement f stand) (statement-inner f stand) no_statement (statement-limit (m6.readers mode fuel k) f stand n) (λ h s. none_stops s) s r

    -- a statement of a list stands in a group
    statement-listed : (f : Flags) (m : Mode all) (h : ℕ) (s : Spot all) → s.mode ≡ m → 1 ≤ h → Ready 0 h s → Deep (λ x c. Opened 0 h s c (in_statement x) (λ at. one (spans_statement x).span at + in_statement x at)) (s6.statement_at_limit f Listed) (s6.statement (m6.readers mode fuel k) f Listed) s
    statement-listed f still h s u o r = absurd (omega (arith, r.fits u, o))
    statement-listed f (gone l) h s u o r = alone-of l (s6.statement (m6.readers mode fuel k) f Listed) s (s6.statement_at_limit f Listed s.input) u (statement (m6.readers mode fuel k) (m6.readers mode fuel k) k (same k) f Listed s (record { enough = omega arith; stands = r.stands; sorted = r.sorted; fits = λ v. absurd (never-still l v u) }))
        (λ x c q. relax-opened l h 0 (spans_statement x).span r.sorted u r.enough q)

    statement-limited : (f : Flags) (stand : Stand) {h : ℕ} → (stand ≡ Listed → 1 ≤ h) → (s : Spot all) → Ready 0 h s → Deep (λ x c. Opened 0 h s c (in_statement x) (λ at. one (spans_statement x).span at + in_statement x at)) (s6.statement_at_limit f stand) (s6.statement (m6.readers mode fuel k) f stand) s
    statement-limited f Listed {h = h} n s r = statement-listed f s.mode h s refl (n refl) r
    statement-limited f Under n s r = statement-here f Under (λ u. absurd (cc)) s r
    statement-limited f Labelled n s r = statement-here f Labelled (λ u. absurd (cc)) s r

    block-by : (f : Flags) (m : Mode all) (n : ℕ) (ts : List Filled) (last h : ℕ) → next_is (next_mark marks.LeftBrace) ts ≡ true → Ready 0 h (record { mode = m; groups = n; input = record { tokens = ts; last = last } })
        → Runs (λ x c. Opened 0 h (record { mode = m; groups = n; input = record { tokens = ts; last = last } }) c (in_block x) (λ at. one (spans_block x).span at + in_block x at)) m (Fault Depth ts) (t6.block (m6.readers mode fuel k) f (record { tokens = ts; last = last }))
    block-by f m n [] last h u r = absurd (false≢true u)
    block-by f m n (t ∷ ts) last h u r = stops-at k in_block (λ x. (spans_block x).span) (t6.block (m6.readers mode fuel k) f) (λ c q. block (m6.readers mode fuel k) (m6.readers mode fuel k) k (same k) f c q) (next_mark marks.LeftBrace) brace-inner m n t ts last h u r

    block-limited : (f : Flags) {h : ℕ} (s : Spot all) → next_is (next_mark marks.LeftBrace) s.input.tokens ≡ true → Ready 0 h s → Deep (λ x c. Opened 0 h s c (in_block x) (λ at. one (spans_block x).span at + in_block x at)) (fails Depth) (t6.block (m6.readers mode fuel k) f) s
    block-limited f {h = h} s u r = block-by f s.mode s.groups s.input.tokens s.input.last h u r

    limited : Deeper all (m6.readers mode fuel zero) (m6.readers mode fuel (suc k)) zero
    unfolding m6.readers
    limited = record {
      opens = record { none = λ u v. refl; both = λ u. absurd (false≢true u); some = λ u. absurd (false≢true u) };
      mode = refl;
      turns = both fuel;
      sequence = λ f s r. unreached k (λ x. in_expression x.value) (e.expression_at_limit (begins_expression f)) (e.sequence (m6.readers mode fuel k) f) (λ c q. weaken (sequence (m6.readers mode fuel k) (m6.readers mode fuel k) k (same k) f c q) (λ x w a. a.0)) s r;
      assignment = λ f s r. assignment-limited f s r;
      power = λ f s r. power-limited f s r;
      unary = λ f s r. unary-limited f s r;
      callee = λ f s r. callee-limited f s r;
      heritage = λ f s r. heritage-limited f s r;
      block = λ f s u r. block-limited f s u r;
      property = λ f s r. unreached k _ (fails Depth) (e.one_property (m6.readers mode fuel k) f) (λ c q. property (m6.readers mode fuel k) (m6.readers mode fuel k) k (same k) f c q) s r;
      target = λ f s r. unreached k _ (fails Depth) (t6.binding (m6.readers mode fuel k) f) (λ c q. binding (m6.readers mode fuel k) (m6.readers mode fuel k) k (same k) f c q) s r;
      part = λ f s r. unreached k _ (fails Depth) (t6.one_part (m6.readers mode fuel k) f) (λ c q. one_part (m6.readers mode fuel k) (m6.readers mode fuel k) k (same k) f c q) s r;
      object_part = λ f s r. unreached k _ (fails Depth) (t6.one_object_part (m6.readers mode fuel k) f) (λ c q. object_part (m6.readers mode fuel k) (m6.readers mode fuel k) k (same k) f c q) s r;
      variable = λ f s r. unreached k _ (fails Depth) (t6.initialized (m6.readers mode fuel k) f f) (λ c q. initialized (m6.readers mode fuel k) (m6.readers mode fuel k) k (same k) f f c q) s r;
      member = λ f s r. unreached k _ (fails Depth) (t6.one_member (m6.readers mode fuel k) f) (λ c q. member (m6.readers mode fuel k) (m6.readers mode fuel k) k (same k) f c q) s r;
      statement = λ f stand n s r. statement-limited f stand n s r;
    }

  pub deeper : (room more : ℕ) → Deeper all (m6.readers mode fuel room) (m6.readers mode fuel (plus room more)) room
  deeper zero zero = same zero
  deeper zero (suc more) = limited more
  deeper (suc room) more = one-more room (plus room more) (deeper room more)
