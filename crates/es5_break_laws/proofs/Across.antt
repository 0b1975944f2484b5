-- Two rows that are the same up to a semicolon before a break or the end, which the one has and the other leaves out: what a reader
-- that inserts semicolons takes of the first, it takes of the second.
use Rattle.std.proofs.lemmas.Bool.{false≢true}
use Rattle.std.proofs.Common.{◌≡◌, ◌∙◌, ℕ, Bool, true, false, List, [], ◌∷◌, Option, Some, None, refl, sym, ap, subst}
use Rattle.es5_ast.specs.Lexical.{Punctuator, Inserted, Token5}
use Rattle.es5_ast.specs.Grammar.{begin_of}
use Rattle.es5_reading.specs.Parser.{Input5, Stop5, Syntax, Outcome5, Took, Fault, Parser, after, fails, on, on_taken, choose, next_is, if_next, from, take_as, mark, next_mark, ending, Inner5, on_group, semicolon, inserts, is_insertable, returns}
use Rattle.es5_reading.proofs.Posts.{took, fault}
use Rattle.es5_reading.proofs.Follows.{Never}
use Rattle.es5_break_laws.specs.Breaks.{GoesOn, IsBreak}
use Rattle.es5_break_laws.proofs.Quiet.{no-mark, mark-none, ending-none}

-- an inserted semicolon
abbrev pub semi : ℕ → Token5
semi at = record { begin = at; end = at; after_line = false; kind = Inserted }

-- the end, or tokens of which the first one is at a break
pub data Quiet : List Token5 → Type 0 where
  at_the_end : Quiet []
  before_break : {t : Token5} {ts : List Token5} → IsBreak t → Quiet (t ∷ ts)

-- The semicolon, and the tokens behind it.
pub record Gap : Type 0 where
  pub at : ℕ
  pub behind : List Token5
  pub quiet : Quiet behind

-- what is left of the rows; the semicolon stands where the token before it ends
pub data Rows (g : Gap) : ℕ → List Token5 → List Token5 → Type 0 where
  here : Rows g g.at (semi g.at ∷ g.behind) g.behind
  later : {last : ℕ} {t : Token5} {ts us : List Token5} → Rows g t.end ts us → Rows g last (t ∷ ts) (t ∷ us)

-- what is left of the other row
pub record Row (g : Gap) (s : Input5) : Type 0 where
  pub row : List Token5
  pub rows : Rows g s.last s.tokens row

abbrev pub other : {g : Gap} (s : Input5) → Row g s → Input5
other s s' = record { tokens = s'.row; last = s.last }

-- Both take the same, or the first stops. Where that may be, it may also have come to the semicolon with a statement read, where
-- nothing goes on.
pub data Agree (g : Gap) (b : Bool) {A : Type 0} : Outcome5 A → Outcome5 A → Type 0 where
  took_both : {x : A} {s : Input5} (s' : Row g s) → Agree g b (Took x s) (Took x (other s s'))
  joined : {x : A} {c : Input5} → Agree g b (Took x c) (Took x c)
  first_stops : {stop : Stop5} {ts : List Token5} {o : Outcome5 A} → Agree g b (Fault stop ts) o
  lost : {x : A} {at last : ℕ} {us : List Token5} {o : Outcome5 A} → b ≡ true → Agree g b (Took x (record { tokens = semi at ∷ us; last = last })) o

abbrev pub AcrossBy : {A : Type 0} → Bool → Gap → Parser A → Input5 → Type 0
AcrossBy b g p s = (s' : Row g s) → Agree g b (p s) (p (other s s'))

-- the reader takes the same of both rows, or stops at the first
abbrev pub Across : {A : Type 0} → Gap → Parser A → Input5 → Type 0
Across g p s = AcrossBy false g p s

-- the same of a statement, or it ends where no semicolon may stand
abbrev pub AcrossOr : {A : Type 0} → Gap → Parser A → Input5 → Type 0
AcrossOr g p s = AcrossBy true g p s

-- a reader that takes nothing where a semicolon is inserted
abbrev pub Stops : {A : Type 0} → Parser A → Type 0
Stops p = (at : ℕ) (us : List Token5) (last : ℕ) → Never (p (record { tokens = semi at ∷ us; last = last }))

missed : {A B : Type 0} (test : Token5 → Option B) (t : Token5) (ts : List Token5) (last : ℕ) (p : B → Parser A) (q : Parser A) → test t ≡ None → on test p q (record { tokens = t ∷ ts; last = last }) ≡ q (record { tokens = t ∷ ts; last = last })
missed test t ts last p q h = ap (λ o. on_taken o t ts p q (record { tokens = t ∷ ts; last = last })) h

missed-there : {A B : Type 0} (test : Token5 → Option B) (p : B → Parser A) (q : Parser A) → ((t : Token5) → IsBreak t → test t ≡ None) → (last : ℕ) {us : List Token5} → Quiet us → on test p q (record { tokens = us; last = last }) ≡ q (record { tokens = us; last = last })
missed-there test p q n last at_the_end = refl
missed-there test p q n last (before_break {t = t} {ts = ts} k) = missed test t ts last p q (n t k)

module _ {g : Gap} {b : Bool} where
  pub done : {A : Type 0} {x : A} {s : Input5} (s' : Row g s) → Agree g b (Took x s) (Took x (other s s'))
  done s' = took_both s'

  pub stopped : {A : Type 0} {s : Input5} {stop : Stop5} {ts : List Token5} (us : Row g s → List Token5) (s' : Row g s) → Agree g b {A = A} (Fault stop ts) (Fault stop (us s'))
  stopped us s' = first_stops

  pub never-agrees : {A : Type 0} {o o' : Outcome5 A} → Never o → Agree g b o o'
  never-agrees (took h) = absurd h
  never-agrees fault = first_stops

  pub alike : {A : Type 0} (o : Outcome5 A) → Agree g b o o
  alike (Took x c) = joined
  alike (Fault stop ts) = first_stops

  pub nowhere : {A : Type 0} {stop : Stop5} (s : Input5) → AcrossBy {A = A} b g (fails stop) s
  nowhere s s' = first_stops

  pub either : {A : Type 0} (v : Bool) (p q : Parser A) (s : Input5) → AcrossBy b g p s → AcrossBy b g q s → AcrossBy b g (choose v p q) s
  either true p q s f h = f
  either false p q s f h = h

  -- ## Tests of the next token

  same-token : {A B : Type 0} (test : Token5 → Option B) (p : B → Parser A) (q : Parser A) (t : Token5) (ts us : List Token5) (last : ℕ) → Rows g t.end ts us → ((x : B) (c : Input5) → AcrossBy b g (p x) c)
      → Agree g b (q (record { tokens = t ∷ ts; last = last })) (q (record { tokens = t ∷ us; last = last })) → Agree g b (on test p q (record { tokens = t ∷ ts; last = last })) (on test p q (record { tokens = t ∷ us; last = last }))
  same-token {A = A} {B = B} test p q t ts us last w f h = known (test t)
    where
      known : (o : Option B) → Agree g b (on_taken o t ts p q (record { tokens = t ∷ ts; last = last })) (on_taken o t us p q (record { tokens = t ∷ us; last = last }))
      known (Some x) = f x (record { tokens = ts; last = t.end }) (record { row = us; rows = w })
      known None = h

  -- the token may be absent, and the next one at a break is none such
  pub may : {A B : Type 0} (test : Token5 → Option B) (p : B → Parser A) (q : Parser A) → ((at : ℕ) → test (semi at) ≡ None) → ((t : Token5) → IsBreak t → test t ≡ None) → (s : Input5) → ((x : B) (c : Input5) → AcrossBy b g (p x) c) → AcrossBy b g q s → AcrossBy b g (on test p q) s
  may {A = A} test p q m n s f h s' = by s'.rows (h s')
    where
      by : {last : ℕ} {ts us : List Token5} → Rows g last ts us → Agree g b (q (record { tokens = ts; last = last })) (q (record { tokens = us; last = last })) → Agree g b (on test p q (record { tokens = ts; last = last })) (on test p q (record { tokens = us; last = last }))
      by here k =
          subst (λ o. Agree g b o (on test p q (record { tokens = g.behind; last = g.at }))) (sym (missed test (semi g.at) g.behind g.at p q (m g.at)))
          (subst (λ o. Agree g b (q (record { tokens = semi g.at ∷ g.behind; last = g.at })) o) (sym (missed-there test p q n g.at g.quiet)) k)
      by (later {last = last} {t = t} {ts = ts} {us = us} w) k = same-token test p q t ts us last w f k

  -- the token, or what else must stand there, which no inserted semicolon is
  pub must : {A B : Type 0} (test : Token5 → Option B) (p : B → Parser A) (q : Parser A) → ((at : ℕ) → test (semi at) ≡ None) → Stops q → (s : Input5) → ((x : B) (c : Input5) → AcrossBy b g (p x) c) → AcrossBy b g q s → AcrossBy b g (on test p q) s
  must {A = A} test p q m n s f h s' = by s'.rows (h s')
    where
      by : {last : ℕ} {ts us : List Token5} → Rows g last ts us → Agree g b (q (record { tokens = ts; last = last })) (q (record { tokens = us; last = last })) → Agree g b (on test p q (record { tokens = ts; last = last })) (on test p q (record { tokens = us; last = last }))
      by here k =
          subst (λ o. Agree g b o (on test p q (record { tokens = g.behind; last = g.at }))) (sym (missed test (semi g.at) g.behind g.at p q (m g.at)))
          (never-agrees (n g.at g.behind g.at))
      by (later {last = last} {t = t} {ts = ts} {us = us} w) k = same-token test p q t ts us last w f k

  pub take : {B : Type 0} (test : Token5 → Option B) → ((at : ℕ) → test (semi at) ≡ None) → (s : Input5) → AcrossBy b g (take_as test) s
  take test m s = must test _ _ m (λ at us last. fault) s (λ x c. done) (nowhere s)

  -- ## Looking at the next token

  pub looks-may : {A : Type 0} (test : Token5 → Bool) (p q : Parser A) → ((at : ℕ) → test (semi at) ≡ false) → ((t : Token5) → IsBreak t → test t ≡ false) → (s : Input5) → AcrossBy b g p s → AcrossBy b g q s → AcrossBy b g (if_next test p q) s
  looks-may test p q m n s f h s' = subst (λ v. Agree g b (choose (next_is test s.tokens) p q s) (choose v p q (other s s'))) (same s'.rows) (either (next_is test s.tokens) p q s f h s')
    where
      none : {us : List Token5} → Quiet us → next_is test us ≡ false
      none at_the_end = refl
      none (before_break {t = t} k) = n t k

      same : {last : ℕ} {ts us : List Token5} → Rows g last ts us → next_is test ts ≡ next_is test us
      same here = m g.at ∙ sym (none g.quiet)
      same (later w) = refl

  pub looks-must : {A : Type 0} (test : Token5 → Bool) (p q : Parser A) → Stops (if_next test p q) → (s : Input5) → AcrossBy b g p s → AcrossBy b g q s → AcrossBy b g (if_next test p q) s
  looks-must {A = A} test p q n s f h s' = by s'.rows (either (next_is test s.tokens) p q s f h s')
    where
      by : {last : ℕ} {ts us : List Token5} → Rows g last ts us → Agree g b (choose (next_is test ts) p q (record { tokens = ts; last = last })) (choose (next_is test ts) p q (record { tokens = us; last = last })) → Agree g b (if_next test p q (record { tokens = ts; last = last })) (if_next test p q (record { tokens = us; last = last }))
      by here k = never-agrees (n g.at g.behind g.at)
      by (later w) k = k

  -- what depends on where the next token begins
  pub begins : {A : Type 0} (p : ℕ → Parser A) → Stops (from p) → (s : Input5) → ((at : ℕ) → AcrossBy b g (p at) s) → AcrossBy b g (from p) s
  begins {A = A} p n s f s' = by s'.rows (f (begin_of s.tokens) s')
    where
      by : {last : ℕ} {ts us : List Token5} → Rows g last ts us → Agree g b (p (begin_of ts) (record { tokens = ts; last = last })) (p (begin_of ts) (record { tokens = us; last = last })) → Agree g b (from p (record { tokens = ts; last = last })) (from p (record { tokens = us; last = last }))
      by here k = never-agrees (n g.at g.behind g.at)
      by (later w) k = k

  -- the same, where nothing of it is asked at a semicolon
  pub begins-free : {A : Type 0} (p : ℕ → Parser A) → ((place place' : ℕ) (at : ℕ) (us : List Token5) (last : ℕ) → p place (record { tokens = semi at ∷ us; last = last }) ≡ p place' (record { tokens = semi at ∷ us; last = last })) → (s : Input5)
      → ((at : ℕ) → AcrossBy b g (p at) s) → AcrossBy b g (from p) s
  begins-free {A = A} p free s f s' = by s'.rows (λ at. f at s')
    where
      by : {last : ℕ} {ts us : List Token5} → Rows g last ts us → ((at : ℕ) → Agree g b (p at (record { tokens = ts; last = last })) (p at (record { tokens = us; last = last }))) → Agree g b (from p (record { tokens = ts; last = last })) (from p (record { tokens = us; last = last }))
      by here k = subst (λ o. Agree g b o (p (begin_of g.behind) (record { tokens = g.behind; last = g.at }))) (free (begin_of g.behind) g.at g.at g.behind g.at) (k (begin_of g.behind))
      by (later {t = t} w) k = k t.begin

  pub group-must : {A : Type 0} (i : Inner5) (m : List ℕ) (p q : Parser A) → Stops q → (s : Input5) → ((c : Input5) → AcrossBy b g p c) → AcrossBy b g q s → AcrossBy b g (on_group i m p q) s
  group-must i m p q n s f h = looks-must (next_mark m) _ q n s (either i.may_open _ _ s (must (mark m) (λ t. p) q (λ at. refl) n s (λ t c. f c) h) (stopped _)) h

  pub group-may : {A : Type 0} (i : Inner5) (m : List ℕ) (p q : Parser A) → GoesOn (Punctuator m) → (s : Input5) → ((c : Input5) → AcrossBy b g p c) → AcrossBy b g q s → AcrossBy b g (on_group i m p q) s
  group-may i m p q k s f h = looks-may (next_mark m) _ q (λ at. refl) (λ t r. no-mark t r m k) s (either i.may_open _ _ s (may (mark m) (λ t. p) q (λ at. refl) (λ t r. mark-none t r m k) s (λ t c. f c) h) (stopped _)) h

-- nothing is taken where a semicolon is inserted
pub data Rests {A : Type 0} : Outcome5 A → Type 0 where
  rests : {x : A} {at last : ℕ} {us : List Token5} → Rests (Took x (record { tokens = semi at ∷ us; last = last }))
  stands : {stop : Stop5} {ts : List Token5} → Rests (Fault stop ts)

abbrev pub Idle : {A : Type 0} → Parser A → Type 0
Idle p = (at : ℕ) (us : List Token5) (last : ℕ) → Rests (p (record { tokens = semi at ∷ us; last = last }))

pub idle-bind : {A B : Type 0} {o : Outcome5 A} (q : A → Parser B) → Rests o → ((x : A) → Idle (q x)) → Rests (after o q)
idle-bind q (rests {x = x} {at = at} {last = last} {us = us}) f = f x at us last
idle-bind q stands f = stands

module _ {g : Gap} where
  onward : {A B : Type 0} {b : Bool} {o o' : Outcome5 A} (q : A → Parser B) → Agree g false o o' → ((x : A) (s : Input5) → AcrossBy b g (q x) s) → Agree g b (after o q) (after o' q)
  onward q (took_both {s = s} s') f = f _ s s'
  onward q (joined {x = x} {c = c}) f = alike (q x c)
  onward q first_stops f = first_stops
  onward q (lost e) f = absurd (false≢true e)

  pub bind : {A B : Type 0} {b : Bool} {s : Input5} {o : Outcome5 A} {o' : Row g s → Outcome5 A} (q : A → Parser B) → ((s' : Row g s) → Agree g false o (o' s')) → ((x : A) (c : Input5) → AcrossBy b g (q x) c) → (s' : Row g s) → Agree g b (after o q) (after (o' s') q)
  bind q h f s' = onward q (h s') f

  rest-agrees : {A : Type 0} {o o' : Outcome5 A} → Rests o → Agree g true o o'
  rest-agrees rests = lost refl
  rest-agrees stands = first_stops

  onward-idle : {A B : Type 0} {o o' : Outcome5 A} (q : A → Parser B) → ((x : A) → Idle (q x)) → Agree g true o o' → ((x : A) (s : Input5) → AcrossOr g (q x) s) → Agree g true (after o q) (after o' q)
  onward-idle q n (took_both {s = s} s') f = f _ s s'
  onward-idle q n (joined {x = x} {c = c}) f = alike (q x c)
  onward-idle q n first_stops f = first_stops
  onward-idle q n (lost {x = x} {at = at} {last = last} {us = us} {o = o} e) f = rest-agrees (n x at us last)

  -- after a statement, what takes nothing at a semicolon
  pub bind-idle : {A B : Type 0} {s : Input5} {o : Outcome5 A} {o' : Row g s → Outcome5 A} (q : A → Parser B) → ((x : A) → Idle (q x)) → ((s' : Row g s) → Agree g true o (o' s')) → ((x : A) (c : Input5) → AcrossOr g (q x) c) → (s' : Row g s) → Agree g true (after o q) (after (o' s') q)
  bind-idle q n h f s' = onward-idle q n (h s') f

  onward-ends : {A B : Type 0} {b : Bool} {o o' : Outcome5 A} (q : A → Parser B) → ((x : A) → Stops (q x)) → Agree g true o o' → ((x : A) (s : Input5) → AcrossBy b g (q x) s) → Agree g b (after o q) (after o' q)
  onward-ends q n (took_both {s = s} s') f = f _ s s'
  onward-ends q n (joined {x = x} {c = c}) f = alike (q x c)
  onward-ends q n first_stops f = first_stops
  onward-ends q n (lost {x = x} {at = at} {last = last} {us = us} e) f = never-agrees (n x at us last)

  -- after a statement, what stops at a semicolon
  pub bind-ends : {A B : Type 0} {b : Bool} {s : Input5} {o : Outcome5 A} {o' : Row g s → Outcome5 A} (q : A → Parser B) → ((x : A) → Stops (q x)) → ((s' : Row g s) → Agree g true o (o' s')) → ((x : A) (c : Input5) → AcrossBy b g (q x) c) → (s' : Row g s) → Agree g b (after o q) (after (o' s') q)
  bind-ends q n h f s' = onward-ends q n (h s') f

  -- a token that may follow a statement, with which it goes on
  pub or-lost : {A B : Type 0} (test : Token5 → Option B) (p : B → Parser A) (q : Parser A) → ((at : ℕ) → test (semi at) ≡ None) → Idle q → (s : Input5) → ((x : B) (c : Input5) → AcrossOr g (p x) c) → AcrossOr g q s → AcrossOr g (on test p q) s
  or-lost {A = A} test p q m n s f h s' = by s'.rows (h s')
    where
      by : {last : ℕ} {ts us : List Token5} → Rows g last ts us → Agree g true (q (record { tokens = ts; last = last })) (q (record { tokens = us; last = last })) → Agree g true (on test p q (record { tokens = ts; last = last })) (on test p q (record { tokens = us; last = last }))
      by here k =
          subst (λ o. Agree g true o (on test p q (record { tokens = g.behind; last = g.at }))) (sym (missed test (semi g.at) g.behind g.at p q (m g.at)))
          (rest-agrees (n g.at g.behind g.at))
      by (later {last = last} {t = t} {ts = ts} {us = us} w) k = same-token test p q t ts us last w f k

  -- the same where no token is taken
  pub looks-idle : {A : Type 0} (test : Token5 → Bool) (p q : Parser A) → Idle (if_next test p q) → (s : Input5) → AcrossOr g p s → AcrossOr g q s → AcrossOr g (if_next test p q) s
  looks-idle {A = A} test p q n s f h s' = by s'.rows (either (next_is test s.tokens) p q s f h s')
    where
      by : {last : ℕ} {ts us : List Token5} → Rows g last ts us → Agree g true (choose (next_is test ts) p q (record { tokens = ts; last = last })) (choose (next_is test ts) p q (record { tokens = us; last = last })) → Agree g true (if_next test p q (record { tokens = ts; last = last })) (if_next test p q (record { tokens = us; last = last }))
      by here k = rest-agrees (n g.at g.behind g.at)
      by (later w) k = k

  -- ## Semicolons

  pub semicolon_ : (i : Inner5) → i.inserting ≡ true → (s : Input5) → Across g (semicolon i) s
  unfolding semicolon
  semicolon_ i h s s' = by s'.rows
    where
      put : (c : Input5) → choose i.inserting inserts (fails Syntax) c ≡ inserts c
      put c = ap (λ b. choose b inserts (fails Syntax) c) h

      insertable : {us : List Token5} → Quiet us → is_insertable us ≡ true
      insertable at_the_end = refl
      insertable (before_break k) = k.line

      left-out : semicolon i (record { tokens = g.behind; last = g.at }) ≡ Took tt (record { tokens = g.behind; last = g.at })
      left-out =
          missed-there ending (λ t. returns tt) (choose i.inserting inserts (fails Syntax)) (λ t k. ending-none t k) g.at g.quiet
          ∙ put (record { tokens = g.behind; last = g.at })
          ∙ ap (λ b. choose b (returns tt) (fails Syntax) (record { tokens = g.behind; last = g.at })) (insertable g.quiet)

      choice : (b : Bool) (t : Token5) (ts us : List Token5) (last : ℕ) → Rows g t.end ts us → Agree g false (choose b (returns {A = Unit {0}} tt) (fails Syntax) (record { tokens = t ∷ ts; last = last })) (choose b (returns {A = Unit {0}} tt) (fails Syntax) (record { tokens = t ∷ us; last = last }))
      choice true t ts us last w = took_both {s = record { tokens = t ∷ ts; last = last }} (record { row = t ∷ us; rows = later w })
      choice false t ts us last w = first_stops

      same : (b : Bool) (t : Token5) (ts us : List Token5) (last : ℕ) → Rows g t.end ts us → Agree g false (choose b inserts (fails Syntax) (record { tokens = t ∷ ts; last = last })) (choose b inserts (fails Syntax) (record { tokens = t ∷ us; last = last }))
      same true t ts us last w = choice (is_insertable (t ∷ ts)) t ts us last w
      same false t ts us last w = first_stops

      by : {last : ℕ} {ts us : List Token5} → Rows g last ts us → Agree g false (semicolon i (record { tokens = ts; last = last })) (semicolon i (record { tokens = us; last = last }))
      by here = subst (λ o. Agree g false (Took tt (record { tokens = g.behind; last = g.at })) o) (sym left-out) joined
      by (later {last = last} {t = t} {ts = ts} {us = us} w) = same-token ending _ _ t ts us last w (λ x c. done) (same i.inserting t ts us last w)

-- readers of what stands one construct deeper
pub record Crosses (g : Gap) (i : Inner5) : Type 0 where
  pub inserting : i.inserting ≡ true
  pub sequence : (k : Bool) (s : Input5) → Across g (i.sequence k) s
  pub assignment : (k : Bool) (s : Input5) → Across g (i.assignment k) s
  pub unary : (s : Input5) → Across g i.unary s
  pub callee : (s : Input5) → Across g i.callee s
  pub property : (s : Input5) → Across g i.property s
  pub declared : (k : Bool) (s : Input5) → Across g (i.declared k) s
  pub statement : (inside top : Bool) (s : Input5) → AcrossOr g (i.statement inside top) s
  -- none of these begins with an inserted semicolon
  pub sequence_stops : (k : Bool) → Stops (i.sequence k)
  pub assignment_stops : (k : Bool) → Stops (i.assignment k)
  pub callee_stops : Stops i.callee
  pub property_stops : Stops i.property
  pub statement_stops : (inside top : Bool) → Stops (i.statement inside top)
