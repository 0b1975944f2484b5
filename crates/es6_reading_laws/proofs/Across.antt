-- Two rows that are the same up to a semicolon before a break, which the one has and the other leaves out: what a reader that inserts
-- semicolons takes of the first, it takes of the second.
use Rattle.std.proofs.lemmas.Bool.{false≢true}
use Rattle.std.proofs.Common.{◌≡◌, ◌∙◌, ℕ, Bool, true, false, List, ◌∷◌, Option, Some, None, refl, sym, ap, subst}
use Rattle.es6_lexer.specs.declared.token.Punctuator.{Punctuator as Mark}
use Rattle.es6_ast.specs.declared.settings.Flags.{Flags}
use Rattle.es6_ast.specs.declared.settings.Stand.{Stand}
use Rattle.es6_ast.specs.declared.settings.Stop.{Stop}
use Rattle.es6_ast.specs.Tokens.{Filled, begin_of}
use Rattle.es6_reading.specs.Parser as p
use Rattle.es6_reading.specs.Parser.{Input, Outcome, Took, Fault, Parser, after, on, on_taken, choose, next_is, if_next, from, take_as, mark, next_mark, refused, no_number, no_expression, ending, Inner, on_group, semicolon, inserts, inserts_anywhere, is_insertable, returns}
use Rattle.es6_reading.proofs.Posts.{took, fault, refused-holds}
use Rattle.es6_reading.proofs.Follows.{semi, Never}
use Rattle.es6_reading_laws.proofs.Quiet.{Quiet, ending-misses}

-- The semicolon, the token behind it, and those behind that.
pub record Gap : Type 0 where
  pub do_while : Bool
  pub at : ℕ
  pub next : Filled
  pub behind : List Filled
  pub quiet : Quiet next

-- what is left of the rows; the semicolon stands where the token before it ends
pub data Rows (g : Gap) : ℕ → List Filled → List Filled → Type 0 where
  here : Rows g g.at (semi g.do_while g.at ∷ g.next ∷ g.behind) (g.next ∷ g.behind)
  later : {last : ℕ} {t : Filled} {ts us : List Filled} → Rows g t.span.end ts us → Rows g last (t ∷ ts) (t ∷ us)

-- what is left of the other row
pub record Row (g : Gap) (s : Input) : Type 0 where
  pub row : List Filled
  pub rows : Rows g s.last s.tokens row

abbrev pub other : {g : Gap} (s : Input) → Row g s → Input
other s s' = record { tokens = s'.row; last = s.last }

-- Both take the same, or the first stops. Where that may be, it may also have come to the semicolon with a statement read, where
-- nothing goes on.
pub data Agree (g : Gap) (b : Bool) {A : Type 0} : Outcome A → Outcome A → Type 0 where
  took_both : {x : A} {s : Input} (s' : Row g s) → Agree g b (Took x s) (Took x (other s s'))
  joined : {x : A} {c : Input} → Agree g b (Took x c) (Took x c)
  first_stops : {stop : Stop} {ts : List Filled} {o : Outcome A} → Agree g b (Fault stop ts) o
  lost : {x : A} {d : Bool} {at last : ℕ} {us : List Filled} {o : Outcome A} → b ≡ true → Agree g b (Took x (record { tokens = semi d at ∷ us; last = last })) o

abbrev pub AcrossBy : {A : Type 0} → Bool → Gap → Parser A → Input → Type 0
AcrossBy b g p s = (s' : Row g s) → Agree g b (p s) (p (other s s'))

-- the reader takes the same of both rows, or stops at the first
abbrev pub Across : {A : Type 0} → Gap → Parser A → Input → Type 0
Across g p s = AcrossBy false g p s

-- the same of a statement, or it ends where no semicolon may stand
abbrev pub AcrossOr : {A : Type 0} → Gap → Parser A → Input → Type 0
AcrossOr g p s = AcrossBy true g p s

-- a reader that takes nothing where a semicolon is inserted
abbrev pub Stops : {A : Type 0} → Parser A → Type 0
Stops p = (d : Bool) (at : ℕ) (us : List Filled) (last : ℕ) → Never (p (record { tokens = semi d at ∷ us; last = last }))

missed : {A B : Type 0} (test : Filled → Option B) (t : Filled) (ts : List Filled) (last : ℕ) (p : B → Parser A) (q : Parser A) → test t ≡ None → on test p q (record { tokens = t ∷ ts; last = last }) ≡ q (record { tokens = t ∷ ts; last = last })
missed test t ts last p q h = ap (λ o. on_taken o t ts p q (record { tokens = t ∷ ts; last = last })) h

module _ {g : Gap} {b : Bool} where
  pub done : {A : Type 0} {x : A} {s : Input} (s' : Row g s) → Agree g b (Took x s) (Took x (other s s'))
  done s' = took_both s'

  pub stopped : {A : Type 0} {s : Input} {stop : Stop} {ts : List Filled} (us : Row g s → List Filled) (s' : Row g s) → Agree g b {A = A} (Fault stop ts) (Fault stop (us s'))
  stopped us s' = first_stops

  pub never-agrees : {A : Type 0} {o o' : Outcome A} → Never o → Agree g b o o'
  never-agrees (took h) = absurd h
  never-agrees fault = first_stops

  pub alike : {A : Type 0} (o : Outcome A) → Agree g b o o
  alike (Took x c) = joined
  alike (Fault stop ts) = first_stops

  pub nowhere : {A : Type 0} (s : Input) → AcrossBy {A = A} b g refused s
  unfolding refused
  nowhere s s' = first_stops

  pub number : {A : Type 0} (s : Input) → AcrossBy {A = A} b g no_number s
  unfolding no_number
  number s s' = first_stops

  pub expression : {A : Type 0} (s : Input) → AcrossBy {A = A} b g no_expression s
  unfolding no_expression
  expression s s' = first_stops

  pub either : {A : Type 0} (v : Bool) (p q : Parser A) (s : Input) → AcrossBy b g p s → AcrossBy b g q s → AcrossBy b g (choose v p q) s
  either true p q s f h = f
  either false p q s f h = h

  -- ## Tests of the next token

  same-token : {A B : Type 0} (test : Filled → Option B) (p : B → Parser A) (q : Parser A) (t : Filled) (ts us : List Filled) (last : ℕ) → Rows g t.span.end ts us → ((x : B) (c : Input) → AcrossBy b g (p x) c)
      → Agree g b (q (record { tokens = t ∷ ts; last = last })) (q (record { tokens = t ∷ us; last = last })) → Agree g b (on test p q (record { tokens = t ∷ ts; last = last })) (on test p q (record { tokens = t ∷ us; last = last }))
  same-token {A = A} {B = B} test p q t ts us last w f h = known (test t)
    where
      known : (o : Option B) → Agree g b (on_taken o t ts p q (record { tokens = t ∷ ts; last = last })) (on_taken o t us p q (record { tokens = t ∷ us; last = last }))
      known (Some x) = f x (record { tokens = ts; last = t.span.end }) (record { row = us; rows = w })
      known None = h

  -- the token may be absent, and the next one at the break is none such
  pub may : {A B : Type 0} (test : Filled → Option B) (p : B → Parser A) (q : Parser A) → ((d : Bool) (at : ℕ) → test (semi d at) ≡ None) → test g.next ≡ None → (s : Input) → ((x : B) (c : Input) → AcrossBy b g (p x) c) → AcrossBy b g q s → AcrossBy b g (on test p q) s
  may {A = A} test p q m n s f h s' = by s'.rows (h s')
    where
      by : {last : ℕ} {ts us : List Filled} → Rows g last ts us → Agree g b (q (record { tokens = ts; last = last })) (q (record { tokens = us; last = last })) → Agree g b (on test p q (record { tokens = ts; last = last })) (on test p q (record { tokens = us; last = last }))
      by here k =
          subst (λ o. Agree g b o (on test p q (record { tokens = g.next ∷ g.behind; last = g.at }))) (sym (missed test (semi g.do_while g.at) (g.next ∷ g.behind) g.at p q (m g.do_while g.at)))
          (subst (λ o. Agree g b (q (record { tokens = semi g.do_while g.at ∷ g.next ∷ g.behind; last = g.at })) o) (sym (missed test g.next g.behind g.at p q n)) k)
      by (later {last = last} {t = t} {ts = ts} {us = us} w) k = same-token test p q t ts us last w f k

  -- the token, or what else must stand there, which no inserted semicolon is
  pub must : {A B : Type 0} (test : Filled → Option B) (p : B → Parser A) (q : Parser A) → ((d : Bool) (at : ℕ) → test (semi d at) ≡ None) → Stops q → (s : Input) → ((x : B) (c : Input) → AcrossBy b g (p x) c) → AcrossBy b g q s → AcrossBy b g (on test p q) s
  must {A = A} test p q m n s f h s' = by s'.rows (h s')
    where
      by : {last : ℕ} {ts us : List Filled} → Rows g last ts us → Agree g b (q (record { tokens = ts; last = last })) (q (record { tokens = us; last = last })) → Agree g b (on test p q (record { tokens = ts; last = last })) (on test p q (record { tokens = us; last = last }))
      by here k =
          subst (λ o. Agree g b o (on test p q (record { tokens = g.next ∷ g.behind; last = g.at }))) (sym (missed test (semi g.do_while g.at) (g.next ∷ g.behind) g.at p q (m g.do_while g.at)))
          (never-agrees (n g.do_while g.at (g.next ∷ g.behind) g.at))
      by (later {last = last} {t = t} {ts = ts} {us = us} w) k = same-token test p q t ts us last w f k

  pub take : {B : Type 0} (test : Filled → Option B) → ((d : Bool) (at : ℕ) → test (semi d at) ≡ None) → (s : Input) → AcrossBy b g (take_as test) s
  take test m s = must test _ _ m (λ d at us last. refused-holds _) s (λ x c. done) (nowhere s)

  -- ## Looking at the next token

  pub looks-may : {A : Type 0} (test : Filled → Bool) (p q : Parser A) → ((d : Bool) (at : ℕ) → test (semi d at) ≡ test g.next) → (s : Input) → AcrossBy b g p s → AcrossBy b g q s → AcrossBy b g (if_next test p q) s
  looks-may test p q m s f h s' = subst (λ v. Agree g b (choose (next_is test s.tokens) p q s) (choose v p q (other s s'))) (same s'.rows) (either (next_is test s.tokens) p q s f h s')
    where
      same : {last : ℕ} {ts us : List Filled} → Rows g last ts us → next_is test ts ≡ next_is test us
      same here = m g.do_while g.at
      same (later w) = refl

  pub looks-must : {A : Type 0} (test : Filled → Bool) (p q : Parser A) → Stops (if_next test p q) → (s : Input) → AcrossBy b g p s → AcrossBy b g q s → AcrossBy b g (if_next test p q) s
  looks-must {A = A} test p q n s f h s' = by s'.rows (either (next_is test s.tokens) p q s f h s')
    where
      by : {last : ℕ} {ts us : List Filled} → Rows g last ts us → Agree g b (choose (next_is test ts) p q (record { tokens = ts; last = last })) (choose (next_is test ts) p q (record { tokens = us; last = last })) → Agree g b (if_next test p q (record { tokens = ts; last = last })) (if_next test p q (record { tokens = us; last = last }))
      by here k = never-agrees (n g.do_while g.at (g.next ∷ g.behind) g.at)
      by (later w) k = k

  -- what depends on where the next token begins
  pub begins : {A : Type 0} (p : ℕ → Parser A) → Stops (from p) → (s : Input) → ((at : ℕ) → AcrossBy b g (p at) s) → AcrossBy b g (from p) s
  begins {A = A} p n s f s' = by s'.rows (f (begin_of s.tokens) s')
    where
      by : {last : ℕ} {ts us : List Filled} → Rows g last ts us → Agree g b (p (begin_of ts) (record { tokens = ts; last = last })) (p (begin_of ts) (record { tokens = us; last = last })) → Agree g b (from p (record { tokens = ts; last = last })) (from p (record { tokens = us; last = last }))
      by here k = never-agrees (n g.do_while g.at (g.next ∷ g.behind) g.at)
      by (later w) k = k

  -- the same, where nothing of it is asked at a semicolon
  pub begins-free : {A : Type 0} (p : ℕ → Parser A) → ((place place' : ℕ) (d : Bool) (at : ℕ) (us : List Filled) (last : ℕ) → p place (record { tokens = semi d at ∷ us; last = last }) ≡ p place' (record { tokens = semi d at ∷ us; last = last })) → (s : Input)
      → ((at : ℕ) → AcrossBy b g (p at) s) → AcrossBy b g (from p) s
  begins-free {A = A} p free s f s' = by s'.rows (λ at. f at s')
    where
      by : {last : ℕ} {ts us : List Filled} → Rows g last ts us → ((at : ℕ) → Agree g b (p at (record { tokens = ts; last = last })) (p at (record { tokens = us; last = last }))) → Agree g b (from p (record { tokens = ts; last = last })) (from p (record { tokens = us; last = last }))
      by here k = subst (λ o. Agree g b o (p (begin_of (g.next ∷ g.behind)) (record { tokens = g.next ∷ g.behind; last = g.at }))) (free (begin_of (g.next ∷ g.behind)) g.at g.do_while g.at (g.next ∷ g.behind) g.at) (k (begin_of (g.next ∷ g.behind)))
      by (later {t = t} w) k = k t.span.begin

  pub group-must : {A : Type 0} (i : Inner) (m : Mark) (p q : Parser A) → Stops q → (s : Input) → ((c : Input) → AcrossBy b g p c) → AcrossBy b g q s → AcrossBy b g (on_group i m p q) s
  group-must i m p q n s f h = looks-must (next_mark m) _ q n s (either i.may_open _ _ s (must (mark m) (λ t. p) q (λ d at. refl) n s (λ t c. f c) h) (stopped _)) h

  pub group-may : {A : Type 0} (i : Inner) (m : Mark) (p q : Parser A) → next_mark m g.next ≡ false → mark m g.next ≡ None → (s : Input) → ((c : Input) → AcrossBy b g p c) → AcrossBy b g q s → AcrossBy b g (on_group i m p q) s
  group-may i m p q n o s f h = looks-may (next_mark m) _ q (λ d at. sym n) s (either i.may_open _ _ s (may (mark m) (λ t. p) q (λ d at. refl) o s (λ t c. f c) h) (stopped _)) h

-- nothing is taken where a semicolon is inserted
pub data Rests {A : Type 0} : Outcome A → Type 0 where
  rests : {x : A} {d : Bool} {at last : ℕ} {us : List Filled} → Rests (Took x (record { tokens = semi d at ∷ us; last = last }))
  stands : {stop : Stop} {ts : List Filled} → Rests (Fault stop ts)

abbrev pub Idle : {A : Type 0} → Parser A → Type 0
Idle p = (d : Bool) (at : ℕ) (us : List Filled) (last : ℕ) → Rests (p (record { tokens = semi d at ∷ us; last = last }))

pub idle-bind : {A B : Type 0} {o : Outcome A} (q : A → Parser B) → Rests o → ((x : A) → Idle (q x)) → Rests (after o q)
idle-bind q (rests {x = x} {d = d} {at = at} {last = last} {us = us}) f = f x d at us last
idle-bind q stands f = stands

module _ {g : Gap} where
  onward : {A B : Type 0} {b : Bool} {o o' : Outcome A} (q : A → Parser B) → Agree g false o o' → ((x : A) (s : Input) → AcrossBy b g (q x) s) → Agree g b (after o q) (after o' q)
  onward q (took_both {s = s} s') f = f _ s s'
  onward q (joined {x = x} {c = c}) f = alike (q x c)
  onward q first_stops f = first_stops
  onward q (lost e) f = absurd (false≢true e)

  pub bind : {A B : Type 0} {b : Bool} {s : Input} {o : Outcome A} {o' : Row g s → Outcome A} (q : A → Parser B) → ((s' : Row g s) → Agree g false o (o' s')) → ((x : A) (c : Input) → AcrossBy b g (q x) c) → (s' : Row g s) → Agree g b (after o q) (after (o' s') q)
  bind q h f s' = onward q (h s') f

  rest-agrees : {A : Type 0} {o o' : Outcome A} → Rests o → Agree g true o o'
  rest-agrees rests = lost refl
  rest-agrees stands = first_stops

  onward-idle : {A B : Type 0} {o o' : Outcome A} (q : A → Parser B) → ((x : A) → Idle (q x)) → Agree g true o o' → ((x : A) (s : Input) → AcrossOr g (q x) s) → Agree g true (after o q) (after o' q)
  onward-idle q n (took_both {s = s} s') f = f _ s s'
  onward-idle q n (joined {x = x} {c = c}) f = alike (q x c)
  onward-idle q n first_stops f = first_stops
  onward-idle q n (lost {x = x} {d = d} {at = at} {last = last} {us = us} {o = o} e) f = rest-agrees (n x d at us last)

  -- after a statement, what takes nothing at a semicolon
  pub bind-idle : {A B : Type 0} {s : Input} {o : Outcome A} {o' : Row g s → Outcome A} (q : A → Parser B) → ((x : A) → Idle (q x)) → ((s' : Row g s) → Agree g true o (o' s')) → ((x : A) (c : Input) → AcrossOr g (q x) c) → (s' : Row g s) → Agree g true (after o q) (after (o' s') q)
  bind-idle q n h f s' = onward-idle q n (h s') f

  onward-ends : {A B : Type 0} {b : Bool} {o o' : Outcome A} (q : A → Parser B) → ((x : A) → Stops (q x)) → Agree g true o o' → ((x : A) (s : Input) → AcrossBy b g (q x) s) → Agree g b (after o q) (after o' q)
  onward-ends q n (took_both {s = s} s') f = f _ s s'
  onward-ends q n (joined {x = x} {c = c}) f = alike (q x c)
  onward-ends q n first_stops f = first_stops
  onward-ends q n (lost {x = x} {d = d} {at = at} {last = last} {us = us} e) f = never-agrees (n x d at us last)

  -- after a statement, what stops at a semicolon
  pub bind-ends : {A B : Type 0} {b : Bool} {s : Input} {o : Outcome A} {o' : Row g s → Outcome A} (q : A → Parser B) → ((x : A) → Stops (q x)) → ((s' : Row g s) → Agree g true o (o' s')) → ((x : A) (c : Input) → AcrossBy b g (q x) c) → (s' : Row g s) → Agree g b (after o q) (after (o' s') q)
  bind-ends q n h f s' = onward-ends q n (h s') f

  -- a token that may follow a statement, with which it goes on
  pub or-lost : {A B : Type 0} (test : Filled → Option B) (p : B → Parser A) (q : Parser A) → ((d : Bool) (at : ℕ) → test (semi d at) ≡ None) → Idle q → (s : Input) → ((x : B) (c : Input) → AcrossOr g (p x) c) → AcrossOr g q s → AcrossOr g (on test p q) s
  or-lost {A = A} test p q m n s f h s' = by s'.rows (h s')
    where
      by : {last : ℕ} {ts us : List Filled} → Rows g last ts us → Agree g true (q (record { tokens = ts; last = last })) (q (record { tokens = us; last = last })) → Agree g true (on test p q (record { tokens = ts; last = last })) (on test p q (record { tokens = us; last = last }))
      by here k =
          subst (λ o. Agree g true o (on test p q (record { tokens = g.next ∷ g.behind; last = g.at }))) (sym (missed test (semi g.do_while g.at) (g.next ∷ g.behind) g.at p q (m g.do_while g.at)))
          (rest-agrees (n g.do_while g.at (g.next ∷ g.behind) g.at))
      by (later {last = last} {t = t} {ts = ts} {us = us} w) k = same-token test p q t ts us last w f k

  -- the same where no token is taken
  pub looks-idle : {A : Type 0} (test : Filled → Bool) (p q : Parser A) → Idle (if_next test p q) → (s : Input) → AcrossOr g p s → AcrossOr g q s → AcrossOr g (if_next test p q) s
  looks-idle {A = A} test p q n s f h s' = by s'.rows (either (next_is test s.tokens) p q s f h s')
    where
      by : {last : ℕ} {ts us : List Filled} → Rows g last ts us → Agree g true (choose (next_is test ts) p q (record { tokens = ts; last = last })) (choose (next_is test ts) p q (record { tokens = us; last = last })) → Agree g true (if_next test p q (record { tokens = ts; last = last })) (if_next test p q (record { tokens = us; last = last }))
      by here k = rest-agrees (n g.do_while g.at (g.next ∷ g.behind) g.at)
      by (later w) k = k

  -- ## Semicolons

  pub semicolon_ : (i : Inner) → i.inserting ≡ true → (s : Input) → Across g (semicolon i) s
  unfolding semicolon refused
  semicolon_ i h s s' = by s'.rows
    where
      put : (c : Input) → choose i.inserting inserts refused c ≡ inserts c
      put c = ap (λ b. choose b inserts refused c) h

      left-out : semicolon i (record { tokens = g.next ∷ g.behind; last = g.at }) ≡ Took tt (record { tokens = g.next ∷ g.behind; last = g.at })
      left-out =
          missed (ending false) g.next g.behind g.at (λ t. returns tt) (choose i.inserting inserts refused) (ending-misses g.next g.quiet false)
          ∙ put (record { tokens = g.next ∷ g.behind; last = g.at })
          ∙ ap (λ b. choose b (returns tt) refused (record { tokens = g.next ∷ g.behind; last = g.at })) g.quiet.line

      at : (d : Bool) → Agree g false (semicolon i (record { tokens = semi d g.at ∷ g.next ∷ g.behind; last = g.at })) (semicolon i (record { tokens = g.next ∷ g.behind; last = g.at }))
      at false = subst (λ o. Agree g false (Took tt (record { tokens = g.next ∷ g.behind; last = g.at })) o) (sym left-out) joined
      at true = subst (λ o. Agree g false o (semicolon i (record { tokens = g.next ∷ g.behind; last = g.at }))) (sym (put (record { tokens = semi true g.at ∷ g.next ∷ g.behind; last = g.at }))) first_stops

      choice : (b : Bool) (t : Filled) (ts us : List Filled) (last : ℕ) → Rows g t.span.end ts us → Agree g false (choose b (returns {A = Unit {0}} tt) refused (record { tokens = t ∷ ts; last = last })) (choose b (returns {A = Unit {0}} tt) refused (record { tokens = t ∷ us; last = last }))
      choice true t ts us last w = took_both {s = record { tokens = t ∷ ts; last = last }} (record { row = t ∷ us; rows = later w })
      choice false t ts us last w = first_stops

      same : (b : Bool) (t : Filled) (ts us : List Filled) (last : ℕ) → Rows g t.span.end ts us → Agree g false (choose b inserts refused (record { tokens = t ∷ ts; last = last })) (choose b inserts refused (record { tokens = t ∷ us; last = last }))
      same true t ts us last w = choice (is_insertable (t ∷ ts)) t ts us last w
      same false t ts us last w = first_stops

      by : {last : ℕ} {ts us : List Filled} → Rows g last ts us → Agree g false (semicolon i (record { tokens = ts; last = last })) (semicolon i (record { tokens = us; last = last }))
      by here = at g.do_while
      by (later {last = last} {t = t} {ts = ts} {us = us} w) = same-token (ending false) _ _ t ts us last w (λ x c. done) (same i.inserting t ts us last w)

  pub do_while_end : (i : Inner) → i.inserting ≡ true → (s : Input) → Across g (p.semicolon_of_do_while i) s
  unfolding p.semicolon_of_do_while refused
  do_while_end i h s s' = by s'.rows
    where
      put : (c : Input) → choose i.inserting inserts_anywhere refused c ≡ inserts_anywhere c
      put c = ap (λ b. choose b inserts_anywhere refused c) h

      left-out : p.semicolon_of_do_while i (record { tokens = g.next ∷ g.behind; last = g.at }) ≡ Took tt (record { tokens = g.next ∷ g.behind; last = g.at })
      left-out =
          missed (ending true) g.next g.behind g.at (λ t. returns tt) (choose i.inserting inserts_anywhere refused) (ending-misses g.next g.quiet true)
          ∙ put (record { tokens = g.next ∷ g.behind; last = g.at })

      at : (d : Bool) → d ≡ g.do_while → Agree g false (p.semicolon_of_do_while i (record { tokens = semi d g.at ∷ g.next ∷ g.behind; last = g.at })) (p.semicolon_of_do_while i (record { tokens = g.next ∷ g.behind; last = g.at }))
      at true e = subst (λ o. Agree g false (Took tt (record { tokens = g.next ∷ g.behind; last = g.at })) o) (sym left-out) joined
      at false e = subst (λ o. Agree g false o (p.semicolon_of_do_while i (record { tokens = g.next ∷ g.behind; last = g.at }))) (sym (put (record { tokens = semi false g.at ∷ g.next ∷ g.behind; last = g.at })))
          (subst (λ o. Agree g false (Took tt (record { tokens = semi false g.at ∷ g.next ∷ g.behind; last = g.at })) o) (sym left-out)
          (subst (λ b. Agree g false (Took tt (record { tokens = semi b g.at ∷ g.next ∷ g.behind; last = g.at })) (Took tt (record { tokens = g.next ∷ g.behind; last = g.at }))) (sym e)
          (took_both {s = record { tokens = semi g.do_while g.at ∷ g.next ∷ g.behind; last = g.at }} (record { row = g.next ∷ g.behind; rows = here }))))

      same : (b : Bool) (t : Filled) (ts us : List Filled) (last : ℕ) → Rows g t.span.end ts us → Agree g false (choose b inserts_anywhere refused (record { tokens = t ∷ ts; last = last })) (choose b inserts_anywhere refused (record { tokens = t ∷ us; last = last }))
      same true t ts us last w = took_both {s = record { tokens = t ∷ ts; last = last }} (record { row = t ∷ us; rows = later w })
      same false t ts us last w = first_stops

      by : {last : ℕ} {ts us : List Filled} → Rows g last ts us → Agree g false (p.semicolon_of_do_while i (record { tokens = ts; last = last })) (p.semicolon_of_do_while i (record { tokens = us; last = last }))
      by here = at g.do_while refl
      by (later {last = last} {t = t} {ts = ts} {us = us} w) = same-token (ending true) _ _ t ts us last w (λ x c. done) (same i.inserting t ts us last w)

-- readers of what stands one construct deeper
pub record Crosses (g : Gap) (i : Inner) : Type 0 where
  pub inserting : i.inserting ≡ true
  pub sequence : (f : Flags) (s : Input) → Across g (i.sequence f) s
  pub assignment : (f : Flags) (s : Input) → Across g (i.assignment f) s
  pub power : (f : Flags) (s : Input) → Across g (i.power f) s
  pub unary : (f : Flags) (s : Input) → Across g (i.unary f) s
  pub callee : (f : Flags) (s : Input) → Across g (i.callee f) s
  pub heritage : (f : Flags) (s : Input) → Across g (i.heritage f) s
  pub block : (f : Flags) (s : Input) → Across g (i.block f) s
  pub property : (f : Flags) (s : Input) → Across g (i.property f) s
  pub target : (f : Flags) (s : Input) → Across g (i.target f) s
  pub part : (f : Flags) (s : Input) → Across g (i.part f) s
  pub object_part : (f : Flags) (s : Input) → Across g (i.object_part f) s
  pub variable : (f : Flags) (s : Input) → Across g (i.variable f) s
  pub member : (f : Flags) (s : Input) → Across g (i.member f) s
  pub statement : (f : Flags) (stand : Stand) (s : Input) → AcrossOr g (i.statement f stand) s
  -- none of these begins with an inserted semicolon
  pub sequence_stops : (f : Flags) → Stops (i.sequence f)
  pub assignment_stops : (f : Flags) → Stops (i.assignment f)
  pub callee_stops : (f : Flags) → Stops (i.callee f)
  pub block_stops : (f : Flags) → Stops (i.block f)
  pub property_stops : (f : Flags) → Stops (i.property f)
  pub part_stops : (f : Flags) → Stops (i.part f)
  pub object_part_stops : (f : Flags) → Stops (i.object_part f)
  pub member_stops : (f : Flags) → Stops (i.member f)
  pub statement_stops : (f : Flags) (stand : Stand) → Stops (i.statement f stand)
