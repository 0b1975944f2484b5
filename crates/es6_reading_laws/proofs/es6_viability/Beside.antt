-- Two rows that are the same up to an inserted semicolon, which the one has and the other leaves out. What a reader that inserts
-- semicolons takes of the first, it takes of the second, unless a reader that inserts none, with more room, doesn't stop right there
-- at the second: it stops before, or takes the token behind the semicolon.
use Rattle.std.proofs.lemmas.Bool.{false≢true}
use Rattle.std.proofs.Common.{◌≡◌, ◌∙◌, ℕ, zero, suc, ◌≤◌, ◌<◌, arith, Bool, true, false, ◌||◌, List, [], ◌∷◌, length, Option, Some, None, refl, sym, ap, subst}
use Rattle.es6_lexer.specs.declared.token.Punctuator.{Punctuator as Mark}
use Rattle.es6_ast.specs.declared.settings.Flags.{Flags}
use Rattle.es6_ast.specs.declared.settings.Stand.{Stand}
use Rattle.es6_ast.specs.declared.settings.Stop.{Stop}
use Rattle.es6_ast.specs.declared.settings.Stop.TheVariants.{Depth}
use Rattle.es_text.specs.declared.Span.{Span}
use Rattle.es6_lexer.specs.declared.token.TokenKind.TheVariants as kinds
use Rattle.es6_lexer.specs.declared.token.Punctuator.TheVariants as marks
use Rattle.es6_ast.specs.Tokens.{Filling, Read, Filled, begin_of}
use Rattle.es6_reading.specs.Parser as p
use Rattle.es6_reading.specs.Parser.{Input, Outcome, Took, Fault, Parser, fails, after, on, on_taken, choose, next_is, if_next, from, take_as, mark, next_mark, is_mark, kept_if, refused, no_number, no_expression, ending, Inner, on_group, semicolon, inserts, inserts_anywhere, is_insertable, ends_block, returns, ◌>>=◌}
use Rattle.es6_reading.proofs.Posts.{took, fault}
use Rattle.es6_reading.proofs.Follows.{semi, Never}
use Rattle.es6_reading_laws.proofs.es6_viability.Viable.{left}

-- The semicolon, one that ends a do-while or another; the token behind it, before which it may be inserted; and those behind that.
pub record Gap : Type 0 where
  pub do_while : Bool
  pub at : ℕ
  pub next : Filled
  pub behind : List Filled
  pub line : do_while ≡ false → (next.newline || ends_block next.kind) ≡ true

-- what holds of each token that begins a line, and of `}` and the end
pub on-line : (P : Filled → Type 0) → ((k : Filling) (span : Span) → P (record { kind = k; span = span; newline = true })) → ((span : Span) → P (record { kind = Read (kinds.Punctuator marks.RightBrace); span = span; newline = false }))
    → ((span : Span) → P (record { kind = Read kinds.End; span = span; newline = false })) → (t : Filled) → (t.newline || ends_block t.kind) ≡ true → P t
on-line P first brace last t h = by t.newline t.kind t.span h
  where
    by : (newline : Bool) (k : Filling) (span : Span) → (newline || ends_block k) ≡ true → P (record { kind = k; span = span; newline = newline })
    by true k span h = first k span
    by false (Read (kinds.Punctuator marks.RightBrace)) span h = brace span
    by false (Read kinds.End) span h = last span
    by false k span h = absurd (cc)

-- what is left of the rows; the semicolon stands where the token before it ends
pub data Rows (g : Gap) : ℕ → List Filled → List Filled → Type 0 where
  here : Rows g g.at (semi g.do_while g.at ∷ g.next ∷ g.behind) (g.next ∷ g.behind)
  later : {last : ℕ} {t : Filled} {ts us : List Filled} → Rows g t.span.end ts us → Rows g last (t ∷ ts) (t ∷ us)

pub record Row (g : Gap) (s : Input) : Type 0 where
  pub row : List Filled
  pub rows : Rows g s.last s.tokens row

abbrev pub other : {g : Gap} (s : Input) → Row g s → Input
other s s' = record { tokens = s'.row; last = s.last }

-- a reader stops before the token behind the semicolon, or goes on past it
pub data Elsewhere (g : Gap) {A : Type 0} : Outcome A → Type 0 where
  early : {stop : Stop} {us : List Filled} → suc (length g.behind) < length us → Elsewhere g (Fault stop us)
  beyond : {o : Outcome A} → length (left o) ≤ length g.behind → Elsewhere g o

-- What may be read up to a semicolon with which nothing goes on: an expression or a part, before one that ends a do-while; or a
-- statement, before any.
pub data Loss : Type 0 where
  parts : Loss
  statements : Loss

abbrev pub may_lose : Gap → Option Loss → Bool
may_lose g None = false
may_lose g (Some parts) = g.do_while
may_lose g (Some statements) = true

-- All take the same; or the first stops, or the last is elsewhere. Where that may be, the first may have come to the semicolon,
-- where nothing goes on.
pub data Agree (g : Gap) (b : Option Loss) {A : Type 0} : Outcome A → Outcome A → Outcome A → Type 0 where
  took_all : {x : A} {s : Input} (s' : Row g s) → Agree g b (Took x s) (Took x (other s s')) (Took x (other s s'))
  joined : {x : A} {c : Input} {o : Outcome A} → Agree g b (Took x c) (Took x c) o
  first_stops : {stop : Stop} {ts : List Filled} {o o' : Outcome A} → Agree g b (Fault stop ts) o o'
  aside : {o o' o'' : Outcome A} → Elsewhere g o'' → Agree g b o o' o''
  lost : {x : A} {at last : ℕ} {us : List Filled} {o o' : Outcome A} → may_lose g b ≡ true → Agree g b (Took x (record { tokens = semi g.do_while at ∷ us; last = last })) o o'

-- nothing is taken where a semicolon is inserted
pub data Rests (d : Bool) {A : Type 0} : Outcome A → Type 0 where
  rests : {x : A} {at last : ℕ} {us : List Filled} → Rests d (Took x (record { tokens = semi d at ∷ us; last = last }))
  stands : {stop : Stop} {ts : List Filled} → Rests d (Fault stop ts)

abbrev pub Idle : {A : Type 0} → Parser A → Type 0
Idle p = (d : Bool) (at : ℕ) (us : List Filled) (last : ℕ) → Rests d (p (record { tokens = semi d at ∷ us; last = last }))

-- what readers make of the rows, and that the last of them gives no tokens back
pub record Closes (g : Gap) (b : Option Loss) (s : Input) {A : Type 0} (o : Outcome A) (o' o'' : Row g s → Outcome A) (run : List Filled → Outcome A) : Type 0 where
  pub across : (s' : Row g s) → Agree g b o (o' s') (o'' s')
  pub inside : (us : List Filled) → length (left (run us)) ≤ length us

-- the same, and that the first takes no semicolon that ends a do-while
pub record Good (g : Gap) (b : Option Loss) (s : Input) {A : Type 0} (o : Outcome A) (o' o'' : Row g s → Outcome A) (run first : List Filled → Outcome A) : Type 0 where
  pub across : (s' : Row g s) → Agree g b o (o' s') (o'' s')
  pub inside : (us : List Filled) → length (left (run us)) ≤ length us
  pub idle : (at : ℕ) (us : List Filled) → Rests true (first (semi true at ∷ us))

-- a reader that inserts semicolons, and one that inserts none
abbrev pub ClosesBy : {A : Type 0} → Option Loss → Gap → Parser A → Parser A → Input → Type 0
ClosesBy b g p q s = Closes g b s (p s) (λ s'. p (other s s')) (λ s'. q (other s s')) (λ us. q (record { tokens = us; last = s.last }))

abbrev pub BesideBy : {A : Type 0} → Option Loss → Gap → Parser A → Parser A → Input → Type 0
BesideBy b g p q s = Good g b s (p s) (λ s'. p (other s s')) (λ s'. q (other s s')) (λ us. q (record { tokens = us; last = s.last })) (λ us. p (record { tokens = us; last = s.last }))

abbrev pub Beside : {A : Type 0} → Gap → Parser A → Parser A → Input → Type 0
Beside g p q s = BesideBy (Some parts) g p q s

abbrev pub BesideOr : {A : Type 0} → Gap → Parser A → Parser A → Input → Type 0
BesideOr g p q s = BesideBy (Some statements) g p q s

-- a reader that takes nothing where a semicolon is inserted
abbrev pub Stops : {A : Type 0} → Parser A → Type 0
Stops p = (d : Bool) (at : ℕ) (us : List Filled) (last : ℕ) → Never (p (record { tokens = semi d at ∷ us; last = last }))

pub low : (n : ℕ) → n ≤ n
low n = omega arith

less-by : (a b c : ℕ) → a ≤ b → b ≤ c → a ≤ c
less-by a b c h k = omega arith

up : (a b : ℕ) → a ≤ b → a ≤ suc b
up a b h = omega arith

more-than : (a b : ℕ) → a ≤ b → suc a ≤ suc b
more-than a b h = omega arith

-- a place that isn't at the semicolon yet stands before it
rows-long : {g : Gap} {last : ℕ} {ts us : List Filled} → Rows g last ts us → suc (length g.behind) ≤ length us
rows-long {g = g} here = low (suc (length g.behind))
rows-long {g = g} (later {us = us} w) = up (suc (length g.behind)) (length us) (rows-long w)

pub missed : {A B : Type 0} (test : Filled → Option B) (t : Filled) (ts : List Filled) (last : ℕ) (p : B → Parser A) (q : Parser A) → test t ≡ None → on test p q (record { tokens = t ∷ ts; last = last }) ≡ q (record { tokens = t ∷ ts; last = last })
missed test t ts last p q h = ap (λ o. on_taken o t ts p q (record { tokens = t ∷ ts; last = last })) h

pub hit : {A B : Type 0} (test : Filled → Option B) (t : Filled) (ts : List Filled) (last : ℕ) (p : B → Parser A) (q : Parser A) (x : B) → test t ≡ Some x → on test p q (record { tokens = t ∷ ts; last = last }) ≡ p x (record { tokens = ts; last = t.span.end })
hit test t ts last p q x h = ap (λ o. on_taken o t ts p q (record { tokens = t ∷ ts; last = last })) h

abbrev pub Inside : {A : Type 0} → Parser A → Type 0
Inside q = (c : Input) → length (left (q c)) ≤ length c.tokens

pub outcome-inside : {A B : Type 0} (q3 : A → Parser B) (n : ℕ) (o : Outcome A) → length (left o) ≤ n → ((x : A) (c : Input) → length (left (q3 x c)) ≤ length c.tokens) → length (left (after o q3)) ≤ n
outcome-inside q3 n (Took x c) h f = less-by (length (left (q3 x c))) (length c.tokens) n (f x c) h
outcome-inside q3 n (Fault stop ts) h f = h

on-inside : {A B : Type 0} (test : Filled → Option B) (p : B → Parser A) (q : Parser A) (last : ℕ) → ((x : B) → Inside (p x)) → ((us : List Filled) → length (left (q (record { tokens = us; last = last }))) ≤ length us)
    → (us : List Filled) → length (left (on test p q (record { tokens = us; last = last }))) ≤ length us
on-inside {A = A} {B = B} test p q last f h us = by us
  where
    known : (o : Option B) (t : Filled) (ts : List Filled) → length (left (on_taken o t ts p q (record { tokens = t ∷ ts; last = last }))) ≤ suc (length ts)
    known (Some x) t ts = up (length (left (p x (record { tokens = ts; last = t.span.end })))) (length ts) (f x (record { tokens = ts; last = t.span.end }))
    known None t ts = h (t ∷ ts)

    by : (ts : List Filled) → length (left (on test p q (record { tokens = ts; last = last }))) ≤ length ts
    by [] = h []
    by (t ∷ ts) = known (test t) t ts

choose-inside : {A : Type 0} (v : Bool) (p q : Parser A) (c : Input) → length (left (p c)) ≤ length c.tokens → length (left (q c)) ≤ length c.tokens → length (left (choose v p q c)) ≤ length c.tokens
choose-inside true p q c f h = f
choose-inside false p q c f h = h

looks-inside : {A : Type 0} (test : Filled → Bool) (p q : Parser A) (last : ℕ) → ((us : List Filled) → length (left (p (record { tokens = us; last = last }))) ≤ length us) → ((us : List Filled) → length (left (q (record { tokens = us; last = last }))) ≤ length us)
    → (us : List Filled) → length (left (if_next test p q (record { tokens = us; last = last }))) ≤ length us
looks-inside test p q last f h us = choose-inside (next_is test us) p q (record { tokens = us; last = last }) (f us) (h us)

pub opened-past : {A : Type 0} (v : Bool) → v ≡ true → (p : Parser A) (c : Input) (n : ℕ) → length (left (p c)) ≤ n → length (left (choose v p (fails Depth) c)) ≤ n
opened-past v e p c n h = subst (λ w. length (left (choose w p (fails Depth) c)) ≤ n) (sym e) h

pub group-past : {A : Type 0} (g : Gap) (j : Inner) → j.may_open ≡ true → (m : Mark) (p3 q3 : Parser A) → next_mark m g.next ≡ true → length (left (p3 (record { tokens = g.behind; last = g.next.span.end }))) ≤ length g.behind → length (left (on_group j m p3 q3 (record { tokens = g.next ∷ g.behind; last = g.at }))) ≤ length g.behind
group-past g j o m p3 q3 e f = subst (λ v. length (left (choose v (choose j.may_open (on (mark m) (λ t. p3) q3) (fails Depth)) q3 (record { tokens = g.next ∷ g.behind; last = g.at }))) ≤ length g.behind) (sym e)
    (opened-past j.may_open o (on (mark m) (λ t. p3) q3) (record { tokens = g.next ∷ g.behind; last = g.at }) (length g.behind)
    (subst (λ out. length (left out) ≤ length g.behind) (sym (hit (mark m) g.next g.behind g.at (λ t. p3) q3 g.next (ap (λ v. kept_if v g.next) e))) f))

module _ {g : Gap} where
  same-next : {last : ℕ} {ts us : List Filled} (test : Filled → Bool) → test (semi g.do_while g.at) ≡ test g.next → Rows g last ts us → next_is test ts ≡ next_is test us
  same-next test e here = e
  same-next test e (later w) = refl

pub never-rests : {A : Type 0} {d : Bool} {o : Outcome A} → Never o → Rests d o
never-rests (took h) = absurd h
never-rests fault = stands

pub idle-bind : {A B : Type 0} {d : Bool} {o : Outcome A} (q : A → Parser B) → Rests d o → ((x : A) → Idle (q x)) → Rests d (after o q)
idle-bind {d = d} q (rests {x = x} {at = at} {last = last} {us = us}) f = f x d at us last
idle-bind q stands f = stands

never-after : {A B : Type 0} {o : Outcome A} (q : A → Parser B) → Never o → Never (after o q)
never-after q (took h) = absurd h
never-after q fault = fault

choose-idle : {A : Type 0} {d : Bool} (v : Bool) (p q : Parser A) (c : Input) → Rests d (p c) → Rests d (q c) → Rests d (choose v p q c)
choose-idle true p q c f h = f
choose-idle false p q c f h = h

loses-more : (g : Gap) (b : Loss) → may_lose g (Some parts) ≡ true → may_lose g (Some b) ≡ true
loses-more g parts e = e
loses-more g statements e = refl

rest-agrees : {g : Gap} {b : Option Loss} {A : Type 0} {o o' o'' : Outcome A} → may_lose g b ≡ true → Rests g.do_while o → Agree g b o o' o''
rest-agrees e rests = lost e
rest-agrees e stands = first_stops

module _ {g : Gap} {b : Option Loss} where
  pub done : {A : Type 0} {x : A} {s : Input} → Good g b s (Took x s) (λ s'. Took x (other s s')) (λ s'. Took x (other s s')) (λ us. Took x (record { tokens = us; last = s.last })) (λ us. Took x (record { tokens = us; last = s.last }))
  done = record { across = λ s'. took_all s'; inside = λ us. low (length us); idle = λ at us. rests }

  pub stopped : {A : Type 0} {s : Input} {stop : Stop} {v w : List Filled → Stop} {o' o'' : Row g s → Outcome A} → Good g b s (Fault stop s.tokens) o' o'' (λ us. Fault (v us) us) (λ us. Fault (w us) us)
  stopped = record { across = λ s'. first_stops; inside = λ us. low (length us); idle = λ at us. stands }

  pub never-agrees : {A : Type 0} {o o' o'' : Outcome A} → Never o → Agree g b o o' o''
  never-agrees (took h) = absurd h
  never-agrees fault = first_stops

  pub alike : {A : Type 0} (o : Outcome A) {o'' : Outcome A} → Agree g b o o o''
  alike (Took x c) = joined
  alike (Fault stop ts) = first_stops

  pub nowhere : {A : Type 0} (s : Input) → BesideBy {A = A} b g refused refused s
  unfolding refused
  nowhere s = stopped

  pub number : {A : Type 0} (s : Input) → BesideBy {A = A} b g no_number no_number s
  unfolding no_number
  number s = stopped

  pub expression : {A : Type 0} (s : Input) → BesideBy {A = A} b g no_expression no_expression s
  unfolding no_expression
  expression s = stopped

  pub either : {A : Type 0} (v : Bool) (p p3 q q3 : Parser A) (s : Input) → BesideBy b g p p3 s → BesideBy b g q q3 s → BesideBy b g (choose v p q) (choose v p3 q3) s
  either true p p3 q q3 s f h = f
  either false p p3 q q3 s f h = h

  -- ## Tests of the next token

  same-token : {A B : Type 0} (test : Filled → Option B) (p p3 : B → Parser A) (q q3 : Parser A) (t : Filled) (ts us : List Filled) (last : ℕ) → Rows g t.span.end ts us → ((x : B) (c : Input) → BesideBy b g (p x) (p3 x) c)
      → Agree g b (q (record { tokens = t ∷ ts; last = last })) (q (record { tokens = t ∷ us; last = last })) (q3 (record { tokens = t ∷ us; last = last }))
      → Agree g b (on test p q (record { tokens = t ∷ ts; last = last })) (on test p q (record { tokens = t ∷ us; last = last })) (on test p3 q3 (record { tokens = t ∷ us; last = last }))
  same-token {A = A} {B = B} test p p3 q q3 t ts us last w f h = known (test t)
    where
      known : (o : Option B) → Agree g b (on_taken o t ts p q (record { tokens = t ∷ ts; last = last })) (on_taken o t us p q (record { tokens = t ∷ us; last = last })) (on_taken o t us p3 q3 (record { tokens = t ∷ us; last = last }))
      known (Some x) = (f x (record { tokens = ts; last = t.span.end })).across (record { row = us; rows = w })
      known None = h

  -- the token may be absent
  pub may : {A B : Type 0} (test : Filled → Option B) (p p3 : B → Parser A) (q q3 : Parser A) → ((d : Bool) (at : ℕ) → test (semi d at) ≡ None) → (s : Input) → ((x : B) (c : Input) → BesideBy b g (p x) (p3 x) c) → BesideBy b g q q3 s → BesideBy b g (on test p q) (on test p3 q3) s
  may {A = A} {B = B} test p p3 q q3 m s f h = record {
    across = λ s'. by s'.rows (h.across s');
    inside = on-inside test p3 q3 s.last (λ x c. (f x c).inside c.tokens) h.inside;
    idle = λ at us. subst (λ o. Rests true o) (sym (missed test (semi true at) us s.last p q (m true at))) (h.idle at us);
  }
    where
      at-it : (v : Option B) → test g.next ≡ v → Agree g b (q (record { tokens = semi g.do_while g.at ∷ g.next ∷ g.behind; last = g.at })) (q (record { tokens = g.next ∷ g.behind; last = g.at })) (q3 (record { tokens = g.next ∷ g.behind; last = g.at }))
          → Agree g b (q (record { tokens = semi g.do_while g.at ∷ g.next ∷ g.behind; last = g.at })) (on_taken v g.next g.behind p q (record { tokens = g.next ∷ g.behind; last = g.at })) (on_taken v g.next g.behind p3 q3 (record { tokens = g.next ∷ g.behind; last = g.at }))
      at-it (Some x) e k = aside (beyond ((f x (record { tokens = g.behind; last = g.next.span.end })).inside g.behind))
      at-it None e k = k

      by : {last : ℕ} {ts us : List Filled} → Rows g last ts us → Agree g b (q (record { tokens = ts; last = last })) (q (record { tokens = us; last = last })) (q3 (record { tokens = us; last = last }))
          → Agree g b (on test p q (record { tokens = ts; last = last })) (on test p q (record { tokens = us; last = last })) (on test p3 q3 (record { tokens = us; last = last }))
      by here k =
          subst (λ o. Agree g b o (on test p q (record { tokens = g.next ∷ g.behind; last = g.at })) (on test p3 q3 (record { tokens = g.next ∷ g.behind; last = g.at }))) (sym (missed test (semi g.do_while g.at) (g.next ∷ g.behind) g.at p q (m g.do_while g.at))) (at-it (test g.next) refl k)
      by (later {last = last} {t = t} {ts = ts} {us = us} w) k = same-token test p p3 q q3 t ts us last w f k

  -- the token, or what else must stand there, which no inserted semicolon is
  pub must : {A B : Type 0} (test : Filled → Option B) (p p3 : B → Parser A) (q q3 : Parser A) → ((d : Bool) (at : ℕ) → test (semi d at) ≡ None) → Stops q → (s : Input) → ((x : B) (c : Input) → BesideBy b g (p x) (p3 x) c) → BesideBy b g q q3 s → BesideBy b g (on test p q) (on test p3 q3) s
  must test p p3 q q3 m n s f h = may test p p3 q q3 m s f h

  pub take : {B : Type 0} (test : Filled → Option B) → ((d : Bool) (at : ℕ) → test (semi d at) ≡ None) → (s : Input) → BesideBy b g (take_as test) (take_as test) s
  take test m s = may test _ _ _ _ m s (λ x c. done) (nowhere s)

  -- ## Looking at the next token

  -- the test fails alike at both, or nothing goes on at the semicolon
  pub looks-may : {A : Type 0} (test : Filled → Bool) (p p3 q q3 : Parser A) → may_lose g b ≡ g.do_while → (g.do_while ≡ false → test (semi false g.at) ≡ test g.next) → (s : Input) → BesideBy b g p p3 s → BesideBy b g q q3 s → BesideBy b g (if_next test p q) (if_next test p3 q3) s
  looks-may {A = A} test p p3 q q3 l m s f h = record { across = across_ g.do_while refl; inside = looks-inside test p3 q3 s.last f.inside h.inside; idle = idle_ }
    where
      idle_ : (at : ℕ) (us : List Filled) → Rests true (if_next test p q (record { tokens = semi true at ∷ us; last = s.last }))
      idle_ at us = choose-idle (test (semi true at)) p q (record { tokens = semi true at ∷ us; last = s.last }) (f.idle at us) (h.idle at us)

      at-semi : g.do_while ≡ true → {last : ℕ} {ts us : List Filled} → last ≡ s.last → Rows g last ts us → Agree g b (choose (next_is test ts) p q (record { tokens = ts; last = last })) (choose (next_is test ts) p q (record { tokens = us; last = last })) (choose (next_is test ts) p3 q3 (record { tokens = us; last = last }))
          → Agree g b (if_next test p q (record { tokens = ts; last = last })) (if_next test p q (record { tokens = us; last = last })) (if_next test p3 q3 (record { tokens = us; last = last }))
      at-semi e k here j = rest-agrees (l ∙ e) (subst (λ d. Rests d (if_next test p q (record { tokens = semi d g.at ∷ g.next ∷ g.behind; last = g.at }))) (sym e)
          (subst (λ n. Rests true (if_next test p q (record { tokens = semi true g.at ∷ g.next ∷ g.behind; last = n }))) (sym k) (idle_ g.at (g.next ∷ g.behind))))
      at-semi e k (later w) j = j

      across_ : (d : Bool) → g.do_while ≡ d → (s' : Row g s) → Agree g b (if_next test p q s) (if_next test p q (other s s')) (if_next test p3 q3 (other s s'))
      across_ true e s' = at-semi e refl s'.rows ((either (next_is test s.tokens) p p3 q q3 s f h).across s')
      across_ false e s' =
          subst (λ v. Agree g b (choose (next_is test s.tokens) p q s) (choose v p q (other s s')) (choose v p3 q3 (other s s'))) (same-next test (ap (λ d. test (semi d g.at)) e ∙ m e) s'.rows) ((either (next_is test s.tokens) p p3 q q3 s f h).across s')

  pub looks-must : {A : Type 0} (test : Filled → Bool) (p p3 q q3 : Parser A) → Stops (if_next test p q) → (s : Input) → BesideBy b g p p3 s → BesideBy b g q q3 s → BesideBy b g (if_next test p q) (if_next test p3 q3) s
  looks-must {A = A} test p p3 q q3 n s f h = record {
    across = λ s'. by s'.rows ((either (next_is test s.tokens) p p3 q q3 s f h).across s');
    inside = looks-inside test p3 q3 s.last f.inside h.inside;
    idle = λ at us. choose-idle (test (semi true at)) p q (record { tokens = semi true at ∷ us; last = s.last }) (f.idle at us) (h.idle at us);
  }
    where
      by : {last : ℕ} {ts us : List Filled} → Rows g last ts us → Agree g b (choose (next_is test ts) p q (record { tokens = ts; last = last })) (choose (next_is test ts) p q (record { tokens = us; last = last })) (choose (next_is test ts) p3 q3 (record { tokens = us; last = last }))
          → Agree g b (if_next test p q (record { tokens = ts; last = last })) (if_next test p q (record { tokens = us; last = last })) (if_next test p3 q3 (record { tokens = us; last = last }))
      by here k = never-agrees (n g.do_while g.at (g.next ∷ g.behind) g.at)
      by (later w) k = k

  -- where the test knows the token behind the semicolon, that is taken
  pub looks-taken : {A : Type 0} (test : Filled → Bool) (p p3 q q3 : Parser A) → ((d : Bool) (at : ℕ) → test (semi d at) ≡ false) → (test g.next ≡ true → length (left (p3 (record { tokens = g.next ∷ g.behind; last = g.at }))) ≤ length g.behind) → (s : Input)
      → BesideBy b g p p3 s → BesideBy b g q q3 s → BesideBy b g (if_next test p q) (if_next test p3 q3) s
  looks-taken {A = A} test p p3 q q3 m n s f h = record {
    across = λ s'. by s'.rows ((either (next_is test s.tokens) p p3 q q3 s f h).across s') (h.across s');
    inside = looks-inside test p3 q3 s.last f.inside h.inside;
    idle = λ at us. choose-idle (test (semi true at)) p q (record { tokens = semi true at ∷ us; last = s.last }) (f.idle at us) (h.idle at us);
  }
    where
      at-it : (v : Bool) → test g.next ≡ v → Agree g b (q (record { tokens = semi g.do_while g.at ∷ g.next ∷ g.behind; last = g.at })) (q (record { tokens = g.next ∷ g.behind; last = g.at })) (q3 (record { tokens = g.next ∷ g.behind; last = g.at }))
          → Agree g b (q (record { tokens = semi g.do_while g.at ∷ g.next ∷ g.behind; last = g.at })) (choose v p q (record { tokens = g.next ∷ g.behind; last = g.at })) (choose v p3 q3 (record { tokens = g.next ∷ g.behind; last = g.at }))
      at-it true e k = aside (beyond (n e))
      at-it false e k = k

      by : {last : ℕ} {ts us : List Filled} → Rows g last ts us → Agree g b (choose (next_is test ts) p q (record { tokens = ts; last = last })) (choose (next_is test ts) p q (record { tokens = us; last = last })) (choose (next_is test ts) p3 q3 (record { tokens = us; last = last }))
          → Agree g b (q (record { tokens = ts; last = last })) (q (record { tokens = us; last = last })) (q3 (record { tokens = us; last = last }))
          → Agree g b (if_next test p q (record { tokens = ts; last = last })) (if_next test p q (record { tokens = us; last = last })) (if_next test p3 q3 (record { tokens = us; last = last }))
      by here j k = subst (λ v. Agree g b (choose v p q (record { tokens = semi g.do_while g.at ∷ g.next ∷ g.behind; last = g.at })) (if_next test p q (record { tokens = g.next ∷ g.behind; last = g.at })) (if_next test p3 q3 (record { tokens = g.next ∷ g.behind; last = g.at }))) (sym (m g.do_while g.at)) (at-it (test g.next) refl k)
      by (later w) j k = j

  -- what depends on where the next token begins
  pub begins : {A : Type 0} (p p3 : ℕ → Parser A) → Stops (from p) → (s : Input) → ((at : ℕ) → BesideBy b g (p at) (p3 at) s) → BesideBy b g (from p) (from p3) s
  begins {A = A} p p3 n s f = record { across = λ s'. by s'.rows ((f (begin_of s.tokens)).across s'); inside = λ us. (f (begin_of us)).inside us; idle = λ at us. (f at).idle at us }
    where
      by : {last : ℕ} {ts us : List Filled} → Rows g last ts us → Agree g b (p (begin_of ts) (record { tokens = ts; last = last })) (p (begin_of ts) (record { tokens = us; last = last })) (p3 (begin_of ts) (record { tokens = us; last = last }))
          → Agree g b (from p (record { tokens = ts; last = last })) (from p (record { tokens = us; last = last })) (from p3 (record { tokens = us; last = last }))
      by here k = never-agrees (n g.do_while g.at (g.next ∷ g.behind) g.at)
      by (later w) k = k

  -- the same, where nothing of it is asked at a semicolon
  pub begins-free : {A : Type 0} (p p3 : ℕ → Parser A) → ((place place' : ℕ) (d : Bool) (at : ℕ) (us : List Filled) (last : ℕ) → p place (record { tokens = semi d at ∷ us; last = last }) ≡ p place' (record { tokens = semi d at ∷ us; last = last })) → (s : Input)
      → ((at : ℕ) → BesideBy b g (p at) (p3 at) s) → BesideBy b g (from p) (from p3) s
  begins-free {A = A} p p3 free s f = record { across = λ s'. by s'.rows (λ at. (f at).across s'); inside = λ us. (f (begin_of us)).inside us; idle = λ at us. (f at).idle at us }
    where
      by : {last : ℕ} {ts us : List Filled} → Rows g last ts us → ((at : ℕ) → Agree g b (p at (record { tokens = ts; last = last })) (p at (record { tokens = us; last = last })) (p3 at (record { tokens = us; last = last })))
          → Agree g b (from p (record { tokens = ts; last = last })) (from p (record { tokens = us; last = last })) (from p3 (record { tokens = us; last = last }))
      by here k = subst (λ o. Agree g b o (p (begin_of (g.next ∷ g.behind)) (record { tokens = g.next ∷ g.behind; last = g.at })) (p3 (begin_of (g.next ∷ g.behind)) (record { tokens = g.next ∷ g.behind; last = g.at }))) (free (begin_of (g.next ∷ g.behind)) g.at g.do_while g.at (g.next ∷ g.behind) g.at) (k (begin_of (g.next ∷ g.behind)))
      by (later {t = t} w) k = k t.span.begin

  -- ## Groups

  pub opened : {A : Type 0} (v v3 : Bool) → v3 ≡ true → (p p3 : Parser A) (s : Input) → BesideBy b g p p3 s → BesideBy b g (choose v p (fails Depth)) (choose v3 p3 (fails Depth)) s
  opened true v3 e p p3 s f = subst (λ w. BesideBy b g p (choose w p3 (fails Depth)) s) (sym e) f
  opened {A = A} false v3 e p p3 s f = subst (λ w. BesideBy b g (fails Depth) (choose w p3 (fails Depth)) s) (sym e) (record { across = λ s'. first_stops; inside = f.inside; idle = λ at us. stands })

  pub group-may : {A : Type 0} (i j : Inner) → j.may_open ≡ true → (m : Mark) (p p3 q q3 : Parser A) (s : Input) → ((c : Input) → BesideBy b g p p3 c) → BesideBy b g q q3 s → BesideBy b g (on_group i m p q) (on_group j m p3 q3) s
  group-may i j o m p p3 q q3 s f h = looks-taken (next_mark m) _ _ q q3 (λ d at. refl)
      (λ e. opened-past j.may_open o _ (record { tokens = g.next ∷ g.behind; last = g.at }) (length g.behind)
      (subst (λ out. length (left out) ≤ length g.behind) (sym (hit (mark m) g.next g.behind g.at (λ t. p3) q3 g.next (ap (λ v. kept_if v g.next) e))) ((f (record { tokens = g.behind; last = g.next.span.end })).inside g.behind))) s
      (opened i.may_open j.may_open o _ _ s (may (mark m) (λ t. p) (λ t. p3) q q3 (λ d at. refl) s (λ t c. f c) h)) h

  pub group-must : {A : Type 0} (i j : Inner) → j.may_open ≡ true → (m : Mark) (p p3 q q3 : Parser A) → Stops q → (s : Input) → ((c : Input) → BesideBy b g p p3 c) → BesideBy b g q q3 s → BesideBy b g (on_group i m p q) (on_group j m p3 q3) s
  group-must i j o m p p3 q q3 n s f h = group-may i j o m p p3 q q3 s f h

refused-inside : (A : Type 0) (c : Input) → length (left (refused {A = A} c)) ≤ length c.tokens
unfolding refused
refused-inside A c = low (length c.tokens)

module _ {g : Gap} where
  elsewhere-after : {A B : Type 0} {o : Outcome A} (q3 : A → Parser B) → Elsewhere g o → ((x : A) (c : Input) → length (left (q3 x c)) ≤ length c.tokens) → Elsewhere g (after o q3)
  elsewhere-after q3 (early h) f = early h
  elsewhere-after q3 (beyond {o = o} h) f = beyond (outcome-inside q3 (length g.behind) o h f)

  idle-then : {A B : Type 0} {b : Option Loss} {o : Outcome A} (q q3 : A → Parser B) → Rests true o → ((x : A) (c : Input) → BesideBy b g (q x) (q3 x) c) → Rests true (after o q)
  idle-then q q3 (rests {x = x} {at = at} {last = last} {us = us}) f = (f x (record { tokens = us; last = last })).idle at us
  idle-then q q3 stands f = stands

  onward : {A B : Type 0} {b : Loss} {o o' o'' : Outcome A} (q q3 : A → Parser B) → Agree g (Some parts) o o' o'' → ((x : A) (s : Input) → BesideBy (Some b) g (q x) (q3 x) s) → Agree g (Some b) (after o q) (after o' q) (after o'' q3)
  onward q q3 (took_all {s = s} s') f = (f _ s).across s'
  onward q q3 (joined {x = x} {c = c}) f = alike (q x c)
  onward q q3 first_stops f = first_stops
  onward q q3 (aside e) f = aside (elsewhere-after q3 e (λ x c. (f x c).inside c.tokens))
  onward {b = b} q q3 (lost {x = x} {at = at} {last = last} {us = us} e) f = rest-agrees (loses-more g b e)
      (subst (λ d. Rests d (q x (record { tokens = semi d at ∷ us; last = last }))) (sym e) ((f x (record { tokens = us; last = last })).idle at us))

  -- after an expression or a part
  pub bind : {A B : Type 0} {b : Loss} {s : Input} {o : Outcome A} {o' o'' : Row g s → Outcome A} {run first : List Filled → Outcome A} (q q3 : A → Parser B) → Good g (Some parts) s o o' o'' run first → ((x : A) (c : Input) → BesideBy (Some b) g (q x) (q3 x) c)
      → Good g (Some b) s (after o q) (λ s'. after (o' s') q) (λ s'. after (o'' s') q3) (λ us. after (run us) q3) (λ us. after (first us) q)
  bind {run = run} q q3 h f = record { across = λ s'. onward q q3 (h.across s') f; inside = λ us. outcome-inside q3 (length us) (run us) (h.inside us) (λ x d. (f x d).inside d.tokens); idle = λ at us. idle-then q q3 (h.idle at us) f }

  onward-idle : {A B : Type 0} {b : Option Loss} {o o' o'' : Outcome A} (q q3 : A → Parser B) → ((x : A) → Idle (q x)) → Agree g b o o' o'' → ((x : A) (s : Input) → BesideOr g (q x) (q3 x) s) → Agree g (Some statements) (after o q) (after o' q) (after o'' q3)
  onward-idle q q3 n (took_all {s = s} s') f = (f _ s).across s'
  onward-idle q q3 n (joined {x = x} {c = c}) f = alike (q x c)
  onward-idle q q3 n first_stops f = first_stops
  onward-idle q q3 n (aside e) f = aside (elsewhere-after q3 e (λ x c. (f x c).inside c.tokens))
  onward-idle q q3 n (lost {x = x} {at = at} {last = last} {us = us} e) f = rest-agrees refl (n x g.do_while at us last)

  -- after a statement, what takes nothing at a semicolon
  pub bind-idle : {A B : Type 0} {b : Option Loss} {s : Input} {o : Outcome A} {o' o'' : Row g s → Outcome A} {run first : List Filled → Outcome A} (q q3 : A → Parser B) → ((x : A) → Idle (q x)) → Good g b s o o' o'' run first → ((x : A) (c : Input) → BesideOr g (q x) (q3 x) c)
      → Good g (Some statements) s (after o q) (λ s'. after (o' s') q) (λ s'. after (o'' s') q3) (λ us. after (run us) q3) (λ us. after (first us) q)
  bind-idle {run = run} q q3 n h f = record { across = λ s'. onward-idle q q3 n (h.across s') f; inside = λ us. outcome-inside q3 (length us) (run us) (h.inside us) (λ x d. (f x d).inside d.tokens); idle = λ at us. idle-then q q3 (h.idle at us) f }

  onward-ends : {A B : Type 0} {b c : Option Loss} {o o' o'' : Outcome A} (q q3 : A → Parser B) → ((x : A) → Stops (q x)) → Agree g b o o' o'' → ((x : A) (s : Input) → BesideBy c g (q x) (q3 x) s) → Agree g c (after o q) (after o' q) (after o'' q3)
  onward-ends q q3 n (took_all {s = s} s') f = (f _ s).across s'
  onward-ends q q3 n (joined {x = x} {c = c}) f = alike (q x c)
  onward-ends q q3 n first_stops f = first_stops
  onward-ends q q3 n (aside e) f = aside (elsewhere-after q3 e (λ x c. (f x c).inside c.tokens))
  onward-ends q q3 n (lost {x = x} {at = at} {last = last} {us = us} e) f = never-agrees (n x g.do_while at us last)

  -- after any of these, what stops at a semicolon
  pub bind-ends : {A B : Type 0} {b c : Option Loss} {s : Input} {o : Outcome A} {o' o'' : Row g s → Outcome A} {run first : List Filled → Outcome A} (q q3 : A → Parser B) → ((x : A) → Stops (q x)) → Good g b s o o' o'' run first → ((x : A) (d : Input) → BesideBy c g (q x) (q3 x) d)
      → Good g c s (after o q) (λ s'. after (o' s') q) (λ s'. after (o'' s') q3) (λ us. after (run us) q3) (λ us. after (first us) q)
  bind-ends {run = run} q q3 n h f = record { across = λ s'. onward-ends q q3 n (h.across s') f; inside = λ us. outcome-inside q3 (length us) (run us) (h.inside us) (λ x d. (f x d).inside d.tokens); idle = λ at us. idle-then q q3 (h.idle at us) f }

  onward-kept : {A B : Type 0} {b : Option Loss} {o o' o'' : Outcome A} (q q3 : A → Parser B) → Agree g None o o' o'' → ((x : A) (s : Input) → BesideBy b g (q x) (q3 x) s) → Agree g b (after o q) (after o' q) (after o'' q3)
  onward-kept q q3 (took_all {s = s} s') f = (f _ s).across s'
  onward-kept q q3 (joined {x = x} {c = c}) f = alike (q x c)
  onward-kept q q3 first_stops f = first_stops
  onward-kept q q3 (aside e) f = aside (elsewhere-after q3 e (λ x c. (f x c).inside c.tokens))
  onward-kept q q3 (lost e) f = absurd (false≢true e)

  -- after what doesn't end at a semicolon
  pub bind-kept : {A B : Type 0} {b : Option Loss} {s : Input} {o : Outcome A} {o' o'' : Row g s → Outcome A} {run first : List Filled → Outcome A} (q q3 : A → Parser B) → Good g None s o o' o'' run first → ((x : A) (c : Input) → BesideBy b g (q x) (q3 x) c)
      → Good g b s (after o q) (λ s'. after (o' s') q) (λ s'. after (o'' s') q3) (λ us. after (run us) q3) (λ us. after (first us) q)
  bind-kept {run = run} q q3 h f = record { across = λ s'. onward-kept q q3 (h.across s') f; inside = λ us. outcome-inside q3 (length us) (run us) (h.inside us) (λ x d. (f x d).inside d.tokens); idle = λ at us. idle-then q q3 (h.idle at us) f }

  onward-sure : {A B : Type 0} {b : Option Loss} {o o' o'' : Outcome A} (q q3 : A → Parser B) → Agree g None o o' o'' → ((x : A) (s : Input) → ClosesBy b g (q x) (q3 x) s) → Agree g b (after o q) (after o' q) (after o'' q3)
  onward-sure q q3 (took_all {s = s} s') f = (f _ s).across s'
  onward-sure q q3 (joined {x = x} {c = c}) f = alike (q x c)
  onward-sure q q3 first_stops f = first_stops
  onward-sure q q3 (aside e) f = aside (elsewhere-after q3 e (λ x c. (f x c).inside c.tokens))
  onward-sure q q3 (lost e) f = absurd (false≢true e)

  -- after what stops at a semicolon and doesn't end at one, what may take it
  pub bind-sure : {A B : Type 0} {b : Option Loss} {s : Input} {o : Outcome A} {o' o'' : Row g s → Outcome A} {run first : List Filled → Outcome A} (q q3 : A → Parser B) → ((at : ℕ) (us : List Filled) → Never (first (semi true at ∷ us))) → Good g None s o o' o'' run first → ((x : A) (c : Input) → ClosesBy b g (q x) (q3 x) c)
      → Good g b s (after o q) (λ s'. after (o' s') q) (λ s'. after (o'' s') q3) (λ us. after (run us) q3) (λ us. after (first us) q)
  bind-sure {run = run} q q3 n h f = record { across = λ s'. onward-sure q q3 (h.across s') f; inside = λ us. outcome-inside q3 (length us) (run us) (h.inside us) (λ x d. (f x d).inside d.tokens); idle = λ at us. never-rests (never-after q (n at us)) }

  -- after such a semicolon
  pub bind-closed : {A B : Type 0} {s : Input} {o : Outcome A} {o' o'' : Row g s → Outcome A} {run : List Filled → Outcome A} (q q3 : A → Parser B) → ((x : A) → Idle (q x)) → Closes g (Some statements) s o o' o'' run → ((x : A) (c : Input) → BesideOr g (q x) (q3 x) c)
      → Closes g (Some statements) s (after o q) (λ s'. after (o' s') q) (λ s'. after (o'' s') q3) (λ us. after (run us) q3)
  bind-closed {run = run} q q3 n h f = record { across = λ s'. onward-idle q q3 n (h.across s') f; inside = λ us. outcome-inside q3 (length us) (run us) (h.inside us) (λ x d. (f x d).inside d.tokens) }

  -- a token that may follow a statement, with which it goes on
  pub or-lost : {A B : Type 0} (test : Filled → Option B) (p p3 : B → Parser A) (q q3 : Parser A) → ((d : Bool) (at : ℕ) → test (semi d at) ≡ None) → Idle q → (s : Input) → ((x : B) (c : Input) → BesideOr g (p x) (p3 x) c) → BesideOr g q q3 s → BesideOr g (on test p q) (on test p3 q3) s
  or-lost test p p3 q q3 m n s f h = may test p p3 q q3 m s f h

  -- the same where no token is taken
  pub looks-idle : {A : Type 0} (test : Filled → Bool) (p p3 q q3 : Parser A) → Idle (if_next test p q) → (s : Input) → BesideOr g p p3 s → BesideOr g q q3 s → BesideOr g (if_next test p q) (if_next test p3 q3) s
  looks-idle {A = A} test p p3 q q3 n s f h = record {
    across = λ s'. by s'.rows ((either (next_is test s.tokens) p p3 q q3 s f h).across s');
    inside = looks-inside test p3 q3 s.last f.inside h.inside;
    idle = λ at us. choose-idle (test (semi true at)) p q (record { tokens = semi true at ∷ us; last = s.last }) (f.idle at us) (h.idle at us);
  }
    where
      by : {last : ℕ} {ts us : List Filled} → Rows g last ts us → Agree g (Some statements) (choose (next_is test ts) p q (record { tokens = ts; last = last })) (choose (next_is test ts) p q (record { tokens = us; last = last })) (choose (next_is test ts) p3 q3 (record { tokens = us; last = last }))
          → Agree g (Some statements) (if_next test p q (record { tokens = ts; last = last })) (if_next test p q (record { tokens = us; last = last })) (if_next test p3 q3 (record { tokens = us; last = last }))
      by here k = rest-agrees refl (n g.do_while g.at (g.next ∷ g.behind) g.at)
      by (later w) k = k

  -- ## Semicolons

  refused-early : {A : Type 0} {o o' : Outcome A} {b : Option Loss} (t : Filled) {last : ℕ} {ts us : List Filled} (place : ℕ) → Rows g last ts us → Agree g b {A = A} o o' (refused (record { tokens = t ∷ us; last = place }))
  unfolding refused
  refused-early t {us = us} place w = aside (early (more-than (suc (length g.behind)) (length us) (rows-long w)))

  pub semicolon_ : {b : Option Loss} (i j : Inner) → i.inserting ≡ true → j.inserting ≡ false → (s : Input) → BesideBy b g (semicolon i) (semicolon j) s
  unfolding semicolon refused
  semicolon_ {b = b} i j h k s = record { across = λ s'. by s'.rows; idle = λ at us. subst (λ o. Rests true o) (sym (put (record { tokens = semi true at ∷ us; last = s.last }))) stands; inside = on-inside (ending false) _ _ s.last (λ t c. low (length c.tokens)) (λ us. choose-inside j.inserting inserts refused (record { tokens = us; last = s.last }) (inserts-inside (record { tokens = us; last = s.last })) (refused-inside (Unit {0}) (record { tokens = us; last = s.last }))) }
    where
      inserts-inside : Inside inserts
      inserts-inside c = choose-inside (is_insertable c.tokens) (returns tt) refused c (low (length c.tokens)) (refused-inside (Unit {0}) c)

      put : (c : Input) → choose i.inserting inserts refused c ≡ inserts c
      put c = ap (λ v. choose v inserts refused c) h

      left-out : g.do_while ≡ false → Agree g b (Took tt (record { tokens = g.next ∷ g.behind; last = g.at })) (on (ending false) (λ t. returns tt) (choose i.inserting inserts refused) (record { tokens = g.next ∷ g.behind; last = g.at })) (on (ending false) (λ t. returns tt) (choose j.inserting inserts refused) (record { tokens = g.next ∷ g.behind; last = g.at }))
      left-out e = known (ending false g.next)
        where
          known : (o : Option Filled) → Agree g b (Took tt (record { tokens = g.next ∷ g.behind; last = g.at })) (on_taken o g.next g.behind (λ t. returns tt) (choose i.inserting inserts refused) (record { tokens = g.next ∷ g.behind; last = g.at }))
              (on_taken o g.next g.behind (λ t. returns tt) (choose j.inserting inserts refused) (record { tokens = g.next ∷ g.behind; last = g.at }))
          known (Some t) = aside (beyond (low (length g.behind)))
          known None = subst (λ o. Agree g b (Took tt (record { tokens = g.next ∷ g.behind; last = g.at })) o (choose j.inserting inserts refused (record { tokens = g.next ∷ g.behind; last = g.at }))) (sym (put (record { tokens = g.next ∷ g.behind; last = g.at })
              ∙ ap (λ v. choose v (returns tt) refused (record { tokens = g.next ∷ g.behind; last = g.at })) (g.line e))) joined

      same : (t : Filled) (ts us : List Filled) (last : ℕ) → Rows g t.span.end ts us → Agree g b (choose i.inserting inserts refused (record { tokens = t ∷ ts; last = last })) (choose i.inserting inserts refused (record { tokens = t ∷ us; last = last })) (choose j.inserting inserts refused (record { tokens = t ∷ us; last = last }))
      same t ts us last w = subst (λ v. Agree g b (choose i.inserting inserts refused (record { tokens = t ∷ ts; last = last })) (choose i.inserting inserts refused (record { tokens = t ∷ us; last = last })) (choose v inserts refused (record { tokens = t ∷ us; last = last }))) (sym k) (refused-early t last w)

      same-token : (t : Filled) (ts us : List Filled) (last : ℕ) → Rows g t.span.end ts us → Agree g b (semicolon i (record { tokens = t ∷ ts; last = last })) (semicolon i (record { tokens = t ∷ us; last = last })) (semicolon j (record { tokens = t ∷ us; last = last }))
      same-token t ts us last w = known (ending false t)
        where
          known : (o : Option Filled) → Agree g b (on_taken o t ts (λ t. returns tt) (choose i.inserting inserts refused) (record { tokens = t ∷ ts; last = last })) (on_taken o t us (λ t. returns tt) (choose i.inserting inserts refused) (record { tokens = t ∷ us; last = last }))
              (on_taken o t us (λ t. returns tt) (choose j.inserting inserts refused) (record { tokens = t ∷ us; last = last }))
          known (Some u) = took_all {s = record { tokens = ts; last = t.span.end }} (record { row = us; rows = w })
          known None = same t ts us last w

      at-semi : (d : Bool) → g.do_while ≡ d → Agree g b (semicolon i (record { tokens = semi d g.at ∷ g.next ∷ g.behind; last = g.at })) (semicolon i (record { tokens = g.next ∷ g.behind; last = g.at })) (semicolon j (record { tokens = g.next ∷ g.behind; last = g.at }))
      at-semi false e = left-out e
      at-semi true e = subst (λ o. Agree g b o (semicolon i (record { tokens = g.next ∷ g.behind; last = g.at })) (semicolon j (record { tokens = g.next ∷ g.behind; last = g.at }))) (sym (put (record { tokens = semi true g.at ∷ g.next ∷ g.behind; last = g.at }))) first_stops

      by : {last : ℕ} {ts us : List Filled} → Rows g last ts us → Agree g b (semicolon i (record { tokens = ts; last = last })) (semicolon i (record { tokens = us; last = last })) (semicolon j (record { tokens = us; last = last }))
      by here = at-semi g.do_while refl
      by (later {last = last} {t = t} {ts = ts} {us = us} w) = same-token t ts us last w

  pub do_while_end : (i j : Inner) → i.inserting ≡ true → j.inserting ≡ false → (s : Input) → ClosesBy (Some statements) g (p.semicolon_of_do_while i) (p.semicolon_of_do_while j) s
  unfolding p.semicolon_of_do_while
  do_while_end i j h k s = record { across = λ s'. by s'.rows; inside = on-inside (ending true) _ _ s.last (λ t c. low (length c.tokens)) (λ us. choose-inside j.inserting inserts_anywhere refused (record { tokens = us; last = s.last }) (looks-inside (λ t. true) (returns tt) refused s.last (λ vs. low (length vs)) (λ vs. refused-inside (Unit {0}) (record { tokens = vs; last = s.last })) us) (refused-inside (Unit {0}) (record { tokens = us; last = s.last }))) }
    where
      put : (c : Input) → choose i.inserting inserts_anywhere refused c ≡ inserts_anywhere c
      put c = ap (λ v. choose v inserts_anywhere refused c) h

      same-token : (t : Filled) (ts us : List Filled) (last : ℕ) → Rows g t.span.end ts us → Agree g (Some statements) (p.semicolon_of_do_while i (record { tokens = t ∷ ts; last = last })) (p.semicolon_of_do_while i (record { tokens = t ∷ us; last = last })) (p.semicolon_of_do_while j (record { tokens = t ∷ us; last = last }))
      same-token t ts us last w = known (ending true t)
        where
          known : (o : Option Filled) → Agree g (Some statements) (on_taken o t ts (λ t. returns tt) (choose i.inserting inserts_anywhere refused) (record { tokens = t ∷ ts; last = last })) (on_taken o t us (λ t. returns tt) (choose i.inserting inserts_anywhere refused) (record { tokens = t ∷ us; last = last }))
              (on_taken o t us (λ t. returns tt) (choose j.inserting inserts_anywhere refused) (record { tokens = t ∷ us; last = last }))
          known (Some u) = took_all {s = record { tokens = ts; last = t.span.end }} (record { row = us; rows = w })
          known None = subst (λ v. Agree g (Some statements) (choose i.inserting inserts_anywhere refused (record { tokens = t ∷ ts; last = last })) (choose i.inserting inserts_anywhere refused (record { tokens = t ∷ us; last = last })) (choose v inserts_anywhere refused (record { tokens = t ∷ us; last = last }))) (sym k) (refused-early t last w)

      -- where it stands it is left out, unless the next token is a semicolon itself
      left-out : (o : Option Filled) → Agree g (Some statements) (Took tt (record { tokens = g.next ∷ g.behind; last = g.at })) (on_taken o g.next g.behind (λ t. returns tt) (choose i.inserting inserts_anywhere refused) (record { tokens = g.next ∷ g.behind; last = g.at }))
          (on_taken o g.next g.behind (λ t. returns tt) (choose j.inserting inserts_anywhere refused) (record { tokens = g.next ∷ g.behind; last = g.at }))
      left-out (Some t) = aside (beyond (low (length g.behind)))
      left-out None = subst (λ o. Agree g (Some statements) (Took tt (record { tokens = g.next ∷ g.behind; last = g.at })) o (choose j.inserting inserts_anywhere refused (record { tokens = g.next ∷ g.behind; last = g.at }))) (sym (put (record { tokens = g.next ∷ g.behind; last = g.at }))) joined

      at-semi : (d : Bool) → g.do_while ≡ d → Agree g (Some statements) (p.semicolon_of_do_while i (record { tokens = semi d g.at ∷ g.next ∷ g.behind; last = g.at })) (p.semicolon_of_do_while i (record { tokens = g.next ∷ g.behind; last = g.at })) (p.semicolon_of_do_while j (record { tokens = g.next ∷ g.behind; last = g.at }))
      at-semi true e = left-out (ending true g.next)
      at-semi false e = subst (λ o. Agree g (Some statements) o (p.semicolon_of_do_while i (record { tokens = g.next ∷ g.behind; last = g.at })) (p.semicolon_of_do_while j (record { tokens = g.next ∷ g.behind; last = g.at }))) (sym (put (record { tokens = semi false g.at ∷ g.next ∷ g.behind; last = g.at })))
          (subst (λ d. Agree g (Some statements) (Took tt (record { tokens = semi d g.at ∷ g.next ∷ g.behind; last = g.at })) (p.semicolon_of_do_while i (record { tokens = g.next ∷ g.behind; last = g.at })) (p.semicolon_of_do_while j (record { tokens = g.next ∷ g.behind; last = g.at }))) e (lost refl))

      by : {last : ℕ} {ts us : List Filled} → Rows g last ts us → Agree g (Some statements) (p.semicolon_of_do_while i (record { tokens = ts; last = last })) (p.semicolon_of_do_while i (record { tokens = us; last = last })) (p.semicolon_of_do_while j (record { tokens = us; last = last }))
      by here = at-semi g.do_while refl
      by (later {last = last} {t = t} {ts = ts} {us = us} w) = same-token t ts us last w

-- as many turns
pub data Both : ℕ → ℕ → Type 0 where
  over : Both zero zero
  turn : {n m : ℕ} → Both n m → Both (suc n) (suc m)

pub both : (n : ℕ) → Both n n
both zero = over
both (suc n) = turn (both n)

pub both-same : {n m : ℕ} → Both n m → n ≡ m
both-same over = refl
both-same (turn w) = ap (λ n. suc n) (both-same w)

-- readers of what stands one construct deeper
pub record Crosses (g : Gap) (i j : Inner) : Type 0 where
  pub inserting : i.inserting ≡ true
  pub plain : j.inserting ≡ false
  pub turns : Both i.fuel j.fuel
  pub opens : j.may_open ≡ true
  pub sequence : (f : Flags) (s : Input) → Beside g (i.sequence f) (j.sequence f) s
  pub assignment : (f : Flags) (s : Input) → Beside g (i.assignment f) (j.assignment f) s
  pub power : (f : Flags) (s : Input) → Beside g (i.power f) (j.power f) s
  pub unary : (f : Flags) (s : Input) → Beside g (i.unary f) (j.unary f) s
  pub callee : (f : Flags) (s : Input) → Beside g (i.callee f) (j.callee f) s
  pub heritage : (f : Flags) (s : Input) → Beside g (i.heritage f) (j.heritage f) s
  pub block : (f : Flags) (s : Input) → Beside g (i.block f) (j.block f) s
  pub property : (f : Flags) (s : Input) → Beside g (i.property f) (j.property f) s
  pub target : (f : Flags) (s : Input) → Beside g (i.target f) (j.target f) s
  pub part : (f : Flags) (s : Input) → Beside g (i.part f) (j.part f) s
  pub object_part : (f : Flags) (s : Input) → Beside g (i.object_part f) (j.object_part f) s
  pub variable : (f : Flags) (s : Input) → Beside g (i.variable f) (j.variable f) s
  pub member : (f : Flags) (s : Input) → Beside g (i.member f) (j.member f) s
  pub statement : (f : Flags) (stand : Stand) (s : Input) → BesideOr g (i.statement f stand) (j.statement f stand) s
  -- none of these begins with an inserted semicolon
  pub sequence_stops : (f : Flags) → Stops (i.sequence f)
  pub assignment_stops : (f : Flags) → Stops (i.assignment f)
  pub callee_stops : (f : Flags) → Stops (i.callee f)
  pub block_stops : (f : Flags) → Stops (i.block f)
  pub property_stops : (f : Flags) → Stops (i.property f)
  pub part_stops : (f : Flags) → Stops (i.part f)
  pub object_part_stops : (f : Flags) → Stops (i.object_part f)
  pub member_stops : (f : Flags) → Stops (i.member f)
  pub statement_stops : (f : Flags) (stand : Stand) → Stops (i.statement f stand)
