-- How many constructs are open at each token that a reader takes: the groups that are open since it began, and the spans of the
-- parts of what it gives that lie round the token.
use Rattle.std.proofs.Common.{◌≡◌, ℕ, suc, ◌+◌, ◌<◌, ◌≤◌, Bool, true, false, cond, List, [], ◌∷◌, Option, Some, sym, refl, subst, arith}
use Rattle.std.proofs.lemmas.Bool.Decides.{nat_tests}
use Rattle.es_text.specs.declared.Span.{Span}
use Rattle.es6_lexer.specs.declared.token.Punctuator.{Punctuator as Mark}
use Rattle.es6_lexer.specs.declared.token.TokenKind.TheVariants as kinds
use Rattle.es6_ast.specs.Tokens.{Filling, Read, Inserted, Filled, begin_of}
use Rattle.es6_ast.specs.Depth.{opens_group, closes_group, is_around}
use Rattle.es6_reading.specs.Parser.{Input, Parser, on, choose, next_is, if_next, mark, take_as, Inner, on_group}
use Rattle.es6_reading.specs.Modules.{is_end, is_end_kind}
use Rattle.es6_reading.proofs.Meanings.{mark-means}
use Rattle.es6_reading.proofs.Posts.{Holds, took, fault, weaken, Taken, taken, on-holds, refused-holds, choose-holds}
use Rattle.es6_reading.proofs.SpanCounts.{one, sum_of}

abbrev pub opens_of : Filling → ℕ
opens_of (Read k) = opens_group k
opens_of (Inserted do_while) = 0

abbrev pub closes_of : Filling → ℕ
closes_of (Read k) = closes_group k
closes_of (Inserted do_while) = 0

-- the tokens stand behind the place, one behind the other, and only the end of the text may be empty
abbrev pub Sorted : ℕ → List Filled → Type 0
Sorted last [] = Unit {0}
Sorted last (t ∷ ts) = (last ≤ t.span.begin) × (is_end t ≡ false → t.span.begin < t.span.end) × Sorted t.span.end ts

-- From so many open groups on, the tokens are taken up to others, where so many are open. They stand between two places, and at
-- each of them at most `room` constructs are open.
pub data Walk (room : ℕ) (spans : ℕ → ℕ) (low high : ℕ) : ℕ → List Filled → ℕ → List Filled → Type 0 where
  stay : {g : ℕ} {ts : List Filled} → Walk room spans low high g ts g ts
  step : {g k h : ℕ} {t : Filled} {ts us : List Filled} → low ≤ t.span.begin → t.span.begin < high → g + opens_of t.kind + spans t.span.begin ≤ room → g + opens_of t.kind ≡ k + closes_of t.kind → Walk room spans low high k ts h us → Walk room spans low high g (t ∷ ts) h us

-- What was read from the one input, with so many groups open, up to the other one, where so many are open. The spans of what it
-- gives are counted at each place, and lie round none before what was taken or behind it.
pub record At (room : ℕ) (s : Input) (g h : ℕ) (c : Input) (spans : ℕ → ℕ) : Type 0 where
  pub walk : Walk room spans s.last c.last g s.tokens h c.tokens
  pub before : (at : ℕ) → at < s.last → spans at ≡ 0
  pub behind : (at : ℕ) → c.last ≤ at → spans at ≡ 0
  pub order : s.last ≤ c.last
  pub sorted : Sorted c.last c.tokens
  pub fits : h ≤ room

-- where a reader may begin, with so many groups open
pub record Ready (room h : ℕ) (s : Input) : Type 0 where
  pub sorted : Sorted s.last s.tokens
  pub fits : h ≤ room

pub ready : {room g h : ℕ} {s c : Input} {spans : ℕ → ℕ} → At room s g h c spans → Ready room h c
ready a = record { sorted = a.sorted; fits = a.fits }

abbrev pub no_spans : ℕ → ℕ
no_spans at = 0

pub begin : {room h : ℕ} (s : Input) → Ready room h s → At room s h h s no_spans
begin s a = record { walk = stay; before = λ at l. refl; behind = λ at l. refl; order = omega arith; sorted = a.sorted; fits = a.fits }

-- ## Walks

-- other bounds, and spans that are counted anew at the places in between
change : {room room' low low' high high' : ℕ} {D E : ℕ → ℕ} {g h : ℕ} {ts us : List Filled} → ((at : ℕ) → low ≤ at → at < high → (low' ≤ at) × (at < high') × ((m : ℕ) → m + D at ≤ room → m + E at ≤ room')) → Walk room D low high g ts h us → Walk room' E low' high' g ts h us
change f stay = stay
change f (step {g = g} {t = t} l m b e w) =
    let at = f t.span.begin l m in
    step at.0 at.1 (at.2 (g + opens_of t.kind) b) e (change f w)

deepen : {room low high : ℕ} {D : ℕ → ℕ} {g h : ℕ} {ts us : List Filled} → Walk room D low high g ts h us → Walk (suc room) D low high (1 + g) ts (1 + h) us
deepen stay = stay
deepen (step l m b e w) = step l m (omega (arith, b)) (omega (arith, e)) (deepen w)

join : {room low high : ℕ} {D : ℕ → ℕ} {g h k : ℕ} {ts us vs : List Filled} → Walk room D low high g ts h us → Walk room D low high h us k vs → Walk room D low high g ts k vs
join stay v = v
join (step l m b e w) v = step l m b e (join w v)

-- ## What is taken one after another

-- what was read, and what is read after it
pub and : {room g h k : ℕ} {s c d : Input} {D E : ℕ → ℕ} → At room s g h c D → At room c h k d E → At room s g k d (λ at. D at + E at)
and {room = room} {s = s} {c = c} {d = d} {D = D} {E = E} a b = record {
  walk = join (change (λ at l m. let z = b.before at m in (l, omega (arith, m, b.order), λ n i. omega (arith, z, i))) a.walk) (change (λ at l m. let z = a.behind at l in (omega (arith, l, a.order), m, λ n i. omega (arith, z, i))) b.walk);
  before = λ at l. omega (arith, a.before at l, b.before at (omega (arith, l, a.order)));
  behind = λ at l. omega (arith, b.behind at l, a.behind at (omega (arith, l, b.order)));
  order = omega (arith, a.order, b.order);
  sorted = b.sorted;
  fits = b.fits;
}

-- fewer spans
pub less : {room g h : ℕ} {s c : Input} {D E : ℕ → ℕ} → At room s g h c D → ((at : ℕ) → E at ≤ D at) → At room s g h c E
less {D = D} {E = E} a f = record {
  walk = change (λ at l m. (l, m, λ n i. omega (arith, i, f at))) a.walk;
  before = λ at l. omega (arith, a.before at l, f at);
  behind = λ at l. omega (arith, a.behind at l, f at);
  order = a.order;
  sorted = a.sorted;
  fits = a.fits;
}

-- what a tree holds is a sum over its parts, and these were read
pub finish : {room g h : ℕ} {s c : Input} {D E F : ℕ → ℕ} → At room s g h c D → ((at : ℕ) → E at ≡ F at) → ((at : ℕ) → F at ≤ D at) → At room s g h c E
finish a e f = less a (λ at. omega (arith, e at, f at))

-- a part and those after it
pub first : {A : Type 0} {x : A} {room g h : ℕ} {s c : Input} {D m : ℕ → ℕ} (f : A → ℕ → ℕ) (xs : List A) → At room s g h c D → ((at : ℕ) → f x at ≡ m at) → ((at : ℕ) → m at + sum_of f xs at ≤ D at) → At room s g h c (sum_of f (x ∷ xs))
first f xs a e b = less a (λ at. omega (arith, e at, b at))

-- ## One construct deeper

-- in a group that the reader opened
pub inside : {room : ℕ} {s c : Input} {D : ℕ → ℕ} → At room s 0 0 c D → At (suc room) s 1 1 c D
inside a = record { walk = deepen a.walk; before = a.before; behind = a.behind; order = a.order; sorted = a.sorted; fits = omega arith }

-- the span is from the first token to the last one
pub record Within (s c : Input) (span : Span) : Type 0 where
  pub begins : begin_of s.tokens ≤ span.begin
  pub ends : span.end ≤ c.last

pub within : {s c : Input} {span : Span} → span ≡ record { begin = begin_of s.tokens; end = c.last } → Within s c span
within e = record { begins = rw e (omega arith); ends = rw e (omega arith) }

one-is : (at : ℕ) (span : Span) → one span at ≤ 1
one-is at span = at-most (is_around at span)
  where
    at-most : (b : Bool) → cond b 1 0 ≤ 1
    at-most true = omega arith
    at-most false = omega arith

one-before : (at : ℕ) (span : Span) → at < span.begin → one span at ≡ 0
one-before at span l = grind (arith, nat_tests)

one-behind : (at : ℕ) (span : Span) → span.end ≤ at → one span at ≡ 0
one-behind at span l = grind (arith, nat_tests)

-- as a construct of its own
pub surround : {room : ℕ} {s c : Input} {D : ℕ → ℕ} (span : Span) → s.last ≤ span.begin → span.end ≤ c.last → At room s 0 0 c D → At (suc room) s 0 0 c (λ at. one span at + D at)
surround span l m a = record {
  walk = change (λ at i j. (i, j, λ n b. omega (arith, b, one-is at span))) a.walk;
  before = λ at i. omega (arith, a.before at i, one-before at span (omega (arith, i, l)));
  behind = λ at i. omega (arith, a.behind at i, one-behind at span (omega (arith, i, m)));
  order = a.order;
  sorted = a.sorted;
  fits = omega arith;
}

-- a part of the reader one construct deeper, in a group or as a construct of its own
pub record Opened (room : ℕ) (s c : Input) (D W : ℕ → ℕ) : Type 0 where
  pub grouped : At room s 1 1 c D
  pub counted : At room s 0 0 c W

-- what takes no token at the end gives nothing there
abbrev pub Nothing : {A : Type 0} → Parser A → Type 0
Nothing {A = A} p = (last : ℕ) → Holds (λ (x : A) (c : Input). ⊥) (p (record { tokens = []; last = last }))

pub opened : {A : Type 0} {room : ℕ} (p : Parser A) (D : A → ℕ → ℕ) (span : A → Span) (s : Input) → Nothing p → Sorted s.last s.tokens → Holds (λ x c. At room s 0 0 c (D x) × Within s c (span x)) (p s)
    → Holds (λ x c. Opened (suc room) s c (D x) (λ at. one (span x) at + D x at)) (p s)
opened {A = A} {room = room} p D span s none sorted h = from s.tokens s.last sorted h
  where
    from : (ts : List Filled) (last : ℕ) → Sorted last ts → Holds (λ x c. At room (record { tokens = ts; last = last }) 0 0 c (D x) × Within (record { tokens = ts; last = last }) c (span x)) (p (record { tokens = ts; last = last }))
        → Holds (λ x c. Opened (suc room) (record { tokens = ts; last = last }) c (D x) (λ at. one (span x) at + D x at)) (p (record { tokens = ts; last = last }))
    from [] last sorted h = weaken (none last) (λ x c z. absurd z)
    from (t ∷ ts) last sorted h = weaken h (λ x c a. record { grouped = inside a.0; counted = surround (span x) (omega (arith, sorted.0, a.1.begins)) a.1.ends a.0 })

-- ## Tokens

-- how many groups a token opens and closes that isn't the end of the text
abbrev pub Groups : ℕ → ℕ → Filling → Type 0
Groups m n k = (opens_of k ≡ m) × (closes_of k ≡ n) × (is_end_kind k ≡ false)

-- so each token that the test knows
abbrev pub Knows : {B : Type 0} → ℕ → ℕ → (Filled → Option B) → Type 0
Knows {B = B} m n test = (t : Filled) (x : B) → test t ≡ Some x → Groups m n t.kind

-- a token that opens and closes so many groups
pub over : {room g h k : ℕ} {s : Input} {D : ℕ → ℕ} {t : Filled} {ts : List Filled} {last : ℕ} → At room s g h (record { tokens = t ∷ ts; last = last }) D → is_end t ≡ false → h + opens_of t.kind ≤ room → h + opens_of t.kind ≡ k + closes_of t.kind → At room s g k (record { tokens = ts; last = t.span.end }) D
over {room = room} {h = h} {k = k} {s = s} {D = D} {t = t} {ts = ts} {last = last} a inner bound e =
    let long = a.sorted.1 inner in
    let last-is = a.sorted.0 in
    let none = a.behind t.span.begin last-is in
    record {
      walk = join (change (λ at l m. (l, omega (arith, m, last-is, long), λ n i. omega (arith, i))) a.walk) (step (omega (arith, a.order, last-is)) long (omega (arith, bound, none)) e stay);
      before = a.before;
      behind = λ at l. a.behind at (omega (arith, l, last-is, long));
      order = omega (arith, a.order, last-is, long);
      sorted = a.sorted.2;
      fits = omega (arith, bound, e);
    }

-- a token that opens and closes none, the one that opens a group, and the one that closes it
pub passed : {B : Type 0} {room g h : ℕ} {s c d : Input} {D : ℕ → ℕ} {test : Filled → Option B} {x : B} → Knows 0 0 test → At room s g h c D → Taken test c x d → At room s g h d D
passed f a (taken {t = t} {x = x} e) = let q = f t x e in over a q.2 (omega (arith, q.0, a.fits)) (omega (arith, q.0, q.1))

pub entered : {B : Type 0} {room g : ℕ} {s c d : Input} {D : ℕ → ℕ} {test : Filled → Option B} {x : B} → Knows 1 0 test → 1 ≤ room → At room s g 0 c D → Taken test c x d → At room s g 1 d D
entered f l a (taken {t = t} {x = x} e) = let q = f t x e in over a q.2 (omega (arith, q.0, l)) (omega (arith, q.0, q.1))

pub left : {B : Type 0} {room g : ℕ} {s c d : Input} {D : ℕ → ℕ} {test : Filled → Option B} {x : B} → Knows 0 1 test → At room s g 1 c D → Taken test c x d → At room s g 0 d D
left f a (taken {t = t} {x = x} e) = let q = f t x e in over a q.2 (omega (arith, q.0, a.fits)) (omega (arith, q.0, q.1))

pub of-kind : {m n : ℕ} (t : Filled) (k : Filling) → t.kind ≡ k → Groups m n k → Groups m n t.kind
of-kind {m = m} {n = n} t k e h = subst (λ j. Groups m n j) (sym e) h

pub of-mark : {m n : ℕ} (p : Mark) → Groups m n (Read (kinds.Punctuator p)) → Knows m n (mark p)
of-mark p h t u e = of-kind t (Read (kinds.Punctuator p)) (mark-means p t u e).0 h

-- ## Readers

pub next : {A B : Type 0} {Q : A → Input → Type 0} {room g h : ℕ} {s c : Input} {D : ℕ → ℕ} {test : Filled → Option B} {p : B → Parser A} → Knows 0 0 test → (q : Parser A) → At room s g h c D
    → ((x : B) (d : Input) → Taken test c x d → At room s g h d D → Holds Q (p x d)) → Holds Q (q c) → Holds Q (on test p q c)
next f q a k l = on-holds _ _ _ _ (λ x d e. k x d e (passed f a e)) (λ m. l)

pub ends : {A B : Type 0} {Q : A → Input → Type 0} {room g : ℕ} {s c : Input} {D : ℕ → ℕ} {test : Filled → Option B} {p : B → Parser A} → Knows 0 1 test → (q : Parser A) → At room s g 1 c D
    → ((x : B) (d : Input) → At room s g 0 d D → Holds Q (p x d)) → Holds Q (q c) → Holds Q (on test p q c)
ends f q a k l = on-holds _ _ _ _ (λ x d e. k x d (left f a e)) (λ m. l)

pub take : {B : Type 0} {room g h : ℕ} {s c : Input} {D : ℕ → ℕ} {test : Filled → Option B} → Knows 0 0 test → At room s g h c D → Holds (λ x d. At room s g h d D) (take_as test c)
take f a = on-holds _ _ _ _ (λ x d e. took (passed f a e)) (λ m. refused-holds _)

pub close : {B : Type 0} {room g : ℕ} {s c : Input} {D : ℕ → ℕ} {test : Filled → Option B} → Knows 0 1 test → At room s g 1 c D → Holds (λ x d. At room s g 0 d D) (take_as test c)
close f a = on-holds _ _ _ _ (λ x d e. took (left f a e)) (λ m. refused-holds _)

pub either : {A : Type 0} {Q : A → Input → Type 0} (b : Bool) (p q : Parser A) (c : Input) → Holds Q (p c) → Holds Q (q c) → Holds Q (choose b p q c)
either b p q c f g = choose-holds p q b c (λ e. f) (λ e. g)

pub looks : {A : Type 0} {Q : A → Input → Type 0} (test : Filled → Bool) (p q : Parser A) (c : Input) → Holds Q (p c) → Holds Q (q c) → Holds Q (if_next test p q c)
looks test p q c f g = either (next_is test c.tokens) p q c f g

pub group : {A : Type 0} {Q : A → Input → Type 0} {room g : ℕ} {s c : Input} {D : ℕ → ℕ} {p : Parser A} (i : Inner) (m : Mark) (q : Parser A) → (i.may_open ≡ true → 1 ≤ room) → Groups 1 0 (Read (kinds.Punctuator m)) → At room s g 0 c D
    → ((d : Input) → At room s g 1 d D → Holds Q (p d)) → Holds Q (q c) → Holds Q (on_group i m p q c)
group {c = c} i m q o e a f g = looks _ _ q c (choose-holds _ _ i.may_open c (λ b. on-holds _ _ _ c (λ t d k. f d (entered (of-mark m e) (o b) a k)) (λ n. g)) (λ b. fault)) g
