-- Two readers, of which the second one may open more constructs. In whatever the second one gives, at most as many are open at each
-- token that the first one takes as it may open; where that one stops for want of these at a token, one more is open there.
use Rattle.std.proofs.Common.{◌≡◌, ◌∙◌, ◌⊎◌, inl, inr, ℕ, zero, suc, ◌+◌, ◌-◌, ◌<◌, ◌≤◌, Bool, true, false, cond, ◌||◌, List, [], ◌∷◌, Option, Some, None, ap, sym, refl, subst, arith}
use Rattle.std.proofs.lemmas.Bool.{false≢true}
use Rattle.std.proofs.lemmas.Bool.Decides.{nat_tests}
use Rattle.es_text.specs.declared.Span.{Span}
use Rattle.es6_lexer.specs.declared.token.Punctuator.{Punctuator as Mark}
use Rattle.es6_lexer.specs.declared.token.TokenKind.TheVariants as kinds
use Rattle.es6_ast.specs.declared.settings.Stop.{Stop}
use Rattle.es6_ast.specs.declared.settings.Stop.TheVariants.{Depth}
use Rattle.es6_ast.specs.Depth.{is_around}
use Rattle.es6_ast.specs.Tokens.{Read, Filled, begin_of}
use Rattle.es6_reading.specs.Parser.{Input, Outcome, Took, Fault, Parser, fails, after, on, on_taken, choose, next_is, if_next, kept_if, mark, next_mark, take_as, refused, no_number, no_expression, Inner, on_group}
use Rattle.es6_reading.specs.Modules.{is_end}
use Rattle.es6_reading.proofs.Posts.{Taken, taken}
use Rattle.es6_reading.proofs.Shallow.{opens_of, closes_of, Sorted, Walk, stay, step, Groups, Knows, of-mark}
use Rattle.es6_reading.proofs.SpanCounts.{one, sum_of}

-- How many groups are open before these tokens, which are left of all.
pub data Stands (all : List Filled) : ℕ → List Filled → Type 0 where
  start : Stands all 0 all
  further : {g k : ℕ} {t : Filled} {ts : List Filled} → Stands all g (t ∷ ts) → g + opens_of t.kind ≡ k + closes_of t.kind → Stands all k ts

-- The token at which the first reader stopped.
pub record Limit (all : List Filled) : Type 0 where
  pub token : Filled
  pub behind : List Filled
  pub groups : ℕ
  pub stands : Stands all groups (token ∷ behind)

-- both still read, or the first one has stopped
pub data Mode (all : List Filled) : Type 0 where
  still : Mode all
  gone : Limit all → Mode all

pub record Spot (all : List Filled) : Type 0 where
  pub mode : Mode all
  pub groups : ℕ
  pub input : Input

-- the next of the tokens begins no earlier
abbrev pub From : ℕ → List Filled → Type 0
From n [] = Unit {0}
From n (t ∷ ts) = n ≤ t.span.begin

-- there is a token, and it ends no later
abbrev pub Behind : List Filled → ℕ → Type 0
Behind [] n = ⊥
Behind (t ∷ ts) n = t.span.end ≤ n

-- At the limit, among the tokens of what was read, so many constructs are open in it.
pub record Bound {all : List Filled} (room : ℕ) (s : Spot all) (g last : ℕ) (l : Limit all) (D : ℕ → ℕ) : Type 0 where
  pub deep : suc room + s.groups ≤ g + l.groups + opens_of l.token.kind + D l.token.span.begin
  pub comes : (n : ℕ) → From n s.input.tokens → n ≤ l.token.span.begin
  pub ends : l.token.span.begin < last

abbrev pub Claim : {all : List Filled} → ℕ → Spot all → ℕ → Mode all → Mode all → ℕ → (ℕ → ℕ) → Type 0
Claim room s g still still last D = Unit {0}
Claim room s g still (gone l) last D = Bound room s g last l D
Claim room s g (gone l) m last D = m ≡ gone l

-- At each token that both readers took, at most `room` constructs are open.
abbrev pub Walked : {all : List Filled} → ℕ → (ℕ → ℕ) → Input → ℕ → Input → ℕ → Mode all → Mode all → Type 0
Walked room D s g c h still still = Walk room D s.last c.last g s.tokens h c.tokens
Walked room D s g c h still (gone l) = (k : ℕ) × Walk room D s.last c.last g s.tokens k (l.token ∷ l.behind)
Walked room D s g c h (gone l) m = Unit {0}

-- What was read from the one spot, with so many groups open, up to the other one, where so many are open; the mark says that a
-- token was taken. The spans of what it gives lie round no place before what was taken or behind it.
pub record At {all : List Filled} (b : Bool) (room : ℕ) (s : Spot all) (g h : ℕ) (c : Spot all) (D : ℕ → ℕ) : Type 0 where
  pub balance : c.groups + g ≡ s.groups + h
  pub enough : g ≤ s.groups
  pub stands : Stands all c.groups c.input.tokens
  pub sorted : Sorted c.input.last c.input.tokens
  pub order : s.input.last ≤ c.input.last
  pub comes : (n : ℕ) → From n s.input.tokens → From n c.input.tokens
  pub steps : (s.input ≡ c.input) ⊎ Behind s.input.tokens c.input.last
  pub moved : b ≡ true → Behind s.input.tokens c.input.last
  pub fits : c.mode ≡ still → h ≤ room
  pub before : (at : ℕ) → at < s.input.last → D at ≡ 0
  pub behind : (at : ℕ) → c.input.last ≤ at → D at ≡ 0
  pub walk : Walked room D s.input g c.input h s.mode c.mode
  pub claim : Claim room s g s.mode c.mode c.input.last D

pub record Ready {all : List Filled} (room h : ℕ) (s : Spot all) : Type 0 where
  pub enough : h ≤ s.groups
  pub stands : Stands all s.groups s.input.tokens
  pub sorted : Sorted s.input.last s.input.tokens
  pub fits : s.mode ≡ still → h ≤ room

abbrev pub no_spans : ℕ → ℕ
no_spans at = 0

behind-more : (ts : List Filled) (m n : ℕ) → m ≤ n → Behind ts m → Behind ts n
behind-more [] m n o h = absurd h
behind-more (t ∷ ts) m n o h = omega (arith, o, h)

then-steps : {s c : Input} (d : Input) → c.last ≤ d.last → (s ≡ c) ⊎ Behind s.tokens c.last → (c ≡ d) ⊎ Behind c.tokens d.last → (s ≡ d) ⊎ Behind s.tokens d.last
then-steps d o (inl e) (inl k) = inl (e ∙ k)
then-steps d o (inl e) (inr k) = inr (subst (λ x. Behind x.tokens d.last) (sym e) k)
then-steps {s = s} {c = c} d o (inr k) n = inr (behind-more s.tokens c.last d.last o k)

then-moved : {s c : Input} (d : Input) → c.last ≤ d.last → (s ≡ c) ⊎ Behind s.tokens c.last → Behind c.tokens d.last → Behind s.tokens d.last
then-moved d o (inl e) k = subst (λ x. Behind x.tokens d.last) (sym e) k
then-moved {s = s} {c = c} d o (inr n) k = behind-more s.tokens c.last d.last o n

-- ## Walks

-- other bounds, and spans that are counted anew at the places in between
pub change : {room room' low low' high high' : ℕ} {D E : ℕ → ℕ} {g h : ℕ} {ts us : List Filled} → ((at : ℕ) → low ≤ at → at < high → (low' ≤ at) × (at < high') × ((m : ℕ) → m + D at ≤ room → m + E at ≤ room')) → Walk room D low high g ts h us → Walk room' E low' high' g ts h us
change f stay = stay
change f (step {g = g} {t = t} l m b e w) =
    let at = f t.span.begin l m in
    step at.0 at.1 (at.2 (g + opens_of t.kind) b) e (change f w)

join : {room low high : ℕ} {D : ℕ → ℕ} {g h k : ℕ} {ts us vs : List Filled} → Walk room D low high g ts h us → Walk room D low high h us k vs → Walk room D low high g ts k vs
join stay v = v
join (step l m b e w) v = step l m b e (join w v)

deepen : {room low high : ℕ} {D : ℕ → ℕ} {g h : ℕ} {ts us : List Filled} → Walk room D low high g ts h us → Walk (suc room) D low high (1 + g) ts (1 + h) us
deepen stay = stay
deepen (step l m b e w) = step l m (omega (arith, b)) (omega (arith, e)) (deepen w)

module _ {all : List Filled} where
  begin-walk : (room : ℕ) (D : ℕ → ℕ) (s : Input) (h : ℕ) (m : Mode all) → Walked room D s h s h m m
  begin-walk room D s h still = stay
  begin-walk room D s h (gone l) = tt

  and-walk : (room : ℕ) (D E : ℕ → ℕ) (s c d : Input) (g h k : ℕ) → s.last ≤ c.last → c.last ≤ d.last → ((at : ℕ) → c.last ≤ at → D at ≡ 0) → ((at : ℕ) → at < c.last → E at ≡ 0) → (sm cm dm : Mode all) → ((l : Limit all) → cm ≡ gone l → dm ≡ gone l)
      → Walked room D s g c h sm cm → Walked room E c h d k cm dm → Walked room (λ at. D at + E at) s g d k sm dm
  and-walk room D E s c d g h k o p none-behind none-before still still still f w v = join (change (λ at l m. let z = none-before at m in (l, omega (arith, m, p), λ n i. omega (arith, z, i))) w) (change (λ at l m. let z = none-behind at l in (omega (arith, l, o), m, λ n i. omega (arith, z, i))) v)
  and-walk room D E s c d g h k o p none-behind none-before still still (gone l) f w v = (v.0, join (change (λ at l m. let z = none-before at m in (l, omega (arith, m, p), λ n i. omega (arith, z, i))) w) (change (λ at l m. let z = none-behind at l in (omega (arith, l, o), m, λ n i. omega (arith, z, i))) v.1))
  and-walk room D E s c d g h k o p none-behind none-before still (gone l) dm f w v = subst (λ m. Walked room (λ at. D at + E at) s g d k still m) (sym (f l refl)) (w.0, change (λ at l m. let z = none-before at m in (l, omega (arith, m, p), λ n i. omega (arith, z, i))) w.1)
  and-walk room D E s c d g h k o p none-behind none-before (gone l) cm dm f w v = tt

  change-walk : (room : ℕ) (D E : ℕ → ℕ) (s c d : Input) (g h : ℕ) → c.tokens ≡ d.tokens → ((at : ℕ) → s.last ≤ at → at < c.last → (at < d.last) × (E at ≡ D at)) → (sm cm : Mode all) → Walked room D s g c h sm cm → Walked room E s g d h sm cm
  change-walk room D E s c d g h e f still still w = subst (λ ts. Walk room E s.last d.last g s.tokens h ts) e (change (λ at l m. let z = f at l m in (l, z.0, λ n i. omega (arith, z.1, i))) w)
  change-walk room D E s c d g h e f still (gone l) w = (w.0, change (λ at i m. let z = f at i m in (i, z.0, λ n j. omega (arith, z.1, j))) w.1)
  change-walk room D E s c d g h e f (gone l) cm w = tt

and-moved : (b b' : Bool) (P : Type 0) → (b ≡ true → P) → (b' ≡ true → P) → (b' || b) ≡ true → P
and-moved b true P f k e = k refl
and-moved b false P f k e = f e

module _ {all : List Filled} where
  pub ready : {b : Bool} {room g h : ℕ} {s c : Spot all} {D : ℕ → ℕ} → At b room s g h c D → Ready room h c
  ready a = record { enough = omega (arith, a.balance, a.enough); stands = a.stands; sorted = a.sorted; fits = a.fits }

  begin-claim : (room : ℕ) (s : Spot all) (g last : ℕ) (m : Mode all) (D : ℕ → ℕ) → Claim room s g m m last D
  begin-claim room s g last still D = tt
  begin-claim room s g last (gone l) D = refl

  -- the first reader doesn't read on
  pub stays-gone : (room : ℕ) (s : Spot all) (g last : ℕ) (D : ℕ → ℕ) (sm cm : Mode all) → Claim room s g sm cm last D → (l : Limit all) → sm ≡ gone l → cm ≡ gone l
  stays-gone room s g last D still cm c l k = absurd (cc)
  stays-gone room s g last D (gone l') cm c l k = c ∙ k

  pub begin : {room h : ℕ} (s : Spot all) → Ready room h s → At false room s h h s no_spans
  begin {room = room} {h = h} s r = record {
    balance = refl;
    enough = r.enough;
    stands = r.stands;
    sorted = r.sorted;
    order = omega arith;
    comes = λ n k. k;
    steps = inl refl;
    moved = λ e. absurd (false≢true e);
    fits = r.fits;
    before = λ at l. refl;
    behind = λ at l. refl;
    walk = begin-walk room no_spans s.input h s.mode;
    claim = begin-claim room s h s.input.last s.mode no_spans;
  }

  -- ## What is taken one after another

  and-claim : (room : ℕ) (s c : Spot all) (g h : ℕ) (dm : Mode all) (last : ℕ) (D E : ℕ → ℕ) (sm cm : Mode all) → c.groups + g ≡ s.groups + h → c.input.last ≤ last → ((n : ℕ) → From n s.input.tokens → From n c.input.tokens)
      → Claim room s g sm cm c.input.last D → Claim room c h cm dm last E → Claim room s g sm dm last (λ at. D at + E at)
  and-claim room s c g h still last D E still still e o f p q = tt
  and-claim room s c g h (gone l) last D E still still e o f p q = record { deep = omega (arith, e, q.deep); comes = λ n k. q.comes n (f n k); ends = q.ends }
  and-claim room s c g h dm last D E still (gone l) e o f p q = subst (λ m. Claim room s g still m last (λ at. D at + E at)) (sym q) (record { deep = omega (arith, p.deep); comes = p.comes; ends = omega (arith, p.ends, o) })
  and-claim room s c g h dm last D E (gone l) cm e o f p q = subst (λ m. Claim room c h m dm last E → dm ≡ gone l) (sym p) (λ k. k) q

  -- what was read, and what is read after it
  pub and : {b b' : Bool} {room g h k : ℕ} {s c d : Spot all} {D E : ℕ → ℕ} → At b room s g h c D → At b' room c h k d E → At (b' || b) room s g k d (λ at. D at + E at)
  and {b = b} {b' = b'} {room = room} {g = g} {h = h} {k = k} {s = s} {c = c} {d = d} {D = D} {E = E} a q = record {
    balance = omega (arith, a.balance, q.balance);
    enough = a.enough;
    stands = q.stands;
    sorted = q.sorted;
    order = omega (arith, a.order, q.order);
    comes = λ n k. q.comes n (a.comes n k);
    steps = then-steps d.input q.order a.steps q.steps;
    moved = and-moved b b' (Behind s.input.tokens d.input.last) (λ e. behind-more s.input.tokens c.input.last d.input.last q.order (a.moved e)) (λ e. then-moved d.input q.order a.steps (q.moved e));
    fits = q.fits;
    before = λ at l. omega (arith, a.before at l, q.before at (omega (arith, l, a.order)));
    behind = λ at l. omega (arith, q.behind at l, a.behind at (omega (arith, l, q.order)));
    walk = and-walk room D E s.input c.input d.input g h k a.order q.order a.behind q.before s.mode c.mode d.mode (stays-gone room c h d.input.last E c.mode d.mode q.claim) a.walk q.walk;
    claim = and-claim room s c g h d.mode d.input.last D E s.mode c.mode a.balance q.order a.comes a.claim q.claim;
  }

  pub forget : {b : Bool} {room g h : ℕ} {s c : Spot all} {D : ℕ → ℕ} → At b room s g h c D → At false room s g h c D
  forget a = record {
    balance = a.balance;
    enough = a.enough;
    stands = a.stands;
    sorted = a.sorted;
    order = a.order;
    comes = a.comes;
    steps = a.steps;
    moved = λ e. absurd (false≢true e);
    fits = a.fits;
    before = a.before;
    behind = a.behind;
    walk = a.walk;
    claim = a.claim;
  }

  same-claim : (room : ℕ) (s : Spot all) (g last : ℕ) (D E : ℕ → ℕ) → ((at : ℕ) → D at ≡ E at) → (sm cm : Mode all) → Claim room s g sm cm last D → Claim room s g sm cm last E
  same-claim room s g last D E f still still p = tt
  same-claim room s g last D E f still (gone l) p = record { deep = omega (arith, p.deep, f l.token.span.begin); comes = p.comes; ends = p.ends }
  same-claim room s g last D E f (gone l) cm p = p

  -- as many spans
  pub recount : {b : Bool} {room g h : ℕ} {s c : Spot all} {D E : ℕ → ℕ} → At b room s g h c D → ((at : ℕ) → D at ≡ E at) → At b room s g h c E
  recount {room = room} {g = g} {h = h} {s = s} {c = c} {D = D} {E = E} a f = record {
    balance = a.balance;
    enough = a.enough;
    stands = a.stands;
    sorted = a.sorted;
    order = a.order;
    comes = a.comes;
    steps = a.steps;
    moved = a.moved;
    fits = a.fits;
    before = λ at l. sym (f at) ∙ a.before at l;
    behind = λ at l. sym (f at) ∙ a.behind at l;
    walk = change-walk room D E s.input c.input c.input g h refl (λ at l m. (m, sym (f at))) s.mode c.mode a.walk;
    claim = same-claim room s g c.input.last D E f s.mode c.mode a.claim;
  }

  -- what a tree holds is a sum over its parts, and these were read
  pub finish : {b : Bool} {room g h : ℕ} {s c : Spot all} {D E F : ℕ → ℕ} → At b room s g h c D → ((at : ℕ) → E at ≡ F at) → ((at : ℕ) → D at ≡ F at) → At b room s g h c E
  finish a e f = recount a (λ at. omega (arith, e at, f at))

  -- a part and those after it
  pub first : {A : Type 0} {x : A} {b : Bool} {room g h : ℕ} {s c : Spot all} {D m : ℕ → ℕ} (f : A → ℕ → ℕ) (xs : List A) → At b room s g h c D → ((at : ℕ) → f x at ≡ m at) → ((at : ℕ) → D at ≡ m at + sum_of f xs at) → At b room s g h c (sum_of f (x ∷ xs))
  first f xs a e k = recount a (λ at. omega (arith, e at, k at))

-- ## One construct deeper

-- the span is from the first token to the last one
pub record Within {all : List Filled} (s c : Spot all) (span : Span) : Type 0 where
  pub begins : span.begin ≡ begin_of s.input.tokens
  pub ends : c.input.last ≡ span.end

pub within : {all : List Filled} {s c : Spot all} {span : Span} → span ≡ record { begin = begin_of s.input.tokens; end = c.input.last } → Within s c span
within e = record { begins = rw e refl; ends = rw e refl }

pub same-span : {all : List Filled} {s c : Spot all} {x y : Span} → x ≡ y → Within s c y → Within s c x
same-span {s = s} {c = c} e w = subst (λ z. Within s c z) (sym e) w

pub one-around : (at : ℕ) (span : Span) → span.begin ≤ at → at < span.end → one span at ≡ 1
one-around at span k l = grind (arith, nat_tests)

one-is : (at : ℕ) (span : Span) → one span at ≤ 1
one-is at span = at-most (is_around at span)
  where
    at-most : (b : Bool) → cond b 1 0 ≤ 1
    at-most true = omega arith
    at-most false = omega arith

one-before : (at : ℕ) (span : Span) → at < span.begin → one span at ≡ 0
one-before at span l = grind (arith, nat_tests)

one-behind : (at : ℕ) (span : Span) → span.end ≤ at → one span at ≡ 0
one-behind at span l = grind (arith, nat_tests)

first-begins : (ts : List Filled) (last n : ℕ) → Sorted last ts → Behind ts n → last ≤ begin_of ts
first-begins [] last n w b = absurd b
first-begins (t ∷ ts) last n w b = w.0

module _ {all : List Filled} {s c : Spot all} {span : Span} {D : ℕ → ℕ} (w : Within s c span) where
  pub round-before : Sorted s.input.last s.input.tokens → Behind s.input.tokens c.input.last → ((at : ℕ) → at < s.input.last → D at ≡ 0) → (at : ℕ) → at < s.input.last → one span at + D at ≡ 0
  round-before sorted moved f at l = let low = first-begins s.input.tokens s.input.last c.input.last sorted moved in omega (arith, f at l, one-before at span (omega (arith, l, low, w.begins)))

  pub round-behind : ((at : ℕ) → c.input.last ≤ at → D at ≡ 0) → (at : ℕ) → c.input.last ≤ at → one span at + D at ≡ 0
  round-behind f at l = omega (arith, f at l, one-behind at span (omega (arith, l, w.ends)))

begins-first : (ts : List Filled) → From (begin_of ts) ts
begins-first [] = tt
begins-first (t ∷ ts) = omega arith

module _ {all : List Filled} where
  inside-walk : (room less_ : ℕ) (D : ℕ → ℕ) (s c : Input) (sm cm : Mode all) → room ≡ suc less_ → Walked less_ D s 0 c 0 sm cm → Walked room D s 1 c 1 sm cm
  inside-walk room less_ D s c still still e w = subst (λ n. Walk n D s.last c.last 1 s.tokens 1 c.tokens) (sym e) (deepen w)
  inside-walk room less_ D s c still (gone l) e w = (1 + w.0, subst (λ n. Walk n D s.last c.last 1 s.tokens (1 + w.0) (l.token ∷ l.behind)) (sym e) (deepen w.1))
  inside-walk room less_ D s c (gone l) cm e w = tt

  inside-claim : (room less_ : ℕ) (s : Spot all) (last : ℕ) (D : ℕ → ℕ) (sm cm : Mode all) → room ≡ suc less_ → Claim less_ s 0 sm cm last D → Claim room s 1 sm cm last D
  inside-claim room less_ s last D still still o p = tt
  inside-claim room less_ s last D still (gone l) o p = record { deep = omega (arith, p.deep, o); comes = p.comes; ends = p.ends }
  inside-claim room less_ s last D (gone l) cm o p = p

  -- in a group that the reader opened
  pub inside : {b : Bool} {room less_ : ℕ} {s c : Spot all} {D : ℕ → ℕ} → room ≡ suc less_ → 1 ≤ room → 1 ≤ s.groups → At b less_ s 0 0 c D → At b room s 1 1 c D
  inside {room = room} {less_ = less_} {s = s} {c = c} {D = D} o f e a = record {
    balance = omega (arith, a.balance);
    enough = e;
    stands = a.stands;
    sorted = a.sorted;
    order = a.order;
    comes = a.comes;
    steps = a.steps;
    moved = a.moved;
    fits = λ u. f;
    before = a.before;
    behind = a.behind;
    walk = inside-walk room less_ D s.input c.input s.mode c.mode o a.walk;
    claim = inside-claim room less_ s c.input.last D s.mode c.mode o a.claim;
  }

  round-walk : (room less_ : ℕ) (D : ℕ → ℕ) (span : Span) (s c : Input) (sm cm : Mode all) → room ≡ suc less_ → Walked less_ D s 0 c 0 sm cm → Walked room (λ at. one span at + D at) s 0 c 0 sm cm
  round-walk room less_ D span s c still still e w = change (λ at l m. (l, m, λ n i. omega (arith, i, e, one-is at span))) w
  round-walk room less_ D span s c still (gone l) e w = (w.0, change (λ at i m. (i, m, λ n j. omega (arith, j, e, one-is at span))) w.1)
  round-walk room less_ D span s c (gone l) cm e w = tt

  round-claim : (room less_ : ℕ) (s : Spot all) (last : ℕ) (D : ℕ → ℕ) (span : Span) (sm cm : Mode all) → room ≡ suc less_ → span.begin ≡ begin_of s.input.tokens → last ≡ span.end → Claim less_ s 0 sm cm last D → Claim room s 0 sm cm last (λ at. one span at + D at)
  round-claim room less_ s last D span still still o k n p = tt
  round-claim room less_ s last D span still (gone l) o k n p =
      let at : ℕ = l.token.span.begin in
      let after_ : begin_of s.input.tokens ≤ at = p.comes (begin_of s.input.tokens) (begins-first s.input.tokens) in
      let counts = one-around at span (omega (arith, k, after_)) (omega (arith, p.ends, n)) in
      record { deep = omega (arith, p.deep, o, counts); comes = p.comes; ends = p.ends }
  round-claim room less_ s last D span (gone l) cm o k n p = p

  -- as a construct of its own
  pub surround : {room less_ : ℕ} {s c : Spot all} {D : ℕ → ℕ} (span : Span) → room ≡ suc less_ → Sorted s.input.last s.input.tokens → Within s c span → At true less_ s 0 0 c D → At true room s 0 0 c (λ at. one span at + D at)
  surround {room = room} {less_ = less_} {s = s} {c = c} {D = D} span o sorted w a = record {
    balance = a.balance;
    enough = a.enough;
    stands = a.stands;
    sorted = a.sorted;
    order = a.order;
    comes = a.comes;
    steps = a.steps;
    moved = a.moved;
    fits = λ u. omega arith;
    before = round-before w sorted (a.moved refl) a.before;
    behind = round-behind w a.behind;
    walk = round-walk room less_ D span s.input c.input s.mode c.mode o a.walk;
    claim = round-claim room less_ s c.input.last D span s.mode c.mode o w.begins w.ends a.claim;
  }

-- a part of the reader one construct deeper, as a construct of its own or in a group
abbrev pub Opened : {all : List Filled} → ℕ → ℕ → Spot all → Spot all → (ℕ → ℕ) → (ℕ → ℕ) → Type 0
Opened room zero s c D W = At true room s 0 0 c W
Opened room (suc h) s c D W = At true room s 1 1 c D

-- ## What both readers make of tokens

pub data Held {all : List Filled} {A : Type 0} (m : Mode all) (Q : A → Spot all → Type 0) : Outcome A → Type 0 where
  held : {x : A} {c : Input} {n : ℕ} → Q x (record { mode = m; groups = n; input = c }) → Held m Q (Took x c)
  stops : {stop : Stop} {ts : List Filled} → Held m Q (Fault stop ts)

pub data Runs {all : List Filled} {A : Type 0} (Q : A → Spot all → Type 0) : Mode all → Outcome A → Outcome A → Type 0 where
  alike : {o : Outcome A} → Held still Q o → Runs Q still o o
  went : {l : Limit all} {o : Outcome A} → Held (gone l) Q o → Runs Q still (Fault Depth (l.token ∷ l.behind)) o
  alone : {l : Limit all} {o o' : Outcome A} → Held (gone l) Q o' → Runs Q (gone l) o o'

abbrev pub Deep : {all : List Filled} {A : Type 0} → (A → Spot all → Type 0) → Parser A → Parser A → Spot all → Type 0
Deep Q p p' c = Runs Q c.mode (p c.input) (p' c.input)

module _ {all : List Filled} {A : Type 0} {Q : A → Spot all → Type 0} where
  took-by : (m : Mode all) (n : ℕ) {c : Input} {x : A} → Q x (record { mode = m; groups = n; input = c }) → Runs Q m (Took x c) (Took x c)
  took-by still n q = alike (held q)
  took-by (gone l) n q = alone (held q)

  pub took : {m : Mode all} (n : ℕ) {c : Input} {x : A} → Q x (record { mode = m; groups = n; input = c }) → Runs Q m (Took x c) (Took x c)
  took {m = m} n q = took-by m n q

  fault-by : (m : Mode all) {stop : Stop} {ts : List Filled} → Runs Q m (Fault stop ts) (Fault stop ts)
  fault-by still = alike stops
  fault-by (gone l) = alone stops

  pub fault : {m : Mode all} {stop : Stop} {ts : List Filled} → Runs Q m (Fault stop ts) (Fault stop ts)
  fault {m = m} = fault-by m

  pub refused-holds : (c : Spot all) → Deep Q refused refused c
  unfolding refused
  refused-holds c = fault

  pub no-number-holds : (c : Spot all) → Deep Q no_number no_number c
  unfolding no_number
  no-number-holds c = fault

  pub no-expression-holds : (c : Spot all) → Deep Q no_expression no_expression c
  unfolding no_expression
  no-expression-holds c = fault

  pub went-on : {l : Limit all} {o o' : Outcome A} → Runs Q (gone l) o o' → Runs Q still (Fault Depth (l.token ∷ l.behind)) o'
  went-on (alone h) = went h

  pub by-itself : {l : Limit all} {o o' : Outcome A} (o'' : Outcome A) → Runs Q (gone l) o o' → Runs Q (gone l) o'' o'
  by-itself o'' (alone h) = alone h

module _ {all : List Filled} {A B : Type 0} {P : A → Spot all → Type 0} {Q : B → Spot all → Type 0} where
  pub bind : {m : Mode all} {o o' : Outcome A} (q q' : A → Parser B) → Runs P m o o' → ((x : A) (c : Spot all) → P x c → Deep Q (q x) (q' x) c) → Runs Q m (after o q) (after o' q')
  bind q q' (alike (held p)) f = f _ _ p
  bind q q' (alike stops) f = fault
  bind q q' (went {l = l} (held p)) f = went-on (f _ _ p)
  bind q q' (went {l = l} stops) f = went {l = l} stops
  bind q q' (alone {o = o} (held p)) f = by-itself (after o q) (f _ _ p)
  bind q q' (alone stops) f = alone stops

module _ {all : List Filled} {A : Type 0} {P Q : A → Spot all → Type 0} where
  weaken-held : {m : Mode all} {o : Outcome A} → Held m P o → ((x : A) (c : Spot all) → P x c → Q x c) → Held m Q o
  weaken-held (held p) f = held (f _ _ p)
  weaken-held stops f = stops

  pub weaken : {m : Mode all} {o o' : Outcome A} → Runs P m o o' → ((x : A) (c : Spot all) → P x c → Q x c) → Runs Q m o o'
  weaken (alike h) f = alike (weaken-held h f)
  weaken (went h) f = went (weaken-held h f)
  weaken (alone h) f = alone (weaken-held h f)

-- ## Tokens

later-claim : {all : List Filled} (room g : ℕ) (s : Spot all) (D : ℕ → ℕ) (sm cm : Mode all) (last last' : ℕ) → last ≤ last' → Claim room s g sm cm last D → Claim room s g sm cm last' D
later-claim room g s D still still last last' o p = tt
later-claim room g s D still (gone l) last last' o p = record { deep = p.deep; comes = p.comes; ends = omega (arith, p.ends, o) }
later-claim room g s D (gone l) cm last last' o p = p

from-next : (x : ℕ) (t : Filled) (ts : List Filled) → Sorted t.span.end ts → t.span.begin ≤ t.span.end → x ≤ t.span.begin → From x ts
from-next x t [] w o k = tt
from-next x t (u ∷ ts) w o k = omega (arith, w.0, o, k)

step-over : (i : Input) (t : Filled) (ts : List Filled) (last : ℕ) → last ≤ t.span.begin → t.span.begin ≤ t.span.end → (i ≡ record { tokens = t ∷ ts; last = last }) ⊎ Behind i.tokens last → Behind i.tokens t.span.end
step-over i t ts last o k (inl e) = subst (λ x. Behind x.tokens t.span.end) (sym e) (omega arith)
step-over i t ts last o k (inr l) = behind-more i.tokens last t.span.end (omega (arith, o, k)) l

over-walk : {all : List Filled} (room : ℕ) (D : ℕ → ℕ) (s : Input) (g h k : ℕ) (t : Filled) (ts : List Filled) (last : ℕ) (sm m : Mode all) → s.last ≤ last → last ≤ t.span.begin → t.span.begin < t.span.end → D t.span.begin ≡ 0 → (m ≡ still → h + opens_of t.kind ≤ room) → h + opens_of t.kind ≡ k + closes_of t.kind
    → Walked room D s g (record { tokens = t ∷ ts; last = last }) h sm m → Walked room D s g (record { tokens = ts; last = t.span.end }) k sm m
over-walk room D s g h k t ts last still still o p long none b e w = join (change (λ at l m. (l, omega (arith, m, p, long), λ n i. i)) w) (step (omega (arith, o, p)) long (omega (arith, b refl, none)) e stay)
over-walk room D s g h k t ts last still (gone l) o p long none b e w = (w.0, change (λ at i m. (i, omega (arith, m, p, long), λ n j. j)) w.1)
over-walk room D s g h k t ts last (gone l) m o p long none b e w = tt

-- a token that opens and closes so many groups
module _ {all : List Filled} {b : Bool} {room g h k : ℕ} {s : Spot all} {D : ℕ → ℕ} (m : Mode all) (n n' : ℕ) where
  over : (t : Filled) (ts : List Filled) (last : ℕ) → At b room s g h (record { mode = m; groups = n; input = record { tokens = t ∷ ts; last = last } }) D → is_end t ≡ false → (m ≡ still → h + opens_of t.kind ≤ room) → (m ≡ still → k ≤ room) → h + opens_of t.kind ≡ k + closes_of t.kind → n + opens_of t.kind ≡ n' + closes_of t.kind
      → At true room s g k (record { mode = m; groups = n'; input = record { tokens = ts; last = t.span.end } }) D
  over t ts last a inner u v e f =
      let long = a.sorted.1 inner in
      let last-is = a.sorted.0 in
      let behind : Behind s.input.tokens t.span.end = step-over s.input t ts last last-is (omega (arith, long)) a.steps in
      record {
        balance = omega (arith, a.balance, e, f);
        enough = a.enough;
        stands = further a.stands f;
        sorted = a.sorted.2;
        order = omega (arith, a.order, last-is, long);
        comes = λ x u. from-next x t ts a.sorted.2 (omega (arith, long)) (a.comes x u);
        steps = inr behind;
        moved = λ u. behind;
        fits = v;
        before = a.before;
        behind = λ at i. a.behind at (omega (arith, i, last-is, long));
        walk = over-walk room D s.input g h k t ts last s.mode m a.order last-is long (a.behind t.span.begin last-is) u e a.walk;
        claim = later-claim room g s D s.mode m last t.span.end (omega (arith, last-is, long)) a.claim;
      }

module _ {all : List Filled} {B : Type 0} {b : Bool} {room g : ℕ} {s : Spot all} {D : ℕ → ℕ} {test : Filled → Option B} (m : Mode all) (n : ℕ) where
  passed-at : {h : ℕ} {x : B} {c d : Input} → Knows 0 0 test → At b room s g h (record { mode = m; groups = n; input = c }) D → Taken test c x d → At true room s g h (record { mode = m; groups = n; input = d }) D
  passed-at f a (taken {t = t} {ts = ts} {last = last} {x = x} e) = let q = f t x e in over m n n t ts last a q.2 (λ u. omega (arith, q.0, a.fits u)) a.fits (omega (arith, q.0, q.1)) (omega (arith, q.0, q.1))

  entered-at : {x : B} {c d : Input} → Knows 1 0 test → (m ≡ still → 1 ≤ room) → At b room s g 0 (record { mode = m; groups = n; input = c }) D → Taken test c x d → At true room s g 1 (record { mode = m; groups = suc n; input = d }) D
  entered-at f v a (taken {t = t} {ts = ts} {last = last} {x = x} e) = let q = f t x e in over m n (suc n) t ts last a q.2 (λ u. omega (arith, q.0, v u)) v (omega (arith, q.0, q.1)) (omega (arith, q.0, q.1))

  left-at : {x : B} {c d : Input} → Knows 0 1 test → At b room s g 1 (record { mode = m; groups = n; input = c }) D → Taken test c x d → At true room s g 0 (record { mode = m; groups = n - 1; input = d }) D
  left-at f a (taken {t = t} {ts = ts} {last = last} {x = x} e) = let q = f t x e in over m n (n - 1) t ts last a q.2 (λ u. omega (arith, q.0, a.fits u)) (λ u. omega arith) (omega (arith, q.0, q.1)) (omega (arith, q.0, q.1, a.balance, a.enough))

-- ## Readers

module _ {all : List Filled} {A B : Type 0} {Q : A → Spot all → Type 0} where
  on-known : (test : Filled → Option B) (p p' : B → Parser A) (q q' : Parser A) (m : Mode all) (t : Filled) (ts : List Filled) (last : ℕ) (v : Option B) → test t ≡ v → ((x : B) (d : Input) → Taken test (record { tokens = t ∷ ts; last = last }) x d → Runs Q m (p x d) (p' x d))
      → Runs Q m (q (record { tokens = t ∷ ts; last = last })) (q' (record { tokens = t ∷ ts; last = last })) → Runs Q m (on_taken v t ts p q (record { tokens = t ∷ ts; last = last })) (on_taken v t ts p' q' (record { tokens = t ∷ ts; last = last }))
  on-known test p p' q q' m t ts last (Some x) e f g = f x _ (taken e)
  on-known test p p' q q' m t ts last None e f g = g

  pub on-both : (test : Filled → Option B) (p p' : B → Parser A) (q q' : Parser A) (m : Mode all) (c : Input) → ((x : B) (d : Input) → Taken test c x d → Runs Q m (p x d) (p' x d)) → Runs Q m (q c) (q' c) → Runs Q m (on test p q c) (on test p' q' c)
  on-both test p p' q q' m c f g = by c.tokens c.last f g
    where
      by : (ts : List Filled) (last : ℕ) → ((x : B) (d : Input) → Taken test (record { tokens = ts; last = last }) x d → Runs Q m (p x d) (p' x d)) → Runs Q m (q (record { tokens = ts; last = last })) (q' (record { tokens = ts; last = last }))
          → Runs Q m (on test p q (record { tokens = ts; last = last })) (on test p' q' (record { tokens = ts; last = last }))
      by [] last f g = g
      by (t ∷ ts) last f g = on-known test p p' q q' m t ts last (test t) refl f g

  pub next : {b : Bool} {room g h : ℕ} {s c : Spot all} {D : ℕ → ℕ} {test : Filled → Option B} → Knows 0 0 test → (p p' : B → Parser A) (q q' : Parser A) → At b room s g h c D
      → ((x : B) (d : Spot all) → Taken test c.input x d.input → At true room s g h d D → Deep Q (p x) (p' x) d) → Deep Q q q' c → Deep Q (on test p q) (on test p' q') c
  next {c = c} {test = test} f p p' q q' a k l = on-both test p p' q q' c.mode c.input (λ x d e. k x (record { mode = c.mode; groups = c.groups; input = d }) e (passed-at c.mode c.groups f a e)) l

  pub ends : {b : Bool} {room g : ℕ} {s c : Spot all} {D : ℕ → ℕ} {test : Filled → Option B} → Knows 0 1 test → (p p' : B → Parser A) (q q' : Parser A) → At b room s g 1 c D
      → ((x : B) (d : Spot all) → At true room s g 0 d D → Deep Q (p x) (p' x) d) → Deep Q q q' c → Deep Q (on test p q) (on test p' q') c
  ends {c = c} {test = test} f p p' q q' a k l = on-both test p p' q q' c.mode c.input (λ x d e. k x (record { mode = c.mode; groups = c.groups - 1; input = d }) (left-at c.mode c.groups f a e)) l

module _ {all : List Filled} {B : Type 0} {b : Bool} {room g h : ℕ} {s c : Spot all} {D : ℕ → ℕ} {test : Filled → Option B} where
  pub take : Knows 0 0 test → At b room s g h c D → Deep (λ (x : B) d. At true room s g h d D) (take_as test) (take_as test) c
  take f a = next f _ _ refused refused a (λ x d e k. took _ k) (refused-holds c)

module _ {all : List Filled} {B : Type 0} {b : Bool} {room g : ℕ} {s c : Spot all} {D : ℕ → ℕ} {test : Filled → Option B} where
  pub close : Knows 0 1 test → At b room s g 1 c D → Deep (λ (x : B) d. At true room s g 0 d D) (take_as test) (take_as test) c
  close f a = ends f _ _ refused refused a (λ x d k. took _ k) (refused-holds c)

module _ {all : List Filled} {A : Type 0} {Q : A → Spot all → Type 0} where
  pub either : (v : Bool) (p p' q q' : Parser A) (c : Spot all) → Deep Q p p' c → Deep Q q q' c → Deep Q (choose v p q) (choose v p' q') c
  either true p p' q q' c f g = f
  either false p p' q q' c f g = g

  pub either-by : (v : Bool) (p p' q q' : Parser A) (c : Spot all) → (v ≡ true → Deep Q p p' c) → (v ≡ false → Deep Q q q' c) → Deep Q (choose v p q) (choose v p' q') c
  either-by true p p' q q' c f g = f refl
  either-by false p p' q q' c f g = g refl

  pub looks-yes : (test : Filled → Bool) (p p' q q' : Parser A) (c : Spot all) → (next_is test c.input.tokens ≡ true → Deep Q p p' c) → Deep Q q q' c → Deep Q (if_next test p q) (if_next test p' q') c
  looks-yes test p p' q q' c f g = by (next_is test c.input.tokens) refl
    where
      by : (v : Bool) → next_is test c.input.tokens ≡ v → Deep Q (choose v p q) (choose v p' q') c
      by true e = f e
      by false e = g

  pub looks : (test : Filled → Bool) (p p' q q' : Parser A) (c : Spot all) → Deep Q p p' c → Deep Q q q' c → Deep Q (if_next test p q) (if_next test p' q') c
  looks test p p' q q' c f g = either (next_is test c.input.tokens) p p' q q' c f g

-- how the second of two readers goes on where the first one may open no more
pub record Opens (i j : Inner) (room : ℕ) : Type 0 where
  pub none : i.may_open ≡ false → j.may_open ≡ true → room ≡ 0
  pub both : i.may_open ≡ true → j.may_open ≡ true
  pub some : i.may_open ≡ true → 1 ≤ room

limit-claim : {all : List Filled} (room g : ℕ) (s : Spot all) (l : Limit all) (n last : ℕ) (D : ℕ → ℕ) (sm : Mode all) → Claim room s g sm still n D → Bound room s g last l D → Claim room s g sm (gone l) last D
limit-claim room g s l n last D still c f = f
limit-claim room g s l n last D (gone l') c f = absurd (cc)

limit-walk : {all : List Filled} (room : ℕ) (D : ℕ → ℕ) (s : Input) (g : ℕ) (l : Limit all) (last : ℕ) (c : Input) (sm : Mode all) → last ≤ c.last → Walked room D s g (record { tokens = l.token ∷ l.behind; last = last }) 0 sm still → Walked room D s g c 1 sm (gone l)
limit-walk room D s g l last c still o w = (0, change (λ at i m. (i, omega (arith, m, o), λ n j. j)) w)
limit-walk room D s g l last c (gone l') o w = tt

-- the first reader stops at the token, and the second one takes it
at-limit : {all : List Filled} {B : Type 0} {b : Bool} {room g : ℕ} {s : Spot all} {D : ℕ → ℕ} (test : Filled → Option B) (knows : Knows 1 0 test) → room ≡ 0 → (t : Filled) (ts : List Filled) (last n : ℕ) (x : B) → test t ≡ Some x
    → At b room s g 0 (record { mode = still; groups = n; input = record { tokens = t ∷ ts; last = last } }) D
    → (stands : Stands all n (t ∷ ts)) → At true room s g 1 (record { mode = gone (record { token = t; behind = ts; groups = n; stands = stands }); groups = suc n; input = record { tokens = ts; last = t.span.end } }) D
at-limit {room = room} {g = g} {s = s} {D = D} test knows e t ts last n x k a stands =
    let q = knows t x k in
    let long = a.sorted.1 q.2 in
    let behind : Behind s.input.tokens t.span.end = step-over s.input t ts last a.sorted.0 (omega (arith, long)) a.steps in
    record {
      balance = omega (arith, a.balance);
      enough = a.enough;
      stands = further stands (omega (arith, q.0, q.1));
      sorted = a.sorted.2;
      order = omega (arith, a.order, a.sorted.0, long);
      comes = λ y u. from-next y t ts a.sorted.2 (omega (arith, long)) (a.comes y u);
      steps = inr behind;
      moved = λ u. behind;
      fits = λ u. absurd (cc);
      before = a.before;
      behind = λ at i. a.behind at (omega (arith, i, a.sorted.0, long));
      walk = limit-walk room D s.input g (record { token = t; behind = ts; groups = n; stands = stands }) last (record { tokens = ts; last = t.span.end }) s.mode (omega (arith, a.sorted.0, long)) a.walk;
      claim = limit-claim room g s (record { token = t; behind = ts; groups = n; stands = stands }) last t.span.end D s.mode a.claim (record { deep = omega (arith, e, q.0, a.balance); comes = λ m u. a.comes m u; ends = long });
    }

module _ {all : List Filled} {A B : Type 0} {Q : A → Spot all → Type 0} (i j : Inner) {room g : ℕ} (w : Opens i j room) {s : Spot all} {D : ℕ → ℕ} (test : Filled → Option B) (knows : Knows 1 0 test) (p p' : B → Parser A) (q q' : Parser A) where
  group-known : (t : Filled) (ts : List Filled) (last n : ℕ) (x : B) → test t ≡ Some x → (m : Mode all) {b : Bool} → At b room s g 0 (record { mode = m; groups = n; input = record { tokens = t ∷ ts; last = last } }) D
      → ((x : B) (d : Spot all) → At true room s g 1 d D → Deep Q (p x) (p' x) d) → (u v : Bool) → i.may_open ≡ u → j.may_open ≡ v → Runs Q m (choose u (on test p q) (fails Depth) (record { tokens = t ∷ ts; last = last })) (choose v (on test p' q') (fails Depth) (record { tokens = t ∷ ts; last = last }))
  group-known t ts last n x k m a f true true e r =
      subst (λ o. Runs Q m (on_taken o t ts p q (record { tokens = t ∷ ts; last = last })) (on_taken o t ts p' q' (record { tokens = t ∷ ts; last = last }))) (sym k) (f x (record { mode = m; groups = suc n; input = record { tokens = ts; last = t.span.end } }) (entered-at m n knows (λ u. w.some e) a (taken k)))
  group-known t ts last n x k m a f true false e r = absurd (false≢true (sym r ∙ w.both e))
  group-known t ts last n x k m a f false false e r = fault
  group-known t ts last n x k m a f false true e r = by m a
    where
      by : (m : Mode all) {b : Bool} → At b room s g 0 (record { mode = m; groups = n; input = record { tokens = t ∷ ts; last = last } }) D → Runs Q m (Fault Depth (t ∷ ts)) (on test p' q' (record { tokens = t ∷ ts; last = last }))
      by still a = subst (λ o. Runs Q still (Fault Depth (t ∷ ts)) (on_taken o t ts p' q' (record { tokens = t ∷ ts; last = last }))) (sym k)
          (went-on {l = record { token = t; behind = ts; groups = n; stands = a.stands }} (f x (record { mode = gone (record { token = t; behind = ts; groups = n; stands = a.stands }); groups = suc n; input = record { tokens = ts; last = t.span.end } }) (at-limit test knows (w.none e r) t ts last n x k a a.stands)))
      by (gone l) a = subst (λ o. Runs Q (gone l) (Fault Depth (t ∷ ts)) (on_taken o t ts p' q' (record { tokens = t ∷ ts; last = last }))) (sym k)
          (by-itself (Fault Depth (t ∷ ts)) (f x (record { mode = gone l; groups = suc n; input = record { tokens = ts; last = t.span.end } }) (entered-at (gone l) n knows (λ u. absurd (cc)) a (taken k))))

  module _ (opening : Filled → Bool) (known : (t : Filled) → opening t ≡ true → (x : B) × (test t ≡ Some x)) where
    group-next : (t : Filled) (ts : List Filled) (last n : ℕ) (v : Bool) → opening t ≡ v → (m : Mode all) {b : Bool} → At b room s g 0 (record { mode = m; groups = n; input = record { tokens = t ∷ ts; last = last } }) D
        → ((x : B) (d : Spot all) → At true room s g 1 d D → Deep Q (p x) (p' x) d) → Runs Q m (q (record { tokens = t ∷ ts; last = last })) (q' (record { tokens = t ∷ ts; last = last }))
        → Runs Q m (choose v (choose i.may_open (on test p q) (fails Depth)) q (record { tokens = t ∷ ts; last = last })) (choose v (choose j.may_open (on test p' q') (fails Depth)) q' (record { tokens = t ∷ ts; last = last }))
    group-next t ts last n true e m a f k = let z = known t e in group-known t ts last n z.0 z.1 m a f i.may_open j.may_open refl refl
    group-next t ts last n false e m a f k = k

    group-from : (ts : List Filled) (last n : ℕ) (m : Mode all) {b : Bool} → At b room s g 0 (record { mode = m; groups = n; input = record { tokens = ts; last = last } }) D
        → ((x : B) (d : Spot all) → At true room s g 1 d D → Deep Q (p x) (p' x) d) → Runs Q m (q (record { tokens = ts; last = last })) (q' (record { tokens = ts; last = last }))
        → Runs Q m (choose (next_is opening ts) (choose i.may_open (on test p q) (fails Depth)) q (record { tokens = ts; last = last })) (choose (next_is opening ts) (choose j.may_open (on test p' q') (fails Depth)) q' (record { tokens = ts; last = last }))
    group-from [] last n m a f k = k
    group-from (t ∷ ts) last n m a f k = group-next t ts last n (opening t) refl m a f k

mark-known : (m : Mark) (t : Filled) → next_mark m t ≡ true → (x : Filled) × (mark m t ≡ Some x)
mark-known m t e = (t, ap (λ v. kept_if v t) e)

module _ {all : List Filled} {A : Type 0} {Q : A → Spot all → Type 0} where
  pub opening : {B : Type 0} {b : Bool} {room g : ℕ} {s c : Spot all} {D : ℕ → ℕ} (i j : Inner) (test : Filled → Option B) (opens : Filled → Bool) → ((t : Filled) → opens t ≡ true → (x : B) × (test t ≡ Some x)) → (p p' : B → Parser A) (q q' : Parser A) → Opens i j room → Knows 1 0 test → At b room s g 0 c D
      → ((x : B) (d : Spot all) → At true room s g 1 d D → Deep Q (p x) (p' x) d) → Deep Q q q' c → Deep Q (if_next opens (choose i.may_open (on test p q) (fails Depth)) q) (if_next opens (choose j.may_open (on test p' q') (fails Depth)) q') c
  opening {c = c} i j test opens known p p' q q' w e a f k = group-from i j w test e p p' q q' opens known c.input.tokens c.input.last c.groups c.mode a f k

  pub group : {b : Bool} {room g : ℕ} {s c : Spot all} {D : ℕ → ℕ} (i j : Inner) (m : Mark) (p p' q q' : Parser A) → Opens i j room → Groups 1 0 (Read (kinds.Punctuator m)) → At b room s g 0 c D
      → ((d : Spot all) → At true room s g 1 d D → Deep Q p p' d) → Deep Q q q' c → Deep Q (on_group i m p q) (on_group j m p' q') c
  group i j m p p' q q' w e a f k = opening i j (mark m) (next_mark m) (mark-known m) (λ t. p) (λ t. p') q q' w (of-mark m e) a (λ x d o. f d o) k
