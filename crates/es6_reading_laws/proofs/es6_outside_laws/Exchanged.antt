-- A reader of tokens up to one that tells of a construct outside the profile, side by side with the same reader, with more turns, of
-- tokens that have another token in its place.
use Rattle.std.specs.Prelude.{codes, ◌⊎◌, pos}
use Rattle.std.proofs.Common.{◌≡◌, ◌∙◌, inl, inr, ℕ, ◌≤◌, Bool, true, false, List, [], ◌∷◌, Option, Some, None, refl, sym, ap, subst}
use Rattle.es_text.specs.declared.Span.{Span}
use Rattle.es6_lexer.specs.declared.token.TokenKind.{TokenKind}
use Rattle.es6_lexer.specs.declared.token.TokenKind.TheVariants.{Word, Punctuator, Number}
use Rattle.es6_lexer.specs.declared.token.NumberToken.TheVariants.{Whole, TooLarge, Marked}
use Rattle.es6_lexer.specs.declared.token.Punctuator.TheVariants.{Slash, SlashAssign, Exclamation}
use Rattle.es6_ast.specs.declared.settings.Stop.{Stop}
use Rattle.es6_ast.specs.declared.settings.Stop.TheVariants.{Depth, Endless, Outside, Syntax}
use Rattle.es6_ast.specs.Tokens.{Filled, Read}
use Rattle.es6_reading.specs.Laws.{IsFinal}
use Rattle.es6_reading.specs.Parser.{Input, Outcome, Took, Fault, Parser, after, on, on_taken, choose, if_next, from}

-- ## The tokens

-- The kind of a token, those that take its place, the rule by which it is reported, and whether the second of them mustn't go on
-- there.
pub data Exchange : TokenKind → TokenKind → TokenKind → ℕ → Bool → Type 0 where
  for_in : Exchange (Word (codes "in")) (Word (codes "of")) (Word (codes "from")) 1 true
  slash : Exchange (Punctuator Slash) (Punctuator Exclamation) (Punctuator Exclamation) 2 false
  slash_assign : Exchange (Punctuator SlashAssign) (Punctuator Exclamation) (Punctuator Exclamation) 2 false
  marked : Exchange (Number Marked) (Number (Whole (pos 0))) (Number (Whole (pos 0))) 3 false
  too_large : Exchange (Number TooLarge) (Number (Whole (pos 0))) (Number (Whole (pos 0))) 4 false
  with_ : Exchange (Word (codes "with")) (Word (codes "debugger")) (Word (codes "debugger")) 5 false

-- such a token, whatever it spans and whether it begins a line, with the kinds that take its place
pub record Place : Type 0 where
  pub kind : TokenKind
  pub one : TokenKind
  pub two : TokenKind
  pub rule : ℕ
  pub strict : Bool
  pub exchange : Exchange kind one two rule strict
  pub span : Span
  pub newline : Bool

abbrev pub at_kind : Span → Bool → TokenKind → Filled
at_kind span newline k = record { kind = Read k; span = span; newline = newline }

-- the token itself, and the two others
abbrev pub it : Place → Filled
it e = at_kind e.span e.newline e.kind

abbrev pub one_of : Place → Filled
one_of e = at_kind e.span e.newline e.one

abbrev pub two_of : Place → Filled
two_of e = at_kind e.span e.newline e.two

-- tokens up to it, and the same up to the two others
pub data Lock (e : Place) : List Filled → List Filled → List Filled → Type 0 where
  last_one : Lock e (it e ∷ []) (one_of e ∷ []) (two_of e ∷ [])
  further : {ts us vs : List Filled} (t : Filled) → Lock e ts us vs → Lock e (t ∷ ts) (t ∷ us) (t ∷ vs)

abbrev pub input : List Filled → ℕ → Input
input ts last = record { tokens = ts; last = last }

abbrev pub none : ℕ → Input
none last = record { tokens = []; last = last }

-- ## What readers make of them

abbrev pub left : {A : Type 0} → Outcome A → List Filled
left (Took x c) = c.tokens
left (Fault stop ts) = ts

abbrev pub Any : {A : Type 0} → A → Type 0
Any x = Unit {0}

-- nothing is left, and no turns were wanting
abbrev pub Over : {A : Type 0} → (A → Type 0) → Outcome A → Type 0
Over W (Took x c) = (c.tokens ≡ []) × W x
Over W (Fault stop ts) = (stop ≡ Endless → ⊥) × (ts ≡ [])

-- it went over the token, or it stops there for depth: in both cases something goes on with the token
abbrev pub Now : {A : Type 0} → (A → Type 0) → Filled → Outcome A → Type 0
Now W t o = Over W o ⊎ (o ≡ Fault Depth (t ∷ []))

-- so it is with turns enough
abbrev pub Ahead : {A : Type 0} → (A → Type 0) → Filled → (ℕ → Outcome A) → Type 0
Ahead W t os = (b : ℕ) × ((l : ℕ) → b ≤ l → Now W t (os l))

-- it stops there, but for no limit
abbrev pub Stuck : {A : Type 0} → Filled → (ℕ → Outcome A) → Type 0
Stuck t os = (l : ℕ) → (stop : Stop) × (os l ≡ Fault stop (t ∷ [])) × IsFinal stop

-- What a fault of the first reader at the token says of the others, which have more turns: where it reports the construct outside the
-- profile, the second one goes on, and the third one stops if it has to; where it reports another, the second one stops, or the third one
-- goes on, of for-in. At a limit nothing is said.
pub data Told (e : Place) {A : Type 0} (W : A → Type 0) (os ps : ℕ → Outcome A) : Stop → Type 0 where
  outside : Ahead W (one_of e) os → (e.strict ≡ true → Stuck (two_of e) ps) → Told e W os ps (Outside e.rule)
  stuck : {stop : Stop} → (stop ≡ Outside e.rule → ⊥) → Stuck (one_of e) os → Told e W os ps stop
  passed : {stop : Stop} → (stop ≡ Outside e.rule → ⊥) → e.strict ≡ true → Ahead W (two_of e) ps → Told e W os ps stop
  limit : {stop : Stop} → (IsFinal stop → ⊥) → Told e W os ps stop

-- What three readers make of such tokens: they took the same up to the token or before it, the first one took it or stopped behind it, it
-- stopped before it, or at it.
pub data Rel (e : Place) {A : Type 0} (W : A → Type 0) (os ps : ℕ → Outcome A) : Outcome A → Type 0 where
  both : {x : A} {ts us vs : List Filled} {last : ℕ} → Lock e ts us vs → ((l : ℕ) → os l ≡ Took x (record { tokens = us; last = last })) → ((l : ℕ) → ps l ≡ Took x (record { tokens = vs; last = last })) → Rel e W os ps (Took x (record { tokens = ts; last = last }))
  gone : {o : Outcome A} → left o ≡ [] → Rel e W os ps o
  before : {stop : Stop} {t : Filled} {ts us vs : List Filled} → Lock e ts us vs → Rel e W os ps (Fault stop (t ∷ ts))
  here : {stop : Stop} → Told e W os ps stop → Rel e W os ps (Fault stop (it e ∷ []))

-- what is made of tokens of which the first one is the same
abbrev pub Further : (e : Place) → {A : Type 0} → (A → Type 0) → Parser A → (ℕ → Parser A) → Type 0
Further e W p p' = (ts us vs : List Filled) (t : Filled) → Lock e ts us vs → (last : ℕ) → Rel e W (λ l. p' l (input (t ∷ us) last)) (λ l. p' l (input (t ∷ vs) last)) (p (input (t ∷ ts) last))

-- three readers side by side up to the token, and at it under a condition; the first one alone takes nothing where nothing is left
pub record Onward (e : Place) {A : Type 0} (C : Type 0) (W : A → Type 0) (p : Parser A) (p' : ℕ → Parser A) : Type 0 where
  pub more : Further e W p p'
  pub there : C → (last : ℕ) → Rel e W (λ l. p' l (input (one_of e ∷ []) last)) (λ l. p' l (input (two_of e ∷ []) last)) (p (input (it e ∷ []) last))
  pub first : (last : ℕ) → left (p (none last)) ≡ []

-- and a reader with more turns doesn't want for them there, and gives what is so
pub record KeepsIf (e : Place) {A : Type 0} (C : Type 0) (W : A → Type 0) (p : Parser A) (p' : ℕ → Parser A) : Type 0 where
  pub onward : Onward e C W p p'
  pub second : (l last : ℕ) → Over W (p' l (none last))

abbrev pub Keeps : Place → {A : Type 0} → Parser A → (ℕ → Parser A) → Type 0
Keeps e p p' = KeepsIf e (Unit {0}) Any p p'

-- ## Sequences

-- a syntax fault at the end
pub stopped : (Syntax ≡ Endless → ⊥) × (◌≡◌ {A = List Filled} [] [])
stopped = ((λ k. absurd (cc)), refl)

module _ {e : Place} {A : Type 0} {W : A → Type 0} where
  swap-told : {os ps os' ps' : ℕ → Outcome A} {stop : Stop} → ((l : ℕ) → os' l ≡ os l) → ((l : ℕ) → ps' l ≡ ps l) → Told e W os ps stop → Told e W os' ps' stop
  swap-told h k (outside a s) = outside (a.0, λ l m. subst (λ o. Now W (one_of e) o) (sym (h l)) (a.1 l m)) (λ y l. let q = s y l in (q.0, k l ∙ q.1, q.2))
  swap-told h k (stuck n s) = stuck n (λ l. let q = s l in (q.0, h l ∙ q.1, q.2))
  swap-told h k (passed n y a) = passed n y (a.0, λ l m. subst (λ o. Now W (two_of e) o) (sym (k l)) (a.1 l m))
  swap-told h k (limit n) = limit n

  pub swap : {os ps os' ps' : ℕ → Outcome A} {o : Outcome A} → ((l : ℕ) → os' l ≡ os l) → ((l : ℕ) → ps' l ≡ ps l) → Rel e W os ps o → Rel e W os' ps' o
  swap h k (both m a b) = both m (λ l. h l ∙ a l) (λ l. k l ∙ b l)
  swap h k (gone n) = gone n
  swap h k (before m) = before m
  swap h k (here t) = here (swap-told h k t)

  pub locked : {p : Parser A} {p' : ℕ → Parser A} → Onward e (Unit {0}) W p p' → {ts us vs : List Filled} → Lock e ts us vs → (last : ℕ) → Rel e W (λ l. p' l (input us last)) (λ l. p' l (input vs last)) (p (input ts last))
  locked k last_one last = k.there tt last
  locked k (further {ts = ts} {us = us} {vs = vs} t m) last = k.more ts us vs t m last

  pub onward-along : {C : Type 0} {p : Parser A} {p' p'' : ℕ → Parser A} → ((l : ℕ) → p'' l ≡ p' l) → Onward e C W p p' → Onward e C W p p''
  onward-along h k = record {
    more = λ ts us vs t m last. swap (λ l. ap (λ q. q (input (t ∷ us) last)) (h l)) (λ l. ap (λ q. q (input (t ∷ vs) last)) (h l)) (k.more ts us vs t m last);
    there = λ c last. swap (λ l. ap (λ q. q (input (one_of e ∷ []) last)) (h l)) (λ l. ap (λ q. q (input (two_of e ∷ []) last)) (h l)) (k.there c last);
    first = k.first;
  }

  pub along : {C : Type 0} {p : Parser A} {p' p'' : ℕ → Parser A} → ((l : ℕ) → p'' l ≡ p' l) → KeepsIf e C W p p' → KeepsIf e C W p p''
  along h k = record { onward = onward-along h k.onward; second = λ l last. subst (λ q. Over W (q (none last))) (sym (h l)) (k.second l last) }

  pub easier : {C D : Type 0} {p : Parser A} {p' : ℕ → Parser A} → (D → C) → KeepsIf e C W p p' → KeepsIf e D W p p'
  easier f k = record { onward = record { more = k.onward.more; there = λ d last. k.onward.there (f d) last; first = k.onward.first }; second = k.second }

pub over-bind : {A B : Type 0} (W : A → Type 0) (V : B → Type 0) (o : Outcome A) (q : A → Parser B) → Over W o → ((x : A) → W x → (last : ℕ) → Over V (q x (none last))) → Over V (after o q)
over-bind W V (Took x c) q h f = subst (λ ts. Over V (q x (input ts c.last))) (sym h.0) (f x h.1 c.last)
over-bind W V (Fault stop ts) q h f = h

pub gone-bind : {A B : Type 0} (o : Outcome A) (q : A → Parser B) → left o ≡ [] → ((x : A) (last : ℕ) → left (q x (none last)) ≡ []) → left (after o q) ≡ []
gone-bind (Took x c) q h f = subst (λ ts. left (q x (input ts c.last)) ≡ []) (sym h) (f x c.last)
gone-bind (Fault stop ts) q h f = h

seen-gone : {A B : Type 0} (p : Parser A) (s : Input) (q : A → Parser B) (o : Outcome A) → p s ≡ o → left o ≡ [] → ((x : A) (c : Input) → p s ≡ Took x c → (last : ℕ) → left (q x (none last)) ≡ []) → left (after o q) ≡ []
seen-gone p s q (Took x c) y h f = subst (λ ts. left (q x (input ts c.last)) ≡ []) (sym h) (f x c y c.last)
seen-gone p s q (Fault stop ts) y h f = h

now-bind : {A B : Type 0} (W : A → Type 0) (V : B → Type 0) (o : Outcome A) (q : A → Parser B) (t : Filled) → Now W t o → ((x : A) → W x → (last : ℕ) → Over V (q x (none last))) → Now V t (after o q)
now-bind W V o q t (inl h) f = inl (over-bind W V o q h f)
now-bind W V o q t (inr h) f = inr (ap (λ o. after o q) h)

module _ {e : Place} {A B : Type 0} {W : A → Type 0} {V : B → Type 0} where
  pub told-bind : {os ps : ℕ → Outcome A} (q' : ℕ → A → Parser B) {stop : Stop} → Told e W os ps stop → ((x : A) → W x → (l last : ℕ) → Over V (q' l x (none last))) → Told e V (λ l. after (os l) (q' l)) (λ l. after (ps l) (q' l)) stop
  told-bind {os = os} q' (outside a s) f = outside (a.0, λ l m. now-bind W V (os l) (q' l) (one_of e) (a.1 l m) (λ x w last. f x w l last)) (λ y l. let q = s y l in (q.0, ap (λ o. after o (q' l)) q.1, q.2))
  told-bind q' (stuck n s) f = stuck n (λ l. let q = s l in (q.0, ap (λ o. after o (q' l)) q.1, q.2))
  told-bind {ps = ps} q' (passed n y a) f = passed n y (a.0, λ l m. now-bind W V (ps l) (q' l) (two_of e) (a.1 l m) (λ x w last. f x w l last))
  told-bind q' (limit n) f = limit n

  pub rel-bind : {os ps : ℕ → Outcome A} {o : Outcome A} (q : A → Parser B) (q' : ℕ → A → Parser B) → Rel e W os ps o → ((x : A) → Onward e (Unit {0}) V (q x) (λ l. q' l x)) → ((x : A) → W x → (l last : ℕ) → Over V (q' l x (none last))) → Rel e V (λ l. after (os l) (q' l)) (λ l. after (ps l) (q' l)) (after o q)
  rel-bind q q' (both {x = x} {last = last} m a b) k f = swap (λ l. ap (λ o. after o (q' l)) (a l)) (λ l. ap (λ o. after o (q' l)) (b l)) (locked (k x) m last)
  rel-bind {o = o} q q' (gone h) k f = gone (gone-bind o q h (λ x last. (k x).first last))
  rel-bind q q' (before m) k f = before m
  rel-bind q q' (here t) k f = here (told-bind q' t f)

  pub onward-bind : {C : Type 0} {p : Parser A} {p' : ℕ → Parser A} {q : A → Parser B} {q' : ℕ → A → Parser B} → Onward e C W p p' → ((x : A) → Onward e (Unit {0}) V (q x) (λ l. q' l x)) → ((x : A) → W x → (l last : ℕ) → Over V (q' l x (none last))) → Onward e C V (λ c. after (p c) q) (λ l c. after (p' l c) (q' l))
  onward-bind {p = p} {q = q} {q' = q'} h k f = record {
    more = λ ts us vs t m last. rel-bind q q' (h.more ts us vs t m last) k f;
    there = λ c last. rel-bind q q' (h.there c last) k f;
    first = λ last. gone-bind (p (none last)) q (h.first last) (λ x n. (k x).first n);
  }

  pub bind-parts : {C : Type 0} {p : Parser A} {p' : ℕ → Parser A} {q : A → Parser B} {q' : ℕ → A → Parser B} → KeepsIf e C W p p' → ((x : A) → Onward e (Unit {0}) V (q x) (λ l. q' l x)) → ((x : A) → W x → (l last : ℕ) → Over V (q' l x (none last))) → KeepsIf e C V (λ c. after (p c) q) (λ l c. after (p' l c) (q' l))
  bind-parts {p' = p'} {q' = q'} h k f = record { onward = onward-bind h.onward k f; second = λ l last. over-bind W V (p' l (none last)) (q' l) (h.second l last) (λ x w n. f x w l n) }

  -- knowing what the first reader read
  seen-rel : {os ps : ℕ → Outcome A} {o : Outcome A} (p : Parser A) (s : Input) (q : A → Parser B) (q' : ℕ → A → Parser B) → p s ≡ o → Rel e W os ps o → ((x : A) (c : Input) → p s ≡ Took x c → Onward e (Unit {0}) V (q x) (λ l. q' l x)) → ((x : A) → W x → (l last : ℕ) → Over V (q' l x (none last))) → Rel e V (λ l. after (os l) (q' l)) (λ l. after (ps l) (q' l)) (after o q)
  seen-rel p s q q' y (both {x = x} {ts = ts} {last = last} m a b) k f = swap (λ l. ap (λ o. after o (q' l)) (a l)) (λ l. ap (λ o. after o (q' l)) (b l)) (locked (k x (input ts last) y) m last)
  seen-rel {o = o} p s q q' y (gone h) k f = gone (seen-gone p s q o y h (λ x c z last. (k x c z).first last))
  seen-rel p s q q' y (before m) k f = before m
  seen-rel p s q q' y (here t) k f = here (told-bind q' t f)

  pub bind-seen : {C : Type 0} {p : Parser A} {p' : ℕ → Parser A} {q : A → Parser B} {q' : ℕ → A → Parser B} → KeepsIf e C W p p' → ((x : A) (s c : Input) → p s ≡ Took x c → Onward e (Unit {0}) V (q x) (λ l. q' l x)) → ((x : A) → W x → (l last : ℕ) → Over V (q' l x (none last))) → KeepsIf e C V (λ c. after (p c) q) (λ l c. after (p' l c) (q' l))
  bind-seen {p = p} {p' = p'} {q = q} {q' = q'} h k f = record {
    onward = record {
      more = λ ts us vs t m last. seen-rel p (input (t ∷ ts) last) q q' refl (h.onward.more ts us vs t m last) (λ x c y. k x (input (t ∷ ts) last) c y) f;
      there = λ c last. seen-rel p (input (it e ∷ []) last) q q' refl (h.onward.there c last) (λ x d y. k x (input (it e ∷ []) last) d y) f;
      first = λ last. seen-gone p (none last) q (p (none last)) refl (h.onward.first last) (λ x c y n. (k x (none last) c y).first n);
    };
    second = λ l last. over-bind W V (p' l (none last)) (q' l) (h.second l last) (λ x w n. f x w l n);
  }

  pub bind : {C : Type 0} {p : Parser A} {p' : ℕ → Parser A} {q : A → Parser B} {q' : ℕ → A → Parser B} → KeepsIf e C W p p' → ((x : A) → KeepsIf e (Unit {0}) V (q x) (λ l. q' l x)) → KeepsIf e C V (λ c. after (p c) q) (λ l c. after (p' l c) (q' l))
  bind h k = bind-parts h (λ x. (k x).onward) (λ x w l last. (k x).second l last)

-- ## Choices

module _ {e : Place} {A : Type 0} {C : Type 0} {W : A → Type 0} where
  pub either : {p q : Parser A} {p' q' : ℕ → Parser A} (b : Bool) → KeepsIf e C W p p' → KeepsIf e C W q q' → KeepsIf e C W (choose b p q) (λ l. choose b (p' l) (q' l))
  either true f g = f
  either false f g = g

  pub onward-either : {p q : Parser A} {p' q' : ℕ → Parser A} (b : Bool) → Onward e C W p p' → Onward e C W q q' → Onward e C W (choose b p q) (λ l. choose b (p' l) (q' l))
  onward-either true f g = f
  onward-either false f g = g

  pub begins : (p : ℕ → Parser A) (p' : ℕ → ℕ → Parser A) → ((at : ℕ) → KeepsIf e C W (p at) (λ l. p' l at)) → KeepsIf e C W (from p) (λ l. from (p' l))
  begins p p' f = record {
    onward = record {
      more = λ ts us vs t m last. (f t.span.begin).onward.more ts us vs t m last;
      there = λ c last. (f e.span.begin).onward.there c last;
      first = λ last. (f 0).onward.first last;
    };
    second = λ l last. (f 0).second l last;
  }

-- whether the first reader takes the token, or none takes its own
pub data Agree (e : Place) {B : Type 0} (test : Filled → Option B) : Type 0 where
  takes : {x : B} → test (it e) ≡ Some x → Agree e test
  misses : test (it e) ≡ None → test (one_of e) ≡ None → test (two_of e) ≡ None → Agree e test

pub record Unseen (e : Place) (test : Filled → Bool) : Type 0 where
  pub its : test (it e) ≡ false
  pub ones : test (one_of e) ≡ false
  pub twos : test (two_of e) ≡ false

pub record Alike (e : Place) (test : Filled → Bool) : Type 0 where
  pub ones : test (one_of e) ≡ test (it e)
  pub twos : test (two_of e) ≡ test (it e)

module _ {e : Place} {A : Type 0} {C : Type 0} {W : A → Type 0} where
  -- whatever is made of the token itself
  pub next-by : {B : Type 0} {p : B → Parser A} {p' : ℕ → B → Parser A} {q : Parser A} {q' : ℕ → Parser A} (test : Filled → Option B) → ((x : B) → Onward e (Unit {0}) W (p x) (λ l. p' l x)) → {D : Type 0} → KeepsIf e D W q q'
      → (C → (last : ℕ) → Rel e W (λ l. on test (p' l) (q' l) (input (one_of e ∷ []) last)) (λ l. on test (p' l) (q' l) (input (two_of e ∷ []) last)) (on test p q (input (it e ∷ []) last)))
      → KeepsIf e C W (on test p q) (λ l. on test (p' l) (q' l))
  next-by {B = B} {p = p} {p' = p'} {q = q} {q' = q'} test f g th = record { onward = record { more = λ ts us vs t m last. known t m last (test t); there = th; first = g.onward.first }; second = g.second }
    where
      known : {ts us vs : List Filled} (t : Filled) → Lock e ts us vs → (last : ℕ) (v : Option B) → Rel e W (λ l. on_taken v t us (p' l) (q' l) (input (t ∷ us) last)) (λ l. on_taken v t vs (p' l) (q' l) (input (t ∷ vs) last)) (on_taken v t ts p q (input (t ∷ ts) last))
      known t m last (Some x) = locked (f x) m t.span.end
      known {ts = ts} {us = us} {vs = vs} t m last None = g.onward.more ts us vs t m last

  pub next-onward-if : {B : Type 0} {test : Filled → Option B} {p : B → Parser A} {p' : ℕ → B → Parser A} {q : Parser A} {q' : ℕ → Parser A} → (C → Agree e test) → ((x : B) → Onward e (Unit {0}) W (p x) (λ l. p' l x)) → KeepsIf e C W q q' → KeepsIf e C W (on test p q) (λ l. on test (p' l) (q' l))
  next-onward-if {B = B} {test = test} {p = p} {p' = p'} {q = q} {q' = q'} a f g = next-by test f g (λ c last. agreed (a c) c last)
    where
      agreed : Agree e test → C → (last : ℕ) → Rel e W (λ l. on test (p' l) (q' l) (input (one_of e ∷ []) last)) (λ l. on test (p' l) (q' l) (input (two_of e ∷ []) last)) (on test p q (input (it e ∷ []) last))
      agreed (takes {x = x} h) c last = gone (ap (λ v. left (on_taken v (it e) [] p q (input (it e ∷ []) last))) h ∙ (f x).first e.span.end)
      agreed (misses h h1 h2) c last = swap (λ l. ap (λ v. on_taken v (one_of e) [] (p' l) (q' l) (input (one_of e ∷ []) last)) h1) (λ l. ap (λ v. on_taken v (two_of e) [] (p' l) (q' l) (input (two_of e ∷ []) last)) h2)
          (subst (λ v. Rel e W (λ l. q' l (input (one_of e ∷ []) last)) (λ l. q' l (input (two_of e ∷ []) last)) (on_taken v (it e) [] p q (input (it e ∷ []) last))) (sym h) (g.onward.there c last))

  pub next-onward : {B : Type 0} {test : Filled → Option B} {p : B → Parser A} {p' : ℕ → B → Parser A} {q : Parser A} {q' : ℕ → Parser A} → Agree e test → ((x : B) → Onward e (Unit {0}) W (p x) (λ l. p' l x)) → KeepsIf e C W q q' → KeepsIf e C W (on test p q) (λ l. on test (p' l) (q' l))
  next-onward a f g = next-onward-if (λ c. a) f g

  pub next : {B : Type 0} {test : Filled → Option B} {p : B → Parser A} {p' : ℕ → B → Parser A} {q : Parser A} {q' : ℕ → Parser A} → Agree e test → ((x : B) → KeepsIf e (Unit {0}) W (p x) (λ l. p' l x)) → KeepsIf e C W q q' → KeepsIf e C W (on test p q) (λ l. on test (p' l) (q' l))
  next a f g = next-onward a (λ x. (f x).onward) g

  -- what is looked at
  pub looks-by : {p q : Parser A} {p' q' : ℕ → Parser A} {D : Type 0} (test : Filled → Bool) → Further e W p p' → KeepsIf e D W q q'
      → (C → (last : ℕ) → Rel e W (λ l. if_next test (p' l) (q' l) (input (one_of e ∷ []) last)) (λ l. if_next test (p' l) (q' l) (input (two_of e ∷ []) last)) (if_next test p q (input (it e ∷ []) last)))
      → KeepsIf e C W (if_next test p q) (λ l. if_next test (p' l) (q' l))
  looks-by {p = p} {q = q} {p' = p'} {q' = q'} test f g th = record { onward = record { more = λ ts us vs t m last. known t m last (test t); there = th; first = g.onward.first }; second = g.second }
    where
      known : {ts us vs : List Filled} (t : Filled) → Lock e ts us vs → (last : ℕ) (b : Bool) → Rel e W (λ l. choose b (p' l) (q' l) (input (t ∷ us) last)) (λ l. choose b (p' l) (q' l) (input (t ∷ vs) last)) (choose b p q (input (t ∷ ts) last))
      known {ts = ts} {us = us} {vs = vs} t m last true = f ts us vs t m last
      known {ts = ts} {us = us} {vs = vs} t m last false = g.onward.more ts us vs t m last

  pub looks-more-if : {test : Filled → Bool} {p q : Parser A} {p' q' : ℕ → Parser A} → (C → Unseen e test) → Further e W p p' → KeepsIf e C W q q' → KeepsIf e C W (if_next test p q) (λ l. if_next test (p' l) (q' l))
  looks-more-if {test = test} {p = p} {q = q} {p' = p'} {q' = q'} a f g = looks-by test f g (λ c last. let u = a c in swap (λ l. ap (λ b. choose b (p' l) (q' l) (input (one_of e ∷ []) last)) u.ones) (λ l. ap (λ b. choose b (p' l) (q' l) (input (two_of e ∷ []) last)) u.twos)
      (subst (λ b. Rel e W (λ l. q' l (input (one_of e ∷ []) last)) (λ l. q' l (input (two_of e ∷ []) last)) (choose b p q (input (it e ∷ []) last))) (sym u.its) (g.onward.there c last)))

  pub looks-more : {test : Filled → Bool} {p q : Parser A} {p' q' : ℕ → Parser A} → Unseen e test → Further e W p p' → KeepsIf e C W q q' → KeepsIf e C W (if_next test p q) (λ l. if_next test (p' l) (q' l))
  looks-more u f g = looks-more-if (λ c. u) f g

  pub looks : {D : Type 0} {test : Filled → Bool} {p q : Parser A} {p' q' : ℕ → Parser A} → Unseen e test → KeepsIf e D W p p' → KeepsIf e C W q q' → KeepsIf e C W (if_next test p q) (λ l. if_next test (p' l) (q' l))
  looks u f g = looks-more u f.onward.more g

  pub looks-alike : {test : Filled → Bool} {p q : Parser A} {p' q' : ℕ → Parser A} → Alike e test → KeepsIf e C W p p' → KeepsIf e C W q q' → KeepsIf e C W (if_next test p q) (λ l. if_next test (p' l) (q' l))
  looks-alike {test = test} {p = p} {q = q} {p' = p'} {q' = q'} u f g = looks-by test f.onward.more g (λ c last. swap (λ l. ap (λ b. choose b (p' l) (q' l) (input (one_of e ∷ []) last)) u.ones) (λ l. ap (λ b. choose b (p' l) (q' l) (input (two_of e ∷ []) last)) u.twos) (chosen (test (it e)) c last))
    where
      chosen : (b : Bool) → C → (last : ℕ) → Rel e W (λ l. choose b (p' l) (q' l) (input (one_of e ∷ []) last)) (λ l. choose b (p' l) (q' l) (input (two_of e ∷ []) last)) (choose b p q (input (it e ∷ []) last))
      chosen true c last = f.onward.there c last
      chosen false c last = g.onward.there c last

-- ## Values and faults

pub took : {e : Place} {A : Type 0} {W : A → Type 0} {g : Input → A} → ((ts us : List Filled) (last : ℕ) → g (input us last) ≡ g (input ts last)) → Onward e (Unit {0}) W (λ c. Took (g c) c) (λ l c. Took (g c) c)
took {e = e} {g = g} h = record {
  more = λ ts us vs t m last. both (further t m) (λ l. ap (λ x. Took x (input (t ∷ us) last)) (h (t ∷ ts) (t ∷ us) last)) (λ l. ap (λ x. Took x (input (t ∷ vs) last)) (h (t ∷ ts) (t ∷ vs) last));
  there = λ u last. both last_one (λ l. ap (λ x. Took x (input (one_of e ∷ []) last)) (h (it e ∷ []) (one_of e ∷ []) last)) (λ l. ap (λ x. Took x (input (two_of e ∷ []) last)) (h (it e ∷ []) (two_of e ∷ []) last));
  first = λ last. refl;
}

pub done : {e : Place} {A : Type 0} {g : Input → A} → ((ts us : List Filled) (last : ℕ) → g (input us last) ≡ g (input ts last)) → Keeps e (λ c. Took (g c) c) (λ l c. Took (g c) c)
done h = record { onward = took h; second = λ l last. (refl, tt) }
