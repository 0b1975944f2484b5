-- What a reader took can be completed: there are tokens with which a reader with more turns and more room reads the whole. So can it
-- with the token at which it stops for depth, but where a limit says that it needn't.
use Rattle.std.proofs.Common.{◌≡◌, ◌∙◌, ℕ, suc, ◌≤◌, arith, Bool, true, false, List, [], ◌∷◌, ◌++◌, length, Option, Some, None, refl, sym, ap, subst, append_assoc}
use Rattle.std.proofs.lemmas.Bool.{false≢true}
use Rattle.es_text.specs.declared.Span.{Span}
use Rattle.es6_lexer.specs.declared.token.TokenKind.{TokenKind}
use Rattle.es6_lexer.specs.declared.token.NumberToken.TheVariants.{TooLarge, Marked}
use Rattle.es6_lexer.specs.declared.token.TokenKind.TheVariants as kinds
use Rattle.es6_lexer.specs.declared.token.TokenKind.TheVariants.{Punctuator}
use Rattle.es6_lexer.specs.declared.token.Punctuator.{Punctuator as Mark}
use Rattle.es6_lexer.specs.declared.token.Punctuator.TheVariants as marks
use Rattle.es6_ast.specs.declared.settings.Stop.{Stop}
use Rattle.es6_ast.specs.declared.settings.Stop.TheVariants.{Depth, Endless}
use Rattle.es6_ast.specs.Tokens.{Filled, Filling, Read, begin_of}
use Rattle.es6_reading.specs.Parser.{Input, Outcome, Took, Fault, Parser, fails, after, stop_in, number_stop_in, expression_stop_in, stop_at, on, on_taken, choose, next_is, if_next, from, take_as, mark, next_mark, refused, no_number, no_expression, Inner, on_group, is_mark, kept_if, is_insertable}
use Rattle.es6_reading.proofs.Follows.{SameHead, nothing, same}
use Rattle.es6_reading.proofs.Posts.{Misses}

-- ## What completes

-- a token that is put in
abbrev pub put : TokenKind → Span → Filled
put k span = record { kind = Read k; span = span; newline = false }

-- such tokens, one behind another from a place on
abbrev pub at_place : ℕ → Span
at_place n = record { begin = n; end = suc n }

abbrev pub fills : ℕ → List TokenKind → List Filled
fills n [] = []
fills n (k ∷ ks) = put k (at_place n) ∷ fills (suc n) ks

abbrev pub behind : ℕ → List TokenKind → ℕ
behind n [] = n
behind n (k ∷ ks) = behind (suc n) ks

-- what follows begins at the place
abbrev pub Stands : ℕ → List Filled → Type 0
Stands n [] = Unit {0}
Stands n (t ∷ us) = t.span.begin ≡ n

pub data Head (k : TokenKind) : List Filled → Type 0 where
  head : {span : Span} {us : List Filled} → Head k (put k span ∷ us)

abbrev pub Anything : List Filled → Type 0
Anything us = Unit {0}

abbrev pub Any : {A : Type 0} → A → Type 0
Any x = Unit {0}

fills-append : (n : ℕ) (ks ms : List TokenKind) (us : List Filled) → fills n (ks ++ ms) ++ us ≡ fills n ks ++ (fills (behind n ks) ms ++ us)
fills-append n [] ms us = refl
fills-append n (k ∷ ks) ms us = ap (λ vs. put k (at_place n) ∷ vs) (fills-append (suc n) ks ms us)

behind-append : (n : ℕ) (ks ms : List TokenKind) → behind n (ks ++ ms) ≡ behind (behind n ks) ms
behind-append n [] ms = refl
behind-append n (k ∷ ks) ms = behind-append (suc n) ks ms

pub filled-stand : (n : ℕ) (ks : List TokenKind) (us : List Filled) → Stands (behind n ks) us → Stands n (fills n ks ++ us)
filled-stand n [] us a = a
filled-stand n (k ∷ ks) us a = refl

-- what stops a reader at a token isn't depth
stop-deep : (k : Filling) → stop_in k ≡ Depth → ⊥
stop-deep (Read (kinds.Fault kind)) e = absurd (cc)
stop-deep k e = absurd (cc)

number-deep : (k : Filling) → number_stop_in k ≡ Depth → ⊥
number-deep (Read (kinds.Number TooLarge)) e = absurd (cc)
number-deep (Read (kinds.Number Marked)) e = absurd (cc)
number-deep k e = stop-deep k e

expression-deep : (k : Filling) → expression_stop_in k ≡ Depth → ⊥
expression-deep (Read (kinds.Punctuator marks.Slash)) e = absurd (cc)
expression-deep (Read (kinds.Punctuator marks.SlashAssign)) e = absurd (cc)
expression-deep k e = number-deep k e

never-deep : {stop : Filling → Stop} → ((k : Filling) → stop k ≡ Depth → ⊥) → (ts : List Filled) → stop_at stop ts ≡ Depth → ⊥
never-deep h [] e = absurd (cc)
never-deep h (t ∷ ts) e = h t.kind e

-- ## What a reader left

abbrev pub left : {A : Type 0} → Outcome A → List Filled
left (Took x c) = c.tokens
left (Fault stop ts) = ts

-- how many tokens may follow where a reader gives up what nests too far, and whether one that stops for depth may stop at a token that
-- completes nothing
pub record Limit : Type 1 where
  pub allows : ℕ → Type 0
  pub grows : (n m : ℕ) → n ≤ m → allows n → allows m
  pub shallow : Type 0

-- what was taken is taken so whatever follows the next token
abbrev pub Stays : {A : Type 0} → Limit → (List Filled → Outcome A) → List Filled → Outcome A → Type 0
Stays lim run front (Took x c) = (rest : List Filled) → SameHead c.tokens rest → run (front ++ rest) ≡ Took x (record { tokens = rest; last = c.last })
Stays lim run front (Fault stop ts) = stop ≡ Depth → lim.shallow

-- Completions, which begin at the place: before any tokens that may follow their value and begin behind them, the whole is read.
pub record EndsAt {A : Type 0} (F : A → List Filled → Type 0) (P : A → Type 0) (run : List Filled → Outcome A) (front : List Filled) (n : ℕ) : Type 0 where
  pub more : List TokenKind
  pub value : A
  pub last : ℕ
  pub ok : P value
  pub reads : (us : List Filled) → F value us → Stands (behind n more) us → run (front ++ (fills n more ++ us)) ≡ Took value (record { tokens = us; last = last })

-- from nothing on, by tokens that begin so
pub record FreshAt {A : Type 0} (F : A → List Filled → Type 0) (P : A → Type 0) (S : List Filled → Type 0) (run : List Filled → Outcome A) (n : ℕ) : Type 0 where
  pub more : List TokenKind
  pub value : A
  pub last : ℕ
  pub ok : P value
  pub reads : (us : List Filled) → F value us → Stands (behind n more) us → run (fills n more ++ us) ≡ Took value (record { tokens = us; last = last })
  pub starts : (us : List Filled) → F value us → S (fills n more ++ us)

-- at whatever place they begin
abbrev pub Ends : {A : Type 0} → (A → List Filled → Type 0) → (A → Type 0) → (List Filled → Outcome A) → List Filled → Type 0
Ends F P run front = (n : ℕ) → EndsAt F P run front n

abbrev pub Fresh : {A : Type 0} → (A → List Filled → Type 0) → (A → Type 0) → (List Filled → Type 0) → (List Filled → Outcome A) → Type 0
Fresh F P S run = (n : ℕ) → FreshAt F P S run n

-- it isn't the end of the text
abbrev pub IsInner : Filled → Type 0
IsInner t = t.kind ≡ Read kinds.End → ⊥

-- From where a reader stood, if it took a token, or with the token at which it stopped for depth; or it gave up what nests too far.
pub data Half (lim : Limit) {A : Type 0} (F : A → List Filled → Type 0) (P : A → Type 0) (run : List Filled → Outcome A) (ts : List Filled) : Outcome A → Type 0 where
  stands : {o : Outcome A} → ts ≡ left o → Stays lim run [] o → Half lim F P run ts o
  some : {o : Outcome A} (t : Filled) (front : List Filled) → ts ≡ (t ∷ front) ++ left o → Stays lim run (t ∷ front) o → Ends F P run (t ∷ front) → Half lim F P run ts o
  beyond : {t : Filled} {us : List Filled} (front : List Filled) → ts ≡ front ++ t ∷ us → IsInner t → Ends F P run (front ++ t ∷ []) → Half lim F P run ts (Fault Depth (t ∷ us))
  gives_up : {us : List Filled} → lim.allows (length ts) → Half lim F P run ts (Fault Endless us)

pub record Goes (lim : Limit) {A : Type 0} (F : A → List Filled → Type 0) (P : A → Type 0) (S : List Filled → Type 0) (run : List Filled → Outcome A) (ts : List Filled) (o : Outcome A) : Type 0 where
  pub half : Half lim F P run ts o
  pub fresh : Fresh F P S run

-- what is read after a token that was taken; it may be given up at once
pub data Past (lim : Limit) {A : Type 0} (F : A → List Filled → Type 0) (P : A → Type 0) (run : List Filled → Outcome A) (ts : List Filled) : Outcome A → Type 0 where
  goes : {o : Outcome A} → Half lim F P run ts o → Fresh F P Anything run → Past lim F P run ts o
  used_up : {us : List Filled} → lim.allows (length ts) → Past lim F P run ts (Fault Endless us)

abbrev pub run_of : {A : Type 0} → Parser A → ℕ → List Filled → Outcome A
run_of p last us = p (record { tokens = us; last = last })

-- a reader, and one with more turns and more room, from an input on
abbrev pub Viable : {A : Type 0} → Limit → (A → List Filled → Type 0) → (A → Type 0) → (List Filled → Type 0) → Parser A → Parser A → Input → Type 0
Viable lim F P S p p' s = Goes lim F P S (run_of p' s.last) s.tokens (p s)

abbrev pub Partly : {A : Type 0} → Limit → (A → List Filled → Type 0) → (A → Type 0) → Parser A → Parser A → Input → Type 0
Partly lim F P p p' s = Half lim F P (run_of p' s.last) s.tokens (p s)

abbrev pub Onward : {A : Type 0} → Limit → (A → List Filled → Type 0) → (A → Type 0) → Parser A → Parser A → Input → Type 0
Onward lim F P p p' s = Past lim F P (run_of p' s.last) s.tokens (p s)

abbrev pub Begins : {A : Type 0} → (A → List Filled → Type 0) → (A → Type 0) → (List Filled → Type 0) → Parser A → ℕ → Type 0
Begins F P S p last = Fresh F P S (run_of p last)

same-through : {ts : List Filled} (us : List Filled) (t : Filled) (front rest : List Filled) → ts ≡ (t ∷ front) ++ us → SameHead ts ((t ∷ front) ++ rest)
same-through us t front rest e = subst (λ vs. SameHead vs (t ∷ front ++ rest)) (sym e) same

-- tokens begin as those up to one of them
same-up-to : {ts : List Filled} (front : List Filled) (t : Filled) (us rest : List Filled) → ts ≡ front ++ t ∷ us → SameHead ts ((front ++ t ∷ []) ++ rest)
same-up-to [] t us rest e = subst (λ vs. SameHead vs (t ∷ rest)) (sym e) same
same-up-to (u ∷ front) t us rest e = subst (λ vs. SameHead vs (u ∷ (front ++ t ∷ []) ++ rest)) (sym e) same

up-one : (n : ℕ) → n ≤ suc n
up-one n = omega arith

up-front : (front us : List Filled) → length us ≤ length (front ++ us)
up-front [] us = low (length us)
  where
    low : (n : ℕ) → n ≤ n
    low n = omega arith
up-front (t ∷ front) us = up (length us) (length (front ++ us)) (up-front front us)
  where
    up : (a b : ℕ) → a ≤ b → a ≤ suc b
    up a b h = omega arith

pub allowed-before : (lim : Limit) {ts : List Filled} (front us : List Filled) → ts ≡ front ++ us → lim.allows (length us) → lim.allows (length ts)
allowed-before lim front us e k = subst (λ vs. lim.allows (length vs)) (sym e) (lim.grows (length us) (length (front ++ us)) (up-front front us) k)

stays-within : {A : Type 0} (lim other : Limit) (run : List Filled → Outcome A) (front : List Filled) → (lim.shallow → other.shallow) → (o : Outcome A) → Stays lim run front o → Stays other run front o
stays-within lim other run front v (Took x c) k = k
stays-within lim other run front v (Fault stop us) k = λ e. v (k e)

module _ {A : Type 0} {F : A → List Filled → Type 0} {P : A → Type 0} where
  pub free : {S : List Filled → Type 0} {run : List Filled → Outcome A} → Fresh F P S run → Fresh F P Anything run
  free f = λ n. let g = f n in record { more = g.more; value = g.value; last = g.last; ok = g.ok; reads = g.reads; starts = λ us h. tt }

  pub past : {lim : Limit} {S : List Filled → Type 0} {run : List Filled → Outcome A} {ts : List Filled} {o : Outcome A} → Goes lim F P S run ts o → Past lim F P run ts o
  past g = goes g.half (free g.fresh)

  ends-of : {S : List Filled → Type 0} {run : List Filled → Outcome A} → Fresh F P S run → Ends F P run []
  ends-of f = λ n. let g = f n in record { more = g.more; value = g.value; last = g.last; ok = g.ok; reads = g.reads }

  -- ## Tokens before

  -- other runs that agree where the tokens begin alike
  pub relay : {lim : Limit} {run run' : List Filled → Outcome A} {ts : List Filled} {o : Outcome A} → ((us : List Filled) → SameHead ts us → run' us ≡ run us) → Half lim F P run ts o → Half lim F P run' ts o
  relay h (stands {o = Took x c} e k) = stands e (λ rest m. h rest (subst (λ vs. SameHead vs rest) (sym e) m) ∙ k rest m)
  relay h (stands {o = Fault stop us} e k) = stands e k
  relay {run' = run'} h (some {o = Took x c} t front e k ends) = some t front e (λ rest m. h ((t ∷ front) ++ rest) (same-through c.tokens t front rest e) ∙ k rest m)
      (λ at. let n = ends at in record { more = n.more; value = n.value; last = n.last; ok = n.ok; reads = λ us m a. h ((t ∷ front) ++ (fills at n.more ++ us)) (same-through c.tokens t front (fills at n.more ++ us) e) ∙ n.reads us m a })
  relay {run' = run'} h (some {o = Fault stop vs} t front e k ends) = some t front e k
      (λ at. let n = ends at in record { more = n.more; value = n.value; last = n.last; ok = n.ok; reads = λ us m a. h ((t ∷ front) ++ (fills at n.more ++ us)) (same-through vs t front (fills at n.more ++ us) e) ∙ n.reads us m a })
  relay h (beyond {t = t} {us = vs} front e z ends) = beyond front e z (λ at. let n = ends at in record { more = n.more; value = n.value; last = n.last; ok = n.ok; reads = λ us m a. h ((front ++ t ∷ []) ++ (fills at n.more ++ us)) (same-up-to front t vs (fills at n.more ++ us) e) ∙ n.reads us m a })
  relay h (gives_up k) = gives_up k

  -- after a token that was taken
  behind-it : {lim : Limit} {run run' : List Filled → Outcome A} {ts : List Filled} {o : Outcome A} (t : Filled) → ((us : List Filled) → run' (t ∷ us) ≡ run us) → Past lim F P run ts o → Half lim F P run' (t ∷ ts) o
  behind-it {lim = lim} {run = run} {run' = run'} t h (goes (stands {o = o} e k) ends) = some t [] (ap (λ vs. t ∷ vs) e) (stays-behind o k) (λ at. let n = ends at in record { more = n.more; value = n.value; last = n.last; ok = n.ok; reads = λ us m a. h (fills at n.more ++ us) ∙ n.reads us m a })
    where
      stays-behind : (o : Outcome A) → Stays lim run [] o → Stays lim run' (t ∷ []) o
      stays-behind (Took x c) k = λ rest m. h rest ∙ k rest m
      stays-behind (Fault stop us) k = k
  behind-it {lim = lim} {run = run} {run' = run'} t h (goes (some {o = o} u front e k ends) f) = some t (u ∷ front) (ap (λ vs. t ∷ vs) e) (stays-behind o k) (λ at. let n = ends at in record { more = n.more; value = n.value; last = n.last; ok = n.ok; reads = λ us m a. h ((u ∷ front) ++ (fills at n.more ++ us)) ∙ n.reads us m a })
    where
      stays-behind : (o : Outcome A) → Stays lim run (u ∷ front) o → Stays lim run' (t ∷ u ∷ front) o
      stays-behind (Took x c) k = λ rest m. h ((u ∷ front) ++ rest) ∙ k rest m
      stays-behind (Fault stop us) k = k
  behind-it t h (goes (beyond {t = u} front e z ends) f) = beyond (t ∷ front) (ap (λ vs. t ∷ vs) e) z (λ at. let n = ends at in record { more = n.more; value = n.value; last = n.last; ok = n.ok; reads = λ us m a. h ((front ++ u ∷ []) ++ (fills at n.more ++ us)) ∙ n.reads us m a })
  behind-it {lim = lim} {ts = ts} t h (goes (gives_up k) f) = gives_up (lim.grows (length ts) (suc (length ts)) (up-one (length ts)) k)
  behind-it {lim = lim} {ts = ts} t h (used_up k) = gives_up (lim.grows (length ts) (suc (length ts)) (up-one (length ts)) k)

  -- ## Other limits

  pub half-within : {lim other : Limit} {run : List Filled → Outcome A} {ts : List Filled} {o : Outcome A} → ((n : ℕ) → lim.allows n → other.allows n) → (lim.shallow → other.shallow) → Half lim F P run ts o → Half other F P run ts o
  half-within {lim = lim} {other = other} {run = run} w v (stands {o = o} e k) = stands e (stays-within lim other run [] v o k)
  half-within {lim = lim} {other = other} {run = run} w v (some {o = o} t front e k n) = some t front e (stays-within lim other run (t ∷ front) v o k) n
  half-within w v (beyond front e z n) = beyond front e z n
  half-within {ts = ts} w v (gives_up k) = gives_up (w (length ts) k)

  pub goes-within : {lim other : Limit} {S : List Filled → Type 0} {run : List Filled → Outcome A} {ts : List Filled} {o : Outcome A} → ((n : ℕ) → lim.allows n → other.allows n) → (lim.shallow → other.shallow) → Goes lim F P S run ts o → Goes other F P S run ts o
  goes-within w v g = record { half = half-within w v g.half; fresh = g.fresh }

  -- ## Readers that take nothing

  pub done-ok : {lim : Limit} {ts : List Filled} {last : ℕ} {x : A} → P x → Goes lim F P (λ us. F x us) (λ us. Took x (record { tokens = us; last = last })) ts (Took x (record { tokens = ts; last = last }))
  done-ok {last = last} {x = x} ok = record { half = stands refl (λ rest k. refl); fresh = λ n. record { more = []; value = x; last = last; ok = ok; reads = λ us h a. refl; starts = λ us h. h } }

  -- it takes nothing, or stops at once
  pub rests : {lim : Limit} {last : ℕ} {ts : List Filled} {x : A} → Half lim F P (λ us. Took x (record { tokens = us; last = last })) ts (Took x (record { tokens = ts; last = last }))
  rests = stands refl (λ rest k. refl)

  pub stops : {lim : Limit} {run : List Filled → Outcome A} {ts : List Filled} {stop : Stop} → (stop ≡ Depth → lim.shallow) → Half lim F P run ts (Fault stop ts)
  stops h = stands refl h

  pub nowhere-by : {lim : Limit} (p' : Parser A) (s : Input) → Partly lim F P refused p' s
  unfolding refused
  nowhere-by p' s = stops (λ e. absurd (never-deep stop-deep s.tokens e))

  pub number-by : {lim : Limit} (p' : Parser A) (s : Input) → Partly lim F P no_number p' s
  unfolding no_number
  number-by p' s = stops (λ e. absurd (never-deep number-deep s.tokens e))

  pub expression-by : {lim : Limit} (p' : Parser A) (s : Input) → Partly lim F P no_expression p' s
  unfolding no_expression
  expression-by p' s = stops (λ e. absurd (never-deep expression-deep s.tokens e))

  pub nowhere : {lim : Limit} (s : Input) → Partly lim F P refused refused s
  nowhere s = nowhere-by refused s

  pub number : {lim : Limit} (s : Input) → Partly lim F P no_number no_number s
  number s = number-by no_number s

  pub expression : {lim : Limit} (s : Input) → Partly lim F P no_expression no_expression s
  expression s = expression-by no_expression s

-- ## One reader after another

nil-front : (front us : List Filled) → [] ≡ front ++ us → front ≡ []
nil-front [] us e = refl
nil-front (t ∷ front) us e = absurd (cc)

module _ {A B : Type 0} {F : A → List Filled → Type 0} {P : A → Type 0} {G : B → List Filled → Type 0} {Q : B → Type 0} {T : A → List Filled → Type 0} {run : List Filled → Outcome A} (q' : A → Parser B)
    (f : (y : A) (last : ℕ) → P y → Fresh G Q (T y) (run_of (q' y) last)) (k : (y : A) (us : List Filled) → P y → T y us → F y us) where
  pub fresh-bind : {S : List Filled → Type 0} → Fresh F P S run → Fresh G Q S (λ us. after (run us) q')
  fresh-bind {S = S} first = λ n.
      let e = first n in
      let m : ℕ = behind n e.more in
      let b = f e.value e.last e.ok m in
      record {
        more = e.more ++ b.more;
        value = b.value;
        last = b.last;
        ok = b.ok;
        reads = λ us h a. let there = subst (λ l. Stands l us) (behind-append n e.more b.more) a in ap (λ ts. after (run ts) q') (fills-append n e.more b.more us) ∙ ap (λ o. after o q') (e.reads (fills m b.more ++ us) (k e.value (fills m b.more ++ us) e.ok (b.starts us h)) (filled-stand m b.more us there)) ∙ b.reads us h there;
        starts = λ us h. subst (λ ts. S ts) (sym (fills-append n e.more b.more us)) (e.starts (fills m b.more ++ us) (k e.value (fills m b.more ++ us) e.ok (b.starts us h)));
      }

  ends-bind : {front : List Filled} → Ends F P run front → Ends G Q (λ us. after (run us) q') front
  ends-bind {front = front} first = λ n.
      let e = first n in
      let m : ℕ = behind n e.more in
      let b = f e.value e.last e.ok m in
      record {
        more = e.more ++ b.more;
        value = b.value;
        last = b.last;
        ok = b.ok;
        reads = λ us h a. let there = subst (λ l. Stands l us) (behind-append n e.more b.more) a in ap (λ ts. after (run (front ++ ts)) q') (fills-append n e.more b.more us) ∙ ap (λ o. after o q') (e.reads (fills m b.more ++ us) (k e.value (fills m b.more ++ us) e.ok (b.starts us h)) (filled-stand m b.more us there)) ∙ b.reads us h there;
      }

module _ {A B : Type 0} {F : A → List Filled → Type 0} {P : A → Type 0} {G : B → List Filled → Type 0} {Q : B → Type 0} {T : A → List Filled → Type 0} (run : List Filled → Outcome A) (q' : A → Parser B)
    (f : (y : A) (last : ℕ) → P y → Fresh G Q (T y) (run_of (q' y) last)) (k : (y : A) (us : List Filled) → P y → T y us → F y us) where
  -- a reader that took something, and one behind it, which took nothing more
  some-then : {lim : Limit} {ts : List Filled} {x : A} {c : Input} (o : Outcome B) (t : Filled) (front : List Filled) → ts ≡ (t ∷ front) ++ c.tokens → Stays lim run (t ∷ front) (Took x c) → Ends F P run (t ∷ front) → c.tokens ≡ left o → Stays lim (run_of (q' x) c.last) [] o
      → Half lim G Q (λ us. after (run us) q') ts o
  some-then (Took y d) t front e l n i j = some t front (e ∙ ap (λ us. (t ∷ front) ++ us) i)
      (λ rest m. ap (λ o. after o q') (l rest (subst (λ us. SameHead us rest) (sym i) m)) ∙ j rest m) (ends-bind q' f k n)
  some-then (Fault stop us) t front e l n i j = some t front (e ∙ ap (λ vs. (t ∷ front) ++ vs) i) j (ends-bind q' f k n)

  -- both took something
  both-took : {lim : Limit} {ts : List Filled} {x : A} {c : Input} (o : Outcome B) (front : List Filled) → ts ≡ front ++ c.tokens → Stays lim run front (Took x c)
      → (u : Filled) (inner : List Filled) → c.tokens ≡ (u ∷ inner) ++ left o → Stays lim (run_of (q' x) c.last) (u ∷ inner) o → Ends G Q (run_of (q' x) c.last) (u ∷ inner) → Half lim G Q (λ us. after (run us) q') ts o
  both-took {lim = lim} {ts = ts} {x = x} {c = c} o front e l u inner i j n = at front e l
    where
      onto : (front rest : List Filled) → Stays lim run front (Took x c) → after (run ((front ++ (u ∷ inner)) ++ rest)) q' ≡ q' x (record { tokens = (u ∷ inner) ++ rest; last = c.last })
      onto front rest l = ap (λ us. after (run us) q') (append_assoc front (u ∷ inner) rest) ∙ ap (λ o. after o q') (l ((u ∷ inner) ++ rest) (same-through (left o) u inner rest i))

      stays-both : (front : List Filled) (o : Outcome B) → Stays lim run front (Took x c) → Stays lim (run_of (q' x) c.last) (u ∷ inner) o → Stays lim (λ us. after (run us) q') (front ++ (u ∷ inner)) o
      stays-both front (Took y d) l j = λ rest m. onto front rest l ∙ j rest m
      stays-both front (Fault stop us) l j = j

      ends-both : (front : List Filled) → Stays lim run front (Took x c) → Ends G Q (λ us. after (run us) q') (front ++ (u ∷ inner))
      ends-both front l = λ at. let m = n at in record { more = m.more; value = m.value; last = m.last; ok = m.ok; reads = λ us h a. onto front (fills at m.more ++ us) l ∙ m.reads us h a }

      parts-both : (front : List Filled) → ts ≡ front ++ c.tokens → ts ≡ (front ++ (u ∷ inner)) ++ left o
      parts-both front e = e ∙ ap (λ us. front ++ us) i ∙ sym (append_assoc front (u ∷ inner) (left o))

      at : (front : List Filled) → ts ≡ front ++ c.tokens → Stays lim run front (Took x c) → Half lim G Q (λ us. after (run us) q') ts o
      at [] e l = some u inner (parts-both [] e) (stays-both [] o l j) (ends-both [] l)
      at (t ∷ front) e l = some t (front ++ (u ∷ inner)) (parts-both (t ∷ front) e) (stays-both (t ∷ front) o l j) (ends-both (t ∷ front) l)

  -- behind what the first took, the second stopped for depth
  beyond-both : {lim : Limit} {ts us : List Filled} {x : A} {c : Input} {t : Filled} (front inner : List Filled) → ts ≡ front ++ c.tokens → Stays lim run front (Took x c) → c.tokens ≡ inner ++ t ∷ us → IsInner t → Ends G Q (run_of (q' x) c.last) (inner ++ t ∷ []) → Half lim G Q (λ us. after (run us) q') ts (Fault Depth (t ∷ us))
  beyond-both {us = us} {x = x} {c = c} {t = t} front inner e l i z n = beyond (front ++ inner) (e ∙ ap (λ vs. front ++ vs) i ∙ sym (append_assoc front inner (t ∷ us))) z
      (λ at. let m = n at in record {
        more = m.more;
        value = m.value;
        last = m.last;
        ok = m.ok;
        reads = λ vs h a. ap (λ ws. after (run (ws ++ (fills at m.more ++ vs))) q') (append_assoc front inner (t ∷ [])) ∙ ap (λ ws. after (run ws) q') (append_assoc front (inner ++ t ∷ []) (fills at m.more ++ vs))
            ∙ ap (λ o. after o q') (l ((inner ++ t ∷ []) ++ (fills at m.more ++ vs)) (same-up-to inner t us (fills at m.more ++ vs) i)) ∙ m.reads vs h a;
      })

  -- the first took nothing
  none-then : {lim : Limit} {ts : List Filled} {x : A} {c : Input} (o : Outcome B) → ts ≡ c.tokens → Stays lim run [] (Took x c) → c.tokens ≡ left o → Stays lim (run_of (q' x) c.last) [] o → Half lim G Q (λ us. after (run us) q') ts o
  none-then (Took y d) e l i j = stands (e ∙ i) (λ rest m. ap (λ o. after o q') (l rest (subst (λ us. SameHead us rest) (sym i) m)) ∙ j rest m)
  none-then (Fault stop us) e l i j = stands (e ∙ i) j

  -- the second has another limit
  pub half-bind-by : {lim : Limit} {other : A → Limit} {ts : List Filled} {o : Outcome A} (q : A → Parser B) → Half lim F P run ts o → ((x : A) (c : Input) → o ≡ Took x c → Half (other x) G Q (run_of (q' x) c.last) c.tokens (q x c))
      → ((x : A) (c : Input) (front : List Filled) → o ≡ Took x c → ts ≡ front ++ c.tokens → (other x).allows (length c.tokens) → lim.allows (length ts)) → ((x : A) → (other x).shallow → lim.shallow) → Half lim G Q (λ us. after (run us) q') ts (after o q)
  half-bind-by {lim = lim} {other = other} {ts = ts} q (stands {o = Took x c} e l) h w v = by (h x c refl)
    where
      by : {o : Outcome B} → Half (other x) G Q (run_of (q' x) c.last) c.tokens o → Half lim G Q (λ us. after (run us) q') ts o
      by (stands {o = o} i j) = none-then {lim = lim} o e l i (stays-within (other x) lim (run_of (q' x) c.last) [] (v x) o j)
      by (some {o = o} u inner i j n) = both-took {lim = lim} o [] e l u inner i (stays-within (other x) lim (run_of (q' x) c.last) (u ∷ inner) (v x) o j) n
      by (beyond inner i z n) = beyond-both {lim = lim} [] inner e l i z n
      by (gives_up m) = gives_up (w x c [] refl e m)
  half-bind-by q (stands {o = Fault stop us} e l) h w v = stands e l
  half-bind-by {lim = lim} {other = other} {ts = ts} q (some {o = Took x c} t front e l n) h w v = by (h x c refl)
    where
      by : {o : Outcome B} → Half (other x) G Q (run_of (q' x) c.last) c.tokens o → Half lim G Q (λ us. after (run us) q') ts o
      by (stands {o = o} i j) = some-then {lim = lim} o t front e l n i (stays-within (other x) lim (run_of (q' x) c.last) [] (v x) o j)
      by (some {o = o} u inner i j m) = both-took {lim = lim} o (t ∷ front) e l u inner i (stays-within (other x) lim (run_of (q' x) c.last) (u ∷ inner) (v x) o j) m
      by (beyond inner i z m) = beyond-both {lim = lim} (t ∷ front) inner e l i z m
      by (gives_up m) = gives_up (w x c (t ∷ front) refl e m)
  half-bind-by q (some {o = Fault stop us} t front e l n) h w v = some t front e l (ends-bind q' f k n)
  half-bind-by q (beyond front e z n) h w v = beyond front e z (ends-bind q' f k n)
  half-bind-by q (gives_up k) h w v = gives_up k

  pub half-bind : {lim : Limit} {ts : List Filled} {o : Outcome A} (q : A → Parser B) → Half lim F P run ts o → ((x : A) (c : Input) → o ≡ Took x c → Half lim G Q (run_of (q' x) c.last) c.tokens (q x c)) → Half lim G Q (λ us. after (run us) q') ts (after o q)
  half-bind {lim = lim} q g h = half-bind-by {other = λ x. lim} q g h (λ x c front e d m. allowed-before lim front c.tokens d m) (λ x z. z)

module _ {A B : Type 0} {F : A → List Filled → Type 0} {P : A → Type 0} {G : B → List Filled → Type 0} {Q : B → Type 0} {S : List Filled → Type 0} {T : A → List Filled → Type 0} {run : List Filled → Outcome A} {ts : List Filled} {o : Outcome A} where
  pub bind-seen : {lim : Limit} (q q' : A → Parser B) → Goes lim F P S run ts o → ((x : A) (c : Input) → o ≡ Took x c → Half lim G Q (run_of (q' x) c.last) c.tokens (q x c)) → ((y : A) (last : ℕ) → P y → Fresh G Q (T y) (run_of (q' y) last)) → ((y : A) (us : List Filled) → P y → T y us → F y us)
      → Goes lim G Q S (λ us. after (run us) q') ts (after o q)
  bind-seen q q' g h f k = record { half = half-bind run q' f k q g.half h; fresh = fresh-bind q' f k g.fresh }

  -- what is read behind it has another limit
  pub bind-by : {lim : Limit} {other : A → Limit} (q q' : A → Parser B) → Goes lim F P S run ts o → ((x : A) (c : Input) → o ≡ Took x c → Half (other x) G Q (run_of (q' x) c.last) c.tokens (q x c))
      → ((x : A) (c : Input) (front : List Filled) → o ≡ Took x c → ts ≡ front ++ c.tokens → (other x).allows (length c.tokens) → lim.allows (length ts)) → ((x : A) → (other x).shallow → lim.shallow) → ((y : A) (last : ℕ) → P y → Fresh G Q (T y) (run_of (q' y) last)) → ((y : A) (us : List Filled) → P y → T y us → F y us)
      → Goes lim G Q S (λ us. after (run us) q') ts (after o q)
  bind-by q q' g h w v f k = record { half = half-bind-by run q' f k q g.half h w v; fresh = fresh-bind q' f k g.fresh }

  pub bind-if : {lim : Limit} (q q' : A → Parser B) → Goes lim F P S run ts o → ((x : A) (c : Input) → Half lim G Q (run_of (q' x) c.last) c.tokens (q x c)) → ((y : A) (last : ℕ) → P y → Fresh G Q (T y) (run_of (q' y) last)) → ((y : A) (us : List Filled) → P y → T y us → F y us)
      → Goes lim G Q S (λ us. after (run us) q') ts (after o q)
  bind-if q q' g h f k = bind-seen q q' g (λ x c e. h x c) f k

  pub bind : {lim : Limit} (q q' : A → Parser B) → Goes lim F P S run ts o → ((x : A) (c : Input) → Goes lim G Q (T x) (run_of (q' x) c.last) c.tokens (q x c)) → ((y : A) (us : List Filled) → T y us → F y us) → Goes lim G Q S (λ us. after (run us) q') ts (after o q)
  bind q q' g h k = bind-if q q' g (λ x c. (h x c).half) (λ y last ok. (h y (record { tokens = []; last = last })).fresh) (λ y us ok t. k y us t)

module _ {A B : Type 0} {F : A → List Filled → Type 0} {P : A → Type 0} {G : B → List Filled → Type 0} {Q : B → Type 0} {T : A → List Filled → Type 0} {run : List Filled → Outcome A} {ts : List Filled} {o : Outcome A} where
  pub bind-half : {lim : Limit} (q q' : A → Parser B) → Half lim F P run ts o → ((x : A) (c : Input) → Goes lim G Q (T x) (run_of (q' x) c.last) c.tokens (q x c)) → ((y : A) (us : List Filled) → T y us → F y us) → Half lim G Q (λ us. after (run us) q') ts (after o q)
  bind-half q q' g h k = half-bind run q' (λ y last ok. (h y (record { tokens = []; last = last })).fresh) (λ y us ok t. k y us t) q g (λ x c e. (h x c).half)

-- ## Choices

mark-is : (m : Mark) (t : Filled) → next_mark m t ≡ true → (x : Filled) × (mark m t ≡ Some x)
mark-is m t e = (t, ap (λ v. kept_if v t) e)

pub on-missed : {A B : Type 0} (test : Filled → Option B) (p : B → Parser A) (q : Parser A) (us : List Filled) (last : ℕ) → Misses test us → on test p q (record { tokens = us; last = last }) ≡ q (record { tokens = us; last = last })
on-missed test p q [] last h = refl
on-missed test p q (t ∷ us) last h = ap (λ o. on_taken o t us p q (record { tokens = t ∷ us; last = last })) h

same-next : (test : Filled → Bool) {ts us : List Filled} → SameHead ts us → next_is test us ≡ next_is test ts
same-next test nothing = refl
same-next test same = refl

same-begin : {ts us : List Filled} → SameHead ts us → begin_of us ≡ begin_of ts
same-begin nothing = refl
same-begin same = refl

module _ {A B : Type 0} {F : A → List Filled → Type 0} {P : A → Type 0} where
  pub half-on : {lim : Limit} (test : Filled → Option B) (p p' : B → Parser A) (q q' : Parser A) (s : Input) → ((x : B) (c : Input) → Onward lim F P (p x) (p' x) c) → Partly lim F P q q' s → Partly lim F P (on test p q) (on test p' q') s
  half-on {lim = lim} test p p' q q' s f g = at s.tokens s.last g
    where
      at : (ts : List Filled) (last : ℕ) → Partly lim F P q q' (record { tokens = ts; last = last }) → Partly lim F P (on test p q) (on test p' q') (record { tokens = ts; last = last })
      at [] last g = relay nothing-left g
        where
          nothing-left : (us : List Filled) → SameHead [] us → on test p' q' (record { tokens = us; last = last }) ≡ q' (record { tokens = us; last = last })
          nothing-left us nothing = refl
      at (t ∷ ts) last g = known (test t) refl g
        where
          hit : (x : B) → test t ≡ Some x → (us : List Filled) → on test p' q' (record { tokens = t ∷ us; last = last }) ≡ p' x (record { tokens = us; last = t.span.end })
          hit x e us = ap (λ o. on_taken o t us p' q' (record { tokens = t ∷ us; last = last })) e

          missed : test t ≡ None → (us : List Filled) → SameHead (t ∷ ts) us → on test p' q' (record { tokens = us; last = last }) ≡ q' (record { tokens = us; last = last })
          missed e us (same {us = vs}) = ap (λ o. on_taken o t vs p' q' (record { tokens = t ∷ vs; last = last })) e

          known : (o : Option B) → test t ≡ o → Partly lim F P q q' (record { tokens = t ∷ ts; last = last }) → Half lim F P (λ us. on test p' q' (record { tokens = us; last = last })) (t ∷ ts) (on_taken o t ts p q (record { tokens = t ∷ ts; last = last }))
          known (Some x) e g = behind-it t (λ us. hit x e us) (f x (record { tokens = ts; last = t.span.end }))
          known None e g = relay (missed e) g

  -- completed with no such token
  pub fresh-may : {S : List Filled → Type 0} (test : Filled → Option B) (p' : B → Parser A) (q' : Parser A) (last : ℕ) → Begins F P S q' last → ((us : List Filled) → S us → Misses test us) → Begins F P S (on test p' q') last
  fresh-may test p' q' last f miss = λ n. let g = f n in record { more = g.more; value = g.value; last = g.last; ok = g.ok; reads = λ us h a. on-missed test p' q' (fills n g.more ++ us) last (miss (fills n g.more ++ us) (g.starts us h)) ∙ g.reads us h a; starts = g.starts }

  -- with such a token
  pub fresh-must : {S : ℕ → List Filled → Type 0} (test : Filled → Option B) (k : TokenKind) (x : Span → B) → ((span : Span) → test (put k span) ≡ Some (x span)) → (p' : B → Parser A) (q' : Parser A) (last : ℕ) → ((n : ℕ) → Begins F P (S n) (p' (x (at_place n))) (suc n)) → Begins F P (λ us. Head k us) (on test p' q') last
  fresh-must test k x e p' q' last f = λ n. let g = f n (suc n) in record {
    more = k ∷ g.more;
    value = g.value;
    last = g.last;
    ok = g.ok;
    reads = λ us h a. ap (λ o. on_taken o (put k (at_place n)) (fills (suc n) g.more ++ us) p' q' (record { tokens = put k (at_place n) ∷ (fills (suc n) g.more ++ us); last = last })) (e (at_place n)) ∙ g.reads us h a;
    starts = λ us h. head;
  }

  pub may : {lim : Limit} {S : List Filled → Type 0} (test : Filled → Option B) (p p' : B → Parser A) (q q' : Parser A) (s : Input) → ((x : B) (c : Input) → Onward lim F P (p x) (p' x) c) → Viable lim F P S q q' s → ((us : List Filled) → S us → Misses test us)
      → Viable lim F P S (on test p q) (on test p' q') s
  may test p p' q q' s f g miss = record { half = half-on test p p' q q' s f g.half; fresh = fresh-may test p' q' s.last g.fresh miss }

  pub must : {lim : Limit} {S : B → List Filled → Type 0} (test : Filled → Option B) (k : TokenKind) (x : Span → B) → ((span : Span) → test (put k span) ≡ Some (x span)) → (p p' : B → Parser A) (q q' : Parser A) (s : Input) → ((y : B) (c : Input) → Viable lim F P (S y) (p y) (p' y) c) → Partly lim F P q q' s
      → Viable lim F P (λ us. Head k us) (on test p q) (on test p' q') s
  must {S = S} test k x e p p' q q' s f g = record { half = half-on test p p' q q' s (λ y c. past (f y c)) g; fresh = fresh-must {S = λ n. S (x (at_place n))} test k x e p' q' s.last (λ n. (f (x (at_place n)) (record { tokens = []; last = suc n })).fresh) }

module _ {A : Type 0} {F : A → List Filled → Type 0} {P : A → Type 0} where
  pub either : {lim : Limit} {S : List Filled → Type 0} (b : Bool) (p p' q q' : Parser A) (s : Input) → Viable lim F P S p p' s → Viable lim F P S q q' s → Viable lim F P S (choose b p q) (choose b p' q') s
  either true p p' q q' s f g = f
  either false p p' q q' s f g = g

  pub half-either : {lim : Limit} (b : Bool) (p p' q q' : Parser A) (s : Input) → Partly lim F P p p' s → Partly lim F P q q' s → Partly lim F P (choose b p q) (choose b p' q') s
  half-either true p p' q q' s f g = f
  half-either false p p' q q' s f g = g

  pub half-choice-no : {lim : Limit} (b : Bool) → b ≡ false → (p p' q q' : Parser A) (s : Input) → Partly lim F P q q' s → Partly lim F P (choose b p q) (choose b p' q') s
  half-choice-no {lim = lim} b e p p' q q' s f = subst (λ v. Partly lim F P (choose v p q) (choose v p' q') s) (sym e) f

  pub fresh-choice-no : {S : List Filled → Type 0} (b : Bool) → b ≡ false → (p' q' : Parser A) (last : ℕ) → Begins F P S q' last → Begins F P S (choose b p' q') last
  fresh-choice-no {S = S} b e p' q' last f = subst (λ v. Begins F P S (choose v p' q') last) (sym e) f

  pub fresh-choice-yes : {S : List Filled → Type 0} (b : Bool) → b ≡ true → (p' q' : Parser A) (last : ℕ) → Begins F P S p' last → Begins F P S (choose b p' q') last
  fresh-choice-yes {S = S} b e p' q' last f = subst (λ v. Begins F P S (choose v p' q') last) (sym e) f

  half-either-seen : {lim : Limit} (b : Bool) (p p' q q' : Parser A) (s : Input) → (b ≡ true → Partly lim F P p p' s) → Partly lim F P q q' s → Partly lim F P (choose b p q) (choose b p' q') s
  half-either-seen true p p' q q' s f g = f refl
  half-either-seen false p p' q q' s f g = g

  -- the next token is seen to be such a one
  half-looks-seen : {lim : Limit} (test : Filled → Bool) (p p' q q' : Parser A) (s : Input) → (next_is test s.tokens ≡ true → Partly lim F P p p' s) → Partly lim F P q q' s → Partly lim F P (if_next test p q) (if_next test p' q') s
  half-looks-seen test p p' q q' s f g = relay (λ us k. ap (λ b. choose b p' q' (record { tokens = us; last = s.last })) (same-next test k)) (half-either-seen (next_is test s.tokens) p p' q q' s f g)

  pub half-looks : {lim : Limit} (test : Filled → Bool) (p p' q q' : Parser A) (s : Input) → Partly lim F P p p' s → Partly lim F P q q' s → Partly lim F P (if_next test p q) (if_next test p' q') s
  half-looks test p p' q q' s f g = relay (λ us k. ap (λ b. choose b p' q' (record { tokens = us; last = s.last })) (same-next test k)) (half-either (next_is test s.tokens) p p' q q' s f g)

  pub fresh-no : {S : List Filled → Type 0} (test : Filled → Bool) (p' q' : Parser A) (last : ℕ) → Begins F P S q' last → ((us : List Filled) → S us → next_is test us ≡ false) → Begins F P S (if_next test p' q') last
  fresh-no test p' q' last f miss = λ n. let g = f n in record { more = g.more; value = g.value; last = g.last; ok = g.ok; reads = λ us h a. ap (λ b. choose b p' q' (record { tokens = fills n g.more ++ us; last = last })) (miss (fills n g.more ++ us) (g.starts us h)) ∙ g.reads us h a; starts = g.starts }

  pub fresh-yes : {S : List Filled → Type 0} (test : Filled → Bool) (p' q' : Parser A) (last : ℕ) → Begins F P S p' last → ((us : List Filled) → S us → next_is test us ≡ true) → Begins F P S (if_next test p' q') last
  fresh-yes test p' q' last f hit = λ n. let g = f n in record { more = g.more; value = g.value; last = g.last; ok = g.ok; reads = λ us h a. ap (λ b. choose b p' q' (record { tokens = fills n g.more ++ us; last = last })) (hit (fills n g.more ++ us) (g.starts us h)) ∙ g.reads us h a; starts = g.starts }

  -- completed with the second reader, or with the first
  pub looks-no : {lim : Limit} {S : List Filled → Type 0} (test : Filled → Bool) (p p' q q' : Parser A) (s : Input) → Partly lim F P p p' s → Viable lim F P S q q' s → ((us : List Filled) → S us → next_is test us ≡ false) → Viable lim F P S (if_next test p q) (if_next test p' q') s
  looks-no test p p' q q' s f g miss = record { half = half-looks test p p' q q' s f g.half; fresh = fresh-no test p' q' s.last g.fresh miss }

  pub looks-no-seen : {lim : Limit} {S : List Filled → Type 0} (test : Filled → Bool) (p p' q q' : Parser A) (s : Input) → (next_is test s.tokens ≡ true → Partly lim F P p p' s) → Viable lim F P S q q' s → ((us : List Filled) → S us → next_is test us ≡ false) → Viable lim F P S (if_next test p q) (if_next test p' q') s
  looks-no-seen test p p' q q' s f g miss = record { half = half-looks-seen test p p' q q' s f g.half; fresh = fresh-no test p' q' s.last g.fresh miss }

  pub looks-yes : {lim : Limit} {S : List Filled → Type 0} (test : Filled → Bool) (p p' q q' : Parser A) (s : Input) → Viable lim F P S p p' s → Partly lim F P q q' s → ((us : List Filled) → S us → next_is test us ≡ true) → Viable lim F P S (if_next test p q) (if_next test p' q') s
  looks-yes test p p' q q' s f g hit = record { half = half-looks test p p' q q' s f.half g; fresh = fresh-yes test p' q' s.last f.fresh hit }

  -- what depends on where the next token begins
  pub half-begins : {lim : Limit} (p p' : ℕ → Parser A) (s : Input) → ((at : ℕ) → Partly lim F P (p at) (p' at) s) → Partly lim F P (from p) (from p') s
  half-begins p p' s f = relay (λ us k. ap (λ at. p' at (record { tokens = us; last = s.last })) (same-begin k)) (f (begin_of s.tokens))

  pub begins : {lim : Limit} {S : List Filled → Type 0} (p p' : ℕ → Parser A) (s : Input) → ((n : ℕ) (us : List Filled) → S us → Stands n us → begin_of us ≡ n) → ((at : ℕ) → Viable lim F P S (p at) (p' at) s) → Viable lim F P S (from p) (from p') s
  begins p p' s place f =
      record {
        half = half-begins p p' s (λ at. (f at).half);
        fresh = λ n. let e = (f n).fresh n in record { more = e.more; value = e.value; last = e.last; ok = e.ok; reads = λ us h a. ap (λ at. p' at (record { tokens = fills n e.more ++ us; last = s.last })) (place n (fills n e.more ++ us) (e.starts us h) (filled-stand n e.more us a)) ∙ e.reads us h a; starts = e.starts };
      }

  -- ## Groups and semicolons

  pub half-insertable : {lim : Limit} (p p' q q' : Parser A) (s : Input) → Partly lim F P p p' s → Partly lim F P q q' s → Partly lim F P (λ c. choose (is_insertable c.tokens) p q c) (λ c. choose (is_insertable c.tokens) p' q' c) s
  half-insertable p p' q q' s f g = relay (λ us k. ap (λ b. choose b p' q' (record { tokens = us; last = s.last })) (same-ending k)) (half-either (is_insertable s.tokens) p p' q q' s f g)
    where
      same-ending : {ts us : List Filled} → SameHead ts us → is_insertable us ≡ is_insertable ts
      same-ending nothing = refl
      same-ending same = refl

  pub half-mode : {lim : Limit} (b b' : Bool) → b' ≡ b → (p p' : Parser A) (s : Input) → Partly lim F P p p' s → Partly lim F P (choose b p refused) (choose b' p' refused) s
  half-mode true b' e p p' s f = relay (λ us k. ap (λ v. choose v p' refused (record { tokens = us; last = s.last })) e) f
  half-mode false b' e p p' s f = nowhere-by (choose b' p' refused) s

  -- The second reader goes on inside a construct that opens with a token of the test. Where the first one may open none, that token is
  -- completed by what stands inside.
  pub half-opening : {B : Type 0} {S : B → List Filled → Type 0} {lim other : Limit} (i j : Inner) → j.may_open ≡ true → ((n : ℕ) → other.allows n → lim.allows n) → (i.may_open ≡ true → other.shallow → lim.shallow) → (test : Filled → Option B) (opens : Filled → Bool) → ((t : Filled) → opens t ≡ true → (x : B) × (test t ≡ Some x)) → ((t : Filled) → t.kind ≡ Read kinds.End → opens t ≡ false) → (p p' : B → Parser A) (q q' : Parser A) (s : Input)
      → ((x : B) (c : Input) → Viable other F P (S x) (p x) (p' x) c) → Partly lim F P q q' s → Partly lim F P (if_next opens (choose i.may_open (on test p q) (fails Depth)) q) (if_next opens (choose j.may_open (on test p' q') (fails Depth)) q') s
  half-opening {B = B} {S = S} {lim = lim} {other = other} i j o w v test opens known closed p p' q q' s f g = half-looks-seen opens _ _ q q' s (λ seen. relay (λ us k. ap (λ b. choose b (on test p' q') (fails Depth) (record { tokens = us; last = s.last })) o) (by i.may_open refl s.tokens s.last seen g)) g
    where
      ends-at : (t : Filled) (x : B) (last : ℕ) → test t ≡ Some x → Ends F P (λ us. on test p' q' (record { tokens = us; last = last })) (t ∷ [])
      ends-at t x last e =
          λ at. let n = (f x (record { tokens = []; last = t.span.end })).fresh at in
          record { more = n.more; value = n.value; last = n.last; ok = n.ok; reads = λ us m a. ap (λ z. on_taken z t (fills at n.more ++ us) p' q' (record { tokens = t ∷ (fills at n.more ++ us); last = last })) e ∙ n.reads us m a }

      by : (b : Bool) → i.may_open ≡ b → (ts : List Filled) (last : ℕ) → next_is opens ts ≡ true → Partly lim F P q q' (record { tokens = ts; last = last })
          → Half lim F P (λ us. on test p' q' (record { tokens = us; last = last })) ts (choose b (on test p q) (fails Depth) (record { tokens = ts; last = last }))
      by true e ts last seen g = half-on test p p' q q' (record { tokens = ts; last = last }) (λ x c. past (goes-within w (v e) (f x c))) g
      by false e [] last seen g = absurd (false≢true seen)
      by false e (t ∷ ts) last seen g = let x = known t seen in beyond [] refl (λ k. false≢true (sym (closed t k) ∙ seen)) (ends-at t x.0 last x.1)

  -- a group, of which what is read inside has other limits
  pub half-group-in : {S : List Filled → Type 0} {lim other : Limit} (i j : Inner) → j.may_open ≡ true → ((n : ℕ) → other.allows n → lim.allows n) → (i.may_open ≡ true → other.shallow → lim.shallow) → (m : Mark) (p p' q q' : Parser A) (s : Input) → ((c : Input) → Viable other F P S p p' c) → Partly lim F P q q' s → Partly lim F P (on_group i m p q) (on_group j m p' q') s
  half-group-in {S = S} i j o w v m p p' q q' s f g = half-opening {S = λ x. S} i j o w v (mark m) (next_mark m) (mark-is m) (λ t k. ap (λ x. is_mark m x) k) (λ t. p) (λ t. p') q q' s (λ t c. f c) g

  pub half-group : {S : List Filled → Type 0} {lim : Limit} (i j : Inner) → j.may_open ≡ true → (m : Mark) (p p' q q' : Parser A) (s : Input) → ((c : Input) → Viable lim F P S p p' c) → Partly lim F P q q' s → Partly lim F P (on_group i m p q) (on_group j m p' q') s
  half-group i j o m p p' q q' s f g = half-group-in i j o (λ n a. a) (λ e z. z) m p p' q q' s f g

  fresh-group : {S : List Filled → Type 0} (j : Inner) → j.may_open ≡ true → (m : Mark) → ((span : Span) → next_mark m (put (Punctuator m) span) ≡ true) → (p' q' : Parser A) (last : ℕ) → ((n : ℕ) → Begins F P S p' (suc n)) → Begins F P (λ us. Head (Punctuator m) us) (on_group j m p' q') last
  fresh-group j o m e p' q' last f = λ n. let g = f n (suc n) in record {
    more = Punctuator m ∷ g.more;
    value = g.value;
    last = g.last;
    ok = g.ok;
    reads = λ us h a. ap (λ b. choose b (choose j.may_open (on (mark m) (λ t. p') q') (fails Depth)) q' (at_mark n (fills (suc n) g.more ++ us))) (e (at_place n)) ∙ ap (λ b. choose b (on (mark m) (λ t. p') q') (fails Depth) (at_mark n (fills (suc n) g.more ++ us))) o
        ∙ ap (λ b. on_taken (kept_if b (put (Punctuator m) (at_place n))) (put (Punctuator m) (at_place n)) (fills (suc n) g.more ++ us) (λ t. p') q' (at_mark n (fills (suc n) g.more ++ us))) (e (at_place n)) ∙ g.reads us h a;
    starts = λ us h. head;
  }
    where
      at_mark : ℕ → List Filled → Input
      at_mark n us = record { tokens = put (Punctuator m) (at_place n) ∷ us; last = last }

  pub group-must-in : {lim other : Limit} {S : List Filled → Type 0} (i j : Inner) → j.may_open ≡ true → ((n : ℕ) → other.allows n → lim.allows n) → (i.may_open ≡ true → other.shallow → lim.shallow) → (m : Mark) → ((span : Span) → next_mark m (put (Punctuator m) span) ≡ true) → (p p' q q' : Parser A) (s : Input) → ((c : Input) → Viable other F P S p p' c) → Partly lim F P q q' s
      → Viable lim F P (λ us. Head (Punctuator m) us) (on_group i m p q) (on_group j m p' q') s
  group-must-in i j o w v m e p p' q q' s f g = record { half = half-group-in i j o w v m p p' q q' s f g; fresh = fresh-group j o m e p' q' s.last (λ n. (f (record { tokens = []; last = suc n })).fresh) }

  pub group-must : {lim : Limit} {S : List Filled → Type 0} (i j : Inner) → j.may_open ≡ true → (m : Mark) → ((span : Span) → next_mark m (put (Punctuator m) span) ≡ true) → (p p' q q' : Parser A) (s : Input) → ((c : Input) → Viable lim F P S p p' c) → Partly lim F P q q' s
      → Viable lim F P (λ us. Head (Punctuator m) us) (on_group i m p q) (on_group j m p' q') s
  group-must i j o m e p p' q q' s f g = group-must-in i j o (λ n a. a) (λ e z. z) m e p p' q q' s f g

  pub fresh-without : {S : List Filled → Type 0} (j : Inner) (m : Mark) (p' q' : Parser A) (last : ℕ) → Begins F P S q' last → ((us : List Filled) → S us → next_is (next_mark m) us ≡ false) → Begins F P S (on_group j m p' q') last
  fresh-without j m p' q' last f miss = fresh-no (next_mark m) _ q' last f miss

  pub group-may : {lim : Limit} {S T : List Filled → Type 0} (i j : Inner) → j.may_open ≡ true → (m : Mark) (p p' q q' : Parser A) (s : Input) → ((c : Input) → Viable lim F P T p p' c) → Viable lim F P S q q' s → ((us : List Filled) → S us → next_is (next_mark m) us ≡ false)
      → Viable lim F P S (on_group i m p q) (on_group j m p' q') s
  group-may i j o m p p' q q' s f g miss = record { half = half-group i j o m p p' q q' s f g.half; fresh = fresh-without j m p' q' s.last g.fresh miss }

  -- ## Turns

  pub endless : {lim : Limit} {S : List Filled → Type 0} {run : List Filled → Outcome A} {ts : List Filled} → Fresh F P S run → Goes lim F P S run ts (Fault Endless ts)
  endless f = record { half = stops (λ e. absurd (cc)); fresh = f }

  -- other completions
  pub weaken : {lim : Limit} {G : A → List Filled → Type 0} {Q : A → Type 0} {S : List Filled → Type 0} {run : List Filled → Outcome A} {ts : List Filled} {o : Outcome A} → ((y : A) → P y → Q y) → ((y : A) (us : List Filled) → P y → G y us → F y us) → Goes lim F P S run ts o → Goes lim G Q S run ts o
  weaken {lim = lim} {G = G} {Q = Q} v w g = record { half = half-weak g.half; fresh = λ at. let n = g.fresh at in record { more = n.more; value = n.value; last = n.last; ok = v n.value n.ok; reads = λ us h a. n.reads us (w n.value us n.ok h) a; starts = λ us h. n.starts us (w n.value us n.ok h) } }
    where
      half-weak : {run : List Filled → Outcome A} {ts : List Filled} {o : Outcome A} → Half lim F P run ts o → Half lim G Q run ts o
      half-weak (stands e k) = stands e k
      half-weak (some t front e k ends) = some t front e k (λ at. let n = ends at in record { more = n.more; value = n.value; last = n.last; ok = v n.value n.ok; reads = λ us h a. n.reads us (w n.value us n.ok h) a })
      half-weak (beyond front e z ends) = beyond front e z (λ at. let n = ends at in record { more = n.more; value = n.value; last = n.last; ok = v n.value n.ok; reads = λ us h a. n.reads us (w n.value us n.ok h) a })
      half-weak (gives_up k) = gives_up k

-- ## Single tokens

pub take : {lim : Limit} {B : Type 0} {F : B → List Filled → Type 0} (test : Filled → Option B) (k : TokenKind) (x : Span → B) → ((span : Span) → test (put k span) ≡ Some (x span)) → (s : Input) → Viable lim F Any (λ us. Head k us) (take_as test) (take_as test) s
take test k x e s = must test k x e _ _ _ _ s (λ y c. done-ok tt) (nowhere s)

pub done : {lim : Limit} {A : Type 0} {F : A → List Filled → Type 0} {ts : List Filled} {last : ℕ} {x : A} → Goes lim F Any (λ us. F x us) (λ us. Took x (record { tokens = us; last = last })) ts (Took x (record { tokens = ts; last = last }))
done = done-ok tt

pub head-place : {k : TokenKind} (n : ℕ) (us : List Filled) → Head k us → Stands n us → begin_of us ≡ n
head-place n us head a = a

pub on-head : {k : TokenKind} (Q : List Filled → Type 0) → ((span : Span) (us : List Filled) → Q (put k span ∷ us)) → (us : List Filled) → Head k us → Q us
on-head Q f us (head {span = span} {us = vs}) = f span vs

-- nothing is left to be completed
pub finished-ok : {A : Type 0} {F : A → List Filled → Type 0} {P : A → Type 0} {last : ℕ} {x : A} → P x → Fresh F P (λ us. F x us) (λ us. Took x (record { tokens = us; last = last }))
finished-ok {last = last} {x = x} ok = λ n. record { more = []; value = x; last = last; ok = ok; reads = λ us h a. refl; starts = λ us h. h }

pub finished : {A : Type 0} {F : A → List Filled → Type 0} {last : ℕ} {x : A} → Fresh F Any (λ us. F x us) (λ us. Took x (record { tokens = us; last = last }))
finished = finished-ok tt

pub begins-fresh : {A : Type 0} {F : A → List Filled → Type 0} {P : A → Type 0} {S : List Filled → Type 0} (p' : ℕ → Parser A) (last : ℕ) → ((n : ℕ) (us : List Filled) → S us → Stands n us → begin_of us ≡ n) → ((at : ℕ) → Begins F P S (p' at) last) → Begins F P S (from p') last
begins-fresh p' last place f = λ n. let e = f n n in record { more = e.more; value = e.value; last = e.last; ok = e.ok; reads = λ us h a. ap (λ at. p' at (record { tokens = fills n e.more ++ us; last = last })) (place n (fills n e.more ++ us) (e.starts us h) (filled-stand n e.more us a)) ∙ e.reads us h a; starts = e.starts }

-- by tokens of which is not said how they begin
pub anywhere : {lim : Limit} {A : Type 0} {F : A → List Filled → Type 0} {P : A → Type 0} {S : List Filled → Type 0} {run : List Filled → Outcome A} {ts : List Filled} {o : Outcome A} → Goes lim F P S run ts o → Goes lim F P Anything run ts o
anywhere g = record { half = g.half; fresh = free g.fresh }

pub no-next : {A : Type 0} (test : Filled → Bool) (p q : Parser A) (us : List Filled) (last : ℕ) → next_is test us ≡ false → if_next test p q (record { tokens = us; last = last }) ≡ q (record { tokens = us; last = last })
no-next test p q us last e = ap (λ b. choose b p q (record { tokens = us; last = last })) e

-- what takes nothing there
pub nothing-more : {A : Type 0} {F : A → List Filled → Type 0} {P : A → Type 0} {run : List Filled → Outcome A} (x : A) (last : ℕ) → P x → ((us : List Filled) → F x us → run us ≡ Took x (record { tokens = us; last = last })) → Fresh F P (λ us. F x us) run
nothing-more x last ok r = λ n. record { more = []; value = x; last = last; ok = ok; reads = λ us h a. r us h; starts = λ us h. h }
