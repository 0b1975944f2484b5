-- A reader looks at no token past the first one that it doesn't take: what it makes of tokens is the same for all others that are
-- the same up to that one. And what it takes stays the same, and a fault too, where loops have more turns and more constructs may
-- open, unless it gave up for want of these.
use Rattle.std.proofs.Common.{◌≡◌, ◌∙◌, ℕ, zero, suc, Bool, true, false, List, [], ◌∷◌, ◌++◌, append_assoc, Option, Some, None, refl, sym, ap, subst}
use Rattle.es5_ast.specs.Lexical.{Token5}
use Rattle.es5_ast.specs.Grammar.{begin_of}
use Rattle.es5_reading.specs.Parser.{Input5, Stop5, Syntax, Depth, Outside, Endless, Outcome5, Took, Fault, Parser, fails, after, on, on_taken, choose, next_is, if_next, from, take_as, mark, next_mark, is_insertable, Inner5, on_group}
use Rattle.es5_reading.proofs.Follows.{SameHead, nothing, same}
use Rattle.es5_reading_laws.specs.Laws.{IsRow, Says}

-- ## Tokens that begin the same

through : {ts us : List Token5} (front rest : List Token5) → ts ≡ front ++ us → SameHead us rest → SameHead ts (front ++ rest)
through [] rest e h = subst (λ vs. SameHead vs rest) (sym e) h
through {us = us} (t ∷ front) rest e h = subst (λ vs. SameHead vs (t ∷ front ++ rest)) (sym e) same

-- whether there is more of something, of which there is so much more
pub data Slack : ℕ → Type 0 where
  slack : {l : ℕ} → Slack (suc l)

-- how many turns more loops have, and how many constructs more may open
pub record More : Type 0 where
  pub turns : ℕ
  pub room : ℕ

abbrev pub more_of : ℕ → ℕ → More
more_of turns room = record { turns = turns; room = room }

-- ## What a reader makes of tokens

-- A reader gave this of the tokens; the run is the one of a reader with so much more, on any tokens.
pub data LocalOf {A : Type 0} (l : More) (run : List Token5 → Outcome5 A) (ts : List Token5) : Outcome5 A → Type 0 where
  took_so : {x : A} {c : Input5} (front : List Token5) → ts ≡ front ++ c.tokens → ((rest : List Token5) → SameHead c.tokens rest → run (front ++ rest) ≡ Took x (record { tokens = rest; last = c.last })) → LocalOf l run ts (Took x c)
  stops_so : {stop : Stop5} {us : List Token5} (front : List Token5) → ts ≡ front ++ us → Says stop us → ((rest : List Token5) → SameHead us rest → run (front ++ rest) ≡ Fault stop rest) → LocalOf l run ts (Fault stop us)
  too_deep : {us : List Token5} → Slack l.room → LocalOf l run ts (Fault Depth us)
  too_long : {us : List Token5} → Slack l.turns → LocalOf l run ts (Fault Endless us)

abbrev pub Local : {A : Type 0} → More → Parser A → Parser A → Input5 → Type 0
Local l p p' s = LocalOf l (λ us. p' (record { tokens = us; last = s.last })) s.tokens (p s)

-- after the tokens, what a reader makes of those behind them
behind : {A : Type 0} {l : More} {run run' : List Token5 → Outcome5 A} {ts us : List Token5} {o : Outcome5 A} (front : List Token5) → ts ≡ front ++ us
    → ((rest : List Token5) → SameHead us rest → run' (front ++ rest) ≡ run rest) → LocalOf l run us o → LocalOf l run' ts o
behind {run = run} {run' = run'} front e h (took_so inner d r) =
    took_so (front ++ inner) (e ∙ ap (λ vs. front ++ vs) d ∙ sym (append_assoc front inner _)) (λ rest k. ap run' (append_assoc front inner rest) ∙ h (inner ++ rest) (through inner rest d k) ∙ r rest k)
behind {run = run} {run' = run'} front e h (stops_so inner d m r) =
    stops_so (front ++ inner) (e ∙ ap (λ vs. front ++ vs) d ∙ sym (append_assoc front inner _)) m (λ rest k. ap run' (append_assoc front inner rest) ∙ h (inner ++ rest) (through inner rest d k) ∙ r rest k)
behind front e h (too_deep m) = too_deep m
behind front e h (too_long m) = too_long m

-- where both runs are the same
pub relay : {A : Type 0} {l : More} {run run' : List Token5 → Outcome5 A} {ts : List Token5} {o : Outcome5 A} → ((us : List Token5) → SameHead ts us → run' us ≡ run us) → LocalOf l run ts o → LocalOf l run' ts o
relay h r = behind [] refl h r

pub bind : {A B : Type 0} {l : More} {ts : List Token5} {o : Outcome5 A} {run : List Token5 → Outcome5 A} (q q' : A → Parser B)
    → LocalOf l run ts o → ((x : A) (c : Input5) → Local l (q x) (q' x) c) → LocalOf l (λ us. after (run us) q') ts (after o q)
bind q q' (took_so {x = x} {c = c} front e r) f = behind front e (λ rest k. ap (λ o. after o q') (r rest k)) (f x c)
bind q q' (stops_so front e m r) f = stops_so front e m (λ rest k. ap (λ o. after o q') (r rest k))
bind q q' (too_deep m) f = too_deep m
bind q q' (too_long m) f = too_long m

pub done : {A : Type 0} {l : More} {ts : List Token5} {last : ℕ} {x : A} → LocalOf l (λ us. Took x (record { tokens = us; last = last })) ts (Took x (record { tokens = ts; last = last }))
done = took_so [] refl (λ rest k. refl)

pub stops : {A : Type 0} {l : More} {ts : List Token5} → LocalOf {A = A} l (λ us. Fault Syntax us) ts (Fault Syntax ts)
stops = stops_so [] refl tt (λ rest k. refl)

pub deep : {A : Type 0} {l : More} {ts : List Token5} → LocalOf {A = A} l (λ us. Fault Depth us) ts (Fault Depth ts)
deep = stops_so [] refl tt (λ rest k. refl)

pub left_out : {A : Type 0} {l : More} {ts : List Token5} {rule : ℕ} → IsRow rule ts → LocalOf {A = A} l (λ us. Fault (Outside rule) us) ts (Fault (Outside rule) ts)
left_out m = stops_so [] refl m (λ rest k. refl)

-- ## Choices

pub either : {A : Type 0} {l : More} (b : Bool) (p p' q q' : Parser A) (s : Input5) → Local l p p' s → Local l q q' s → Local l (choose b p q) (choose b p' q') s
either true p p' q q' s f g = f
either false p p' q q' s f g = g

pub same-next : (test : Token5 → Bool) {ts us : List Token5} → SameHead ts us → next_is test us ≡ next_is test ts
same-next test nothing = refl
same-next test same = refl

pub looks : {A : Type 0} {l : More} (test : Token5 → Bool) (p p' q q' : Parser A) (s : Input5) → Local l p p' s → Local l q q' s → Local l (if_next test p q) (if_next test p' q') s
looks test p p' q q' s f g = relay (λ us k. ap (λ b. choose b p' q' (record { tokens = us; last = s.last })) (same-next test k)) (either (next_is test s.tokens) p p' q q' s f g)

-- the same where the first way asks what the next token is
pub looks_so : {A : Type 0} {l : More} (test : Token5 → Bool) (p p' q q' : Parser A) (s : Input5) → (next_is test s.tokens ≡ true → Local l p p' s) → Local l q q' s → Local l (if_next test p q) (if_next test p' q') s
looks_so {A = A} {l = l} test p p' q q' s f g = relay (λ us k. ap (λ b. choose b p' q' (record { tokens = us; last = s.last })) (same-next test k)) (at (next_is test s.tokens) refl)
  where
    at : (b : Bool) → next_is test s.tokens ≡ b → Local l (choose b p q) (choose b p' q') s
    at true e = f e
    at false e = g

pub insertable : {A : Type 0} {l : More} (p p' q q' : Parser A) (s : Input5) → Local l p p' s → Local l q q' s → Local l (λ c. choose (is_insertable c.tokens) p q c) (λ c. choose (is_insertable c.tokens) p' q' c) s
insertable p p' q q' s f g = relay (λ us k. ap (λ b. choose b p' q' (record { tokens = us; last = s.last })) (same-ending k)) (either (is_insertable s.tokens) p p' q q' s f g)
  where
    same-ending : {ts us : List Token5} → SameHead ts us → is_insertable us ≡ is_insertable ts
    same-ending nothing = refl
    same-ending same = refl

pub next : {A B : Type 0} {l : More} (test : Token5 → Option B) (p p' : B → Parser A) (q q' : Parser A) (s : Input5) → ((x : B) (c : Input5) → Local l (p x) (p' x) c) → Local l q q' s → Local l (on test p q) (on test p' q') s
next {A = A} {B = B} {l = l} test p p' q q' s f g = at s.tokens s.last g
  where
    at : (ts : List Token5) (last : ℕ) → Local l q q' (record { tokens = ts; last = last }) → Local l (on test p q) (on test p' q') (record { tokens = ts; last = last })
    at [] last g = relay nothing-left g
      where
        nothing-left : (us : List Token5) → SameHead [] us → on test p' q' (record { tokens = us; last = last }) ≡ q' (record { tokens = us; last = last })
        nothing-left us nothing = refl
    at (t ∷ ts) last g = known (test t) refl g
      where
        hit : (x : B) → test t ≡ Some x → (us : List Token5) → on test p' q' (record { tokens = t ∷ us; last = last }) ≡ p' x (record { tokens = us; last = t.end })
        hit x e us = ap (λ o. on_taken o t us p' q' (record { tokens = t ∷ us; last = last })) e

        missed : test t ≡ None → (us : List Token5) → SameHead (t ∷ ts) us → on test p' q' (record { tokens = us; last = last }) ≡ q' (record { tokens = us; last = last })
        missed e us (same {us = vs}) = ap (λ o. on_taken o t vs p' q' (record { tokens = t ∷ vs; last = last })) e

        known : (o : Option B) → test t ≡ o → Local l q q' (record { tokens = t ∷ ts; last = last }) → LocalOf l (λ us. on test p' q' (record { tokens = us; last = last })) (t ∷ ts) (on_taken o t ts p q (record { tokens = t ∷ ts; last = last }))
        known (Some x) e g = behind (t ∷ []) refl (λ us k. hit x e us) (f x (record { tokens = ts; last = t.end }))
        known None e g = relay (missed e) g

pub take : {B : Type 0} {l : More} (test : Token5 → Option B) (s : Input5) → Local l (take_as test) (take_as test) s
take test s = next test _ _ _ _ s (λ x c. done) stops

-- what depends on where the next token begins
pub begins : {A : Type 0} {l : More} (p p' : ℕ → Parser A) (s : Input5) → ((at : ℕ) → Local l (p at) (p' at) s) → Local l (from p) (from p') s
begins p p' s f = relay (λ us k. ap (λ at. p' at (record { tokens = us; last = s.last })) (same-begin k)) (f (begin_of s.tokens))
  where
    same-begin : {ts us : List Token5} → SameHead ts us → begin_of us ≡ begin_of ts
    same-begin nothing = refl
    same-begin same = refl

-- ## More constructs that may open

-- where one more may open, it may with more room
pub data Opens (l : More) : Bool → Bool → Type 0 where
  alike : {b : Bool} → Opens l b b
  opens_now : Slack l.room → Opens l false true

-- what is read inside a construct that may open
pub opened : {A : Type 0} {l : More} {b b' : Bool} (p p' : Parser A) (s : Input5) → Opens l b b' → (b ≡ true → Local l p p' s) → Local l (choose b p (fails Depth)) (choose b' p' (fails Depth)) s
opened {b = true} p p' s alike f = f refl
opened {b = false} p p' s alike f = deep
opened p p' s (opens_now m) f = too_deep m

pub group : {A : Type 0} {l : More} (i j : Inner5) → Opens l i.may_open j.may_open → (m : List ℕ) (p p' q q' : Parser A) (s : Input5) → ((c : Input5) → i.may_open ≡ true → Local l p p' c) → Local l q q' s → Local l (on_group i m p q) (on_group j m p' q') s
group i j o m p p' q q' s f g = looks (next_mark m) _ _ q q' s (opened _ _ s o (λ e. next (mark m) (λ t. p) (λ t. p') q q' s (λ t c. f c e) g)) g

-- ## More turns of loops

-- a loop that has used up its turns, with more of them
pub endless : {A : Type 0} (p : ℕ → Parser A) (l : More) → ((c : Input5) → p zero c ≡ Fault Endless c.tokens) → (s : Input5) → LocalOf l (λ us. p l.turns (record { tokens = us; last = s.last })) s.tokens (Fault Endless s.tokens)
endless p l h s = at l.turns refl
  where
    at : (n : ℕ) → l.turns ≡ n → LocalOf l (λ us. p n (record { tokens = us; last = s.last })) s.tokens (Fault Endless s.tokens)
    at zero e = stops_so [] refl tt (λ rest k. h (record { tokens = rest; last = s.last }))
    at (suc n) e = too_long (subst (λ m. Slack m) (sym e) slack)
