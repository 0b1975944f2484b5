-- A reader looks at no token past the first one that it doesn't take: what it makes of tokens is the same for all others that are
-- the same up to that one. And what it takes stays the same, and a fault too, where loops have more turns and more constructs may
-- open, unless it gave up for want of these. What it takes also stays the same where semicolons are inserted.
use Rattle.std.proofs.Common.{◌≡◌, ◌∙◌, ℕ, zero, suc, Bool, true, false, List, [], ◌∷◌, ◌++◌, append_assoc, Option, Some, None, refl, sym, ap, subst}
use Rattle.es6_lexer.specs.declared.token.Punctuator.{Punctuator as Mark}
use Rattle.es6_ast.specs.declared.settings.Stop.{Stop}
use Rattle.es6_ast.specs.declared.settings.Stop.TheVariants.{Depth, Endless}
use Rattle.es6_ast.specs.Tokens.{Filling, Filled, begin_of}
use Rattle.es6_reading.specs.Parser.{Input, Outcome, Took, Fault, Parser, fails, after, stop_in, number_stop_in, expression_stop_in, stop_at, on, on_taken, choose, next_is, if_next, from, take_as, mark, next_mark, refused, no_number, no_expression, Inner, on_group, is_insertable}
use Rattle.es6_reading.specs.Refine.{Refined, TooNested}
use Rattle.es6_reading.proofs.Follows.{plus, SameHead, nothing, same}
use Rattle.es6_reading.proofs.RefineMore.{Kept, as_it_was, was_too_nested}

-- ## Tokens that begin the same

through : {ts us : List Filled} (front rest : List Filled) → ts ≡ front ++ us → SameHead us rest → SameHead ts (front ++ rest)
through [] rest e h = subst (λ vs. SameHead vs rest) (sym e) h
through {us = us} (t ∷ front) rest e h = subst (λ vs. SameHead vs (t ∷ front ++ rest)) (sym e) same

-- whether there is more of something, of which there is so much more
pub data Slack : ℕ → Type 0 where
  slack : {l : ℕ} → Slack (suc l)

-- what the second of two readers has that the first has not: so many more turns and constructs, and whether it inserts semicolons
pub record Gain : Type 0 where
  pub more : ℕ
  pub inserts : Bool

-- ## What a reader makes of tokens

-- A reader gave this of the tokens; the run is the one of a reader with this gain, on any tokens.
pub data LocalOf {A : Type 0} (l : Gain) (run : List Filled → Outcome A) (ts : List Filled) : Outcome A → Type 0 where
  took_so : {x : A} {c : Input} (front : List Filled) → ts ≡ front ++ c.tokens → ((rest : List Filled) → SameHead c.tokens rest → run (front ++ rest) ≡ Took x (record { tokens = rest; last = c.last })) → LocalOf l run ts (Took x c)
  stops_so : {stop : Stop} {us : List Filled} (front : List Filled) → ts ≡ front ++ us → ((rest : List Filled) → SameHead us rest → run (front ++ rest) ≡ Fault stop rest) → LocalOf l run ts (Fault stop us)
  too_deep : {us : List Filled} → Slack l.more → LocalOf l run ts (Fault Depth us)
  too_long : {us : List Filled} → Slack l.more → LocalOf l run ts (Fault Endless us)
  not_inserted : {stop : Stop} {us : List Filled} → l.inserts ≡ true → LocalOf l run ts (Fault stop us)

abbrev pub Local : {A : Type 0} → Gain → Parser A → Parser A → Input → Type 0
Local l p p' s = LocalOf l (λ us. p' (record { tokens = us; last = s.last })) s.tokens (p s)

-- after the tokens, what a reader makes of those behind them
behind : {A : Type 0} {l : Gain} {run run' : List Filled → Outcome A} {ts us : List Filled} {o : Outcome A} (front : List Filled) → ts ≡ front ++ us
    → ((rest : List Filled) → SameHead us rest → run' (front ++ rest) ≡ run rest) → LocalOf l run us o → LocalOf l run' ts o
behind {run = run} {run' = run'} front e h (took_so inner d r) =
    took_so (front ++ inner) (e ∙ ap (λ vs. front ++ vs) d ∙ sym (append_assoc front inner _)) (λ rest k. ap run' (append_assoc front inner rest) ∙ h (inner ++ rest) (through inner rest d k) ∙ r rest k)
behind {run = run} {run' = run'} front e h (stops_so inner d r) =
    stops_so (front ++ inner) (e ∙ ap (λ vs. front ++ vs) d ∙ sym (append_assoc front inner _)) (λ rest k. ap run' (append_assoc front inner rest) ∙ h (inner ++ rest) (through inner rest d k) ∙ r rest k)
behind front e h (too_deep m) = too_deep m
behind front e h (too_long m) = too_long m
behind front e h (not_inserted m) = not_inserted m

-- where both runs are the same
pub relay : {A : Type 0} {l : Gain} {run run' : List Filled → Outcome A} {ts : List Filled} {o : Outcome A} → ((us : List Filled) → SameHead ts us → run' us ≡ run us) → LocalOf l run ts o → LocalOf l run' ts o
relay h r = behind [] refl h r

pub bind : {A B : Type 0} {l : Gain} {ts : List Filled} {o : Outcome A} {run : List Filled → Outcome A} (q q' : A → Parser B)
    → LocalOf l run ts o → ((x : A) (c : Input) → Local l (q x) (q' x) c) → LocalOf l (λ us. after (run us) q') ts (after o q)
bind q q' (took_so {x = x} {c = c} front e r) f = behind front e (λ rest k. ap (λ o. after o q') (r rest k)) (f x c)
bind q q' (stops_so front e r) f = stops_so front e (λ rest k. ap (λ o. after o q') (r rest k))
bind q q' (too_deep m) f = too_deep m
bind q q' (too_long m) f = too_long m
bind q q' (not_inserted m) f = not_inserted m

pub done : {A : Type 0} {l : Gain} {ts : List Filled} {last : ℕ} {x : A} → LocalOf l (λ us. Took x (record { tokens = us; last = last })) ts (Took x (record { tokens = ts; last = last }))
done = took_so [] refl (λ rest k. refl)

pub stops : {A : Type 0} {l : Gain} {ts : List Filled} {stop : Stop} → LocalOf {A = A} l (λ us. Fault stop us) ts (Fault stop ts)
stops = stops_so [] refl (λ rest k. refl)

same-stop : (stop : Filling → Stop) {ts us : List Filled} → SameHead ts us → stop_at stop us ≡ stop_at stop ts
same-stop stop nothing = refl
same-stop stop same = refl

stops-by : {A : Type 0} {l : Gain} (stop : Filling → Stop) (ts : List Filled) → LocalOf {A = A} l (λ us. Fault (stop_at stop us) us) ts (Fault (stop_at stop ts) ts)
stops-by stop ts = stops_so [] refl (λ rest k. ap (λ v. Fault v rest) (same-stop stop k))

pub nowhere : {A : Type 0} {l : Gain} (s : Input) → Local {A = A} l refused refused s
unfolding refused
nowhere s = stops-by stop_in s.tokens

pub number : {A : Type 0} {l : Gain} (s : Input) → Local {A = A} l no_number no_number s
unfolding no_number
number s = stops-by number_stop_in s.tokens

pub expression : {A : Type 0} {l : Gain} (s : Input) → Local {A = A} l no_expression no_expression s
unfolding no_expression
expression s = stops-by expression_stop_in s.tokens

-- ## Choices

pub either : {A : Type 0} {l : Gain} (b : Bool) (p p' q q' : Parser A) (s : Input) → Local l p p' s → Local l q q' s → Local l (choose b p q) (choose b p' q') s
either true p p' q q' s f g = f
either false p p' q q' s f g = g

pub same-next : (test : Filled → Bool) {ts us : List Filled} → SameHead ts us → next_is test us ≡ next_is test ts
same-next test nothing = refl
same-next test same = refl

pub looks : {A : Type 0} {l : Gain} (test : Filled → Bool) (p p' q q' : Parser A) (s : Input) → Local l p p' s → Local l q q' s → Local l (if_next test p q) (if_next test p' q') s
looks test p p' q q' s f g = relay (λ us k. ap (λ b. choose b p' q' (record { tokens = us; last = s.last })) (same-next test k)) (either (next_is test s.tokens) p p' q q' s f g)

pub insertable : {A : Type 0} {l : Gain} (p p' q q' : Parser A) (s : Input) → Local l p p' s → Local l q q' s → Local l (λ c. choose (is_insertable c.tokens) p q c) (λ c. choose (is_insertable c.tokens) p' q' c) s
insertable p p' q q' s f g = relay (λ us k. ap (λ b. choose b p' q' (record { tokens = us; last = s.last })) (same-ending k)) (either (is_insertable s.tokens) p p' q q' s f g)
  where
    same-ending : {ts us : List Filled} → SameHead ts us → is_insertable us ≡ is_insertable ts
    same-ending nothing = refl
    same-ending same = refl

pub next : {A B : Type 0} {l : Gain} (test : Filled → Option B) (p p' : B → Parser A) (q q' : Parser A) (s : Input) → ((x : B) (c : Input) → Local l (p x) (p' x) c) → Local l q q' s → Local l (on test p q) (on test p' q') s
next {A = A} {B = B} {l = l} test p p' q q' s f g = at s.tokens s.last g
  where
    at : (ts : List Filled) (last : ℕ) → Local l q q' (record { tokens = ts; last = last }) → Local l (on test p q) (on test p' q') (record { tokens = ts; last = last })
    at [] last g = relay nothing-left g
      where
        nothing-left : (us : List Filled) → SameHead [] us → on test p' q' (record { tokens = us; last = last }) ≡ q' (record { tokens = us; last = last })
        nothing-left us nothing = refl
    at (t ∷ ts) last g = known (test t) refl g
      where
        hit : (x : B) → test t ≡ Some x → (us : List Filled) → on test p' q' (record { tokens = t ∷ us; last = last }) ≡ p' x (record { tokens = us; last = t.span.end })
        hit x e us = ap (λ o. on_taken o t us p' q' (record { tokens = t ∷ us; last = last })) e

        missed : test t ≡ None → (us : List Filled) → SameHead (t ∷ ts) us → on test p' q' (record { tokens = us; last = last }) ≡ q' (record { tokens = us; last = last })
        missed e us (same {us = vs}) = ap (λ o. on_taken o t vs p' q' (record { tokens = t ∷ vs; last = last })) e

        known : (o : Option B) → test t ≡ o → Local l q q' (record { tokens = t ∷ ts; last = last }) → LocalOf l (λ us. on test p' q' (record { tokens = us; last = last })) (t ∷ ts) (on_taken o t ts p q (record { tokens = t ∷ ts; last = last }))
        known (Some x) e g = behind (t ∷ []) refl (λ us k. hit x e us) (f x (record { tokens = ts; last = t.span.end }))
        known None e g = relay (missed e) g

pub take : {B : Type 0} {l : Gain} (test : Filled → Option B) (s : Input) → Local l (take_as test) (take_as test) s
take test s = next test _ _ _ _ s (λ x c. done) (nowhere s)

-- what depends on where the next token begins
pub begins : {A : Type 0} {l : Gain} (p p' : ℕ → Parser A) (s : Input) → ((at : ℕ) → Local l (p at) (p' at) s) → Local l (from p) (from p') s
begins p p' s f = relay (λ us k. ap (λ at. p' at (record { tokens = us; last = s.last })) (same-begin k)) (f (begin_of s.tokens))
  where
    same-begin : {ts us : List Filled} → SameHead ts us → begin_of us ≡ begin_of ts
    same-begin nothing = refl
    same-begin same = refl

-- ## More constructs that may open

-- where one more may open, it may with more room
pub data Opens (l : Gain) : Bool → Bool → Type 0 where
  alike : {b : Bool} → Opens l b b
  opens_now : Slack l.more → Opens l false true

-- what is read inside a construct that may open
pub opened : {A : Type 0} {l : Gain} {b b' : Bool} (p p' : Parser A) (s : Input) → Opens l b b' → (b ≡ true → Local l p p' s) → Local l (choose b p (fails Depth)) (choose b' p' (fails Depth)) s
opened {b = true} p p' s alike f = f refl
opened {b = false} p p' s alike f = stops
opened p p' s (opens_now m) f = too_deep m

pub group : {A : Type 0} {l : Gain} (i j : Inner) → Opens l i.may_open j.may_open → (m : Mark) (p p' q q' : Parser A) (s : Input) → ((c : Input) → i.may_open ≡ true → Local l p p' c) → Local l q q' s → Local l (on_group i m p q) (on_group j m p' q') s
group i j o m p p' q q' s f g = looks (next_mark m) _ _ q q' s (opened _ _ s o (λ e. next (mark m) (λ t. p) (λ t. p') q q' s (λ t c. f c e) g)) g

-- ## Semicolons that only the second reader inserts

pub data Modes (l : Gain) : Bool → Bool → Type 0 where
  same_mode : {b : Bool} → Modes l b b
  now_inserts : l.inserts ≡ true → Modes l false true

pub inserted : {A : Type 0} {l : Gain} {b b' : Bool} (p p' : Parser A) (s : Input) → Modes l b b' → Local l p p' s → Local l (choose b p refused) (choose b' p' refused) s
unfolding refused
inserted {b = true} p p' s same_mode f = f
inserted {b = false} p p' s same_mode f = nowhere s
inserted p p' s (now_inserts e) f = not_inserted e

-- ## More turns of loops

pub data Turns (l : ℕ) : ℕ → ℕ → Type 0 where
  over : Turns l zero l
  turn : {n m : ℕ} → Turns l n m → Turns l (suc n) (suc m)

-- a loop that has used up its turns, with more of them
pub endless : {A : Type 0} (p : ℕ → Parser A) (l : Gain) → ((c : Input) → p zero c ≡ Fault Endless c.tokens) → (s : Input) → LocalOf l (λ us. p l.more (record { tokens = us; last = s.last })) s.tokens (Fault Endless s.tokens)
endless p l h s = at l.more refl
  where
    at : (n : ℕ) → l.more ≡ n → LocalOf l (λ us. p n (record { tokens = us; last = s.last })) s.tokens (Fault Endless s.tokens)
    at zero e = stops_so [] refl (λ rest k. h (record { tokens = rest; last = s.last }))
    at (suc n) e = too_long (subst (λ m. Slack m) (sym e) slack)

pub turns-plus : (n l : ℕ) → Turns l n (plus n l)
turns-plus zero l = over
turns-plus (suc n) l = turn (turns-plus n l)

-- ## More nesting that is looked at

pub data Deeper {A : Type 0} (l : ℕ) : Refined A → Refined A → Type 0 where
  as_before : {r : Refined A} → Deeper l r r
  nested_less : {r : Refined A} → Slack l → Deeper l TooNested r

pub deeper : {A : Type 0} {l n m : ℕ} (r : ℕ → Refined A) → ((k l : ℕ) → Kept (r k) (r (plus k l))) → Turns l n m → Deeper l (r n) (r m)
deeper {A = A} {l = l} {n = n} r h t = subst (λ m. Deeper l (r n) (r m)) (plus-of t) (by l)
  where
    plus-of : {l n m : ℕ} → Turns l n m → plus n l ≡ m
    plus-of over = refl
    plus-of (turn t) = ap (λ m. suc m) (plus-of t)

    plus-zero : (n : ℕ) → n ≡ plus n zero
    plus-zero zero = refl
    plus-zero (suc n) = ap (λ m. suc m) (plus-zero n)

    more : {l : ℕ} {a b : Refined A} → Kept a b → Deeper (suc l) a b
    more as_it_was = as_before
    more was_too_nested = nested_less slack

    by : (l : ℕ) → Deeper l (r n) (r (plus n l))
    by zero = subst (λ m. Deeper zero (r n) (r m)) (plus-zero n) as_before
    by (suc l) = more (h n (suc l))
