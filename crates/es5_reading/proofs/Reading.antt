-- When a reader takes tokens up to others and gives exactly this value, if loops have turns enough and constructs enough may open.
use Rattle.std.proofs.Common.{◌≡◌, ℕ, zero, suc, ◌+◌, ◌≤◌, Bool, true, false, List, [], ◌∷◌, Option, Some, refl, sym, ap, subst, ◌∙◌, arith}
use Rattle.es_text.specs.declared.Span.{Span}
use Rattle.es5_ast.specs.Lexical.{Token5}
use Rattle.es5_ast.specs.Grammar.{is_mark, begin_of, across}
use Rattle.es5_ast.specs.Within.{Opens}
use Rattle.es5_reading.specs.Parser.{Input5, Depth, Outcome5, Took, Parser, after, on, on_taken, choose, next_is, if_next, take_as, fails, kept_if, mark, next_mark, Shape5, Inner5, on_group}
use Rattle.es5_reading.proofs.Posts.{Misses}
use Rattle.es5_reading.proofs.Spans.{Goes, Moves, goes, ◌⟫◌, span-across}
use Rattle.es5_reading.proofs.Derived.{one}

-- the outcome is this value, these tokens are left, and this holds of the input after it
pub data ReadsOf {A : Type 0} (M : Input5 → Type 0) (x : A) (us : List Token5) : Outcome5 A → Type 0 where
  reads_ : {end : ℕ} → M (record { tokens = us; last = end }) → ReadsOf M x us (Took x (record { tokens = us; last = end }))

-- the reader takes the tokens up to these, one at least, whatever ended before, and gives this value
abbrev pub Reads : {A : Type 0} → Parser A → A → List Token5 → List Token5 → Type 0
Reads p x ts us = (last : ℕ) → ReadsOf (λ c. Moves (record { tokens = ts; last = last }) c) x us (p (record { tokens = ts; last = last }))

-- the same, where it may take none
abbrev pub Passes : {A : Type 0} → Parser A → A → List Token5 → List Token5 → Type 0
Passes p x ts us = (last : ℕ) → ReadsOf (λ c. Goes (record { tokens = ts; last = last }) c) x us (p (record { tokens = ts; last = last }))

pub reads-as : {A : Type 0} {M : Input5 → Type 0} {x : A} {us : List Token5} {o o' : Outcome5 A} → o ≡ o' → ReadsOf M x us o' → ReadsOf M x us o
reads-as {M = M} {x = x} {us = us} e h = subst (λ y. ReadsOf M x us y) (sym e) h

-- a value that is this one
pub done : {A : Type 0} {M : Input5 → Type 0} {x y : A} {us : List Token5} {end : ℕ} → y ≡ x → M (record { tokens = us; last = end }) → ReadsOf M x us (Took y (record { tokens = us; last = end }))
done {us = us} {end = end} e m = reads-as (ap (λ z. Took z (record { tokens = us; last = end })) e) (reads_ m)

pub passes-of : {A : Type 0} {x : A} {s : Input5} {us : List Token5} {o : Outcome5 A} → ReadsOf (λ c. Moves s c) x us o → ReadsOf (λ c. Goes s c) x us o
passes-of (reads_ m) = reads_ (goes m)

pub bind-reads : {A B : Type 0} {x : A} {y : B} {M N : Input5 → Type 0} {us vs : List Token5} {o : Outcome5 A} (q : A → Parser B) → ReadsOf M x us o → ((end : ℕ) → M (record { tokens = us; last = end }) → ReadsOf N y vs (q x (record { tokens = us; last = end }))) → ReadsOf N y vs (after o q)
bind-reads q (reads_ m) f = f _ m

-- after other tokens
pub later : {A : Type 0} {x : A} {s c : Input5} {us : List Token5} {o : Outcome5 A} → Moves s c → ReadsOf (λ d. Moves c d) x us o → ReadsOf (λ d. Moves s d) x us o
later m (reads_ k) = reads_ (m ⟫ k)

-- a node with the span of the tokens that were taken
pub placed : {A : Type 0} (f : Span → A) {s c : Input5} {x : A} {span : Span} → Moves s c → x ≡ f span → span ≡ across s.tokens c.tokens → f (record { begin = begin_of s.tokens; end = c.last }) ≡ x
placed f m e d = ap f (span-across m ∙ sym d) ∙ sym e

-- ## Choices

pub on-hit : {A B : Type 0} {M : Input5 → Type 0} {y : A} {us : List Token5} (test : Token5 → Option B) (p : B → Parser A) (q : Parser A) (t : Token5) (x : B) (ts : List Token5) (last : ℕ) → test t ≡ Some x → ReadsOf M y us (p x (record { tokens = ts; last = t.end })) → ReadsOf M y us (on test p q (record { tokens = t ∷ ts; last = last }))
on-hit test p q t x ts last e r = reads-as (ap (λ o. on_taken o t ts p q (record { tokens = t ∷ ts; last = last })) e) r

on-miss-is : {A B : Type 0} (test : Token5 → Option B) (p : B → Parser A) (q : Parser A) (ts : List Token5) (last : ℕ) → Misses test ts → on test p q (record { tokens = ts; last = last }) ≡ q (record { tokens = ts; last = last })
on-miss-is test p q [] last h = refl
on-miss-is test p q (t ∷ ts) last h = ap (λ o. on_taken o t ts p q (record { tokens = t ∷ ts; last = last })) h

pub on-miss : {A B : Type 0} {M : Input5 → Type 0} {y : A} {us : List Token5} (test : Token5 → Option B) (p : B → Parser A) (q : Parser A) (ts : List Token5) (last : ℕ) → Misses test ts → ReadsOf M y us (q (record { tokens = ts; last = last })) → ReadsOf M y us (on test p q (record { tokens = ts; last = last }))
on-miss test p q ts last h r = reads-as (on-miss-is test p q ts last h) r

pub if-true : {A : Type 0} {M : Input5 → Type 0} {y : A} {us : List Token5} (test : Token5 → Bool) (p q : Parser A) (ts : List Token5) (last : ℕ) → next_is test ts ≡ true → ReadsOf M y us (p (record { tokens = ts; last = last })) → ReadsOf M y us (if_next test p q (record { tokens = ts; last = last }))
if-true test p q ts last e r = reads-as (ap (λ w. choose w p q (record { tokens = ts; last = last })) e) r

pub if-false : {A : Type 0} {M : Input5 → Type 0} {y : A} {us : List Token5} (test : Token5 → Bool) (p q : Parser A) (ts : List Token5) (last : ℕ) → next_is test ts ≡ false → ReadsOf M y us (q (record { tokens = ts; last = last })) → ReadsOf M y us (if_next test p q (record { tokens = ts; last = last }))
if-false test p q ts last e r = reads-as (ap (λ w. choose w p q (record { tokens = ts; last = last })) e) r

pub choose-either : {A : Type 0} {M : Input5 → Type 0} {y : A} {us : List Token5} (b : Bool) (p q : Parser A) (s : Input5) → (b ≡ true → ReadsOf M y us (p s)) → (b ≡ false → ReadsOf M y us (q s)) → ReadsOf M y us (choose b p q s)
choose-either true p q s x y = x refl
choose-either false p q s x y = y refl

group-is : {A : Type 0} (i : Inner5) (p : List ℕ) (inside otherwise : Parser A) (t : Token5) (us : List Token5) (last : ℕ) → is_mark p t.kind ≡ true → i.may_open ≡ true
    → on_group i p inside otherwise (record { tokens = t ∷ us; last = last }) ≡ inside (record { tokens = us; last = t.end })
group-is i p inside otherwise t us last e m =
    ap (λ v. choose v (choose i.may_open (on (mark p) (λ u. inside) otherwise) (fails Depth)) otherwise (record { tokens = t ∷ us; last = last })) e
    ∙ ap (λ v. choose v (on (mark p) (λ u. inside) otherwise) (fails Depth) (record { tokens = t ∷ us; last = last })) m
    ∙ ap (λ v. on_taken (kept_if v t) t us (λ u. inside) otherwise (record { tokens = t ∷ us; last = last })) e

pub group-hit : {A : Type 0} {M : Input5 → Type 0} {y : A} {us : List Token5} (i : Inner5) (p : List ℕ) (inside otherwise : Parser A) (t : Token5) (ts : List Token5) (last : ℕ) → is_mark p t.kind ≡ true → i.may_open ≡ true → ReadsOf M y us (inside (record { tokens = ts; last = t.end })) → ReadsOf M y us (on_group i p inside otherwise (record { tokens = t ∷ ts; last = last }))
group-hit i p inside otherwise t ts last e m r = reads-as (group-is i p inside otherwise t ts last e m) r

pub group-miss : {A : Type 0} {M : Input5 → Type 0} {y : A} {us : List Token5} (i : Inner5) (p : List ℕ) (inside otherwise : Parser A) (ts : List Token5) (last : ℕ) → next_is (next_mark p) ts ≡ false → ReadsOf M y us (otherwise (record { tokens = ts; last = last })) → ReadsOf M y us (on_group i p inside otherwise (record { tokens = ts; last = last }))
group-miss i p inside otherwise ts last e r = if-false (next_mark p) _ otherwise ts last e r

pub take-hit : {B : Type 0} (test : Token5 → Option B) (t : Token5) (x : B) (ts : List Token5) (last : ℕ) → test t ≡ Some x → ReadsOf (λ c. Moves (record { tokens = t ∷ ts; last = last }) c) x ts (take_as test (record { tokens = t ∷ ts; last = last }))
take-hit test t x ts last e = on-hit test _ _ t x ts last e (reads_ one)

-- ## Turns and constructs enough

-- This holds for all large turns, turns at the begin, and at least so many constructs.
pub record Eventually (n : ℕ) (P : ℕ → ℕ → ℕ → Type 0) : Type 0 where
  pub bound : ℕ
  pub reads : (t f r : ℕ) → bound ≤ t → bound ≤ f → n ≤ r → P t f r

pub always : {n : ℕ} {P : ℕ → ℕ → ℕ → Type 0} → ((t f r : ℕ) → P t f r) → Eventually n P
always h = record { bound = 0; reads = λ t f r a b c. h t f r }

low-left : (a b n : ℕ) → a + b ≤ n → a ≤ n
low-left a b n h = omega arith

low-right : (a b n : ℕ) → a + b ≤ n → b ≤ n
low-right a b n h = omega arith

pub then_ : {n : ℕ} {P Q : ℕ → ℕ → ℕ → Type 0} → Eventually n P → ((t f r : ℕ) → P t f r → Q t f r) → Eventually n Q
then_ e h = record { bound = e.bound; reads = λ t f r a b c. h t f r (e.reads t f r a b c) }

pub both : {n : ℕ} {P Q S : ℕ → ℕ → ℕ → Type 0} → Eventually n P → Eventually n Q → ((t f r : ℕ) → P t f r → Q t f r → S t f r) → Eventually n S
both d e h = record {
  bound = d.bound + e.bound;
  reads = λ t f r a b c. h t f r (d.reads t f r (low-left d.bound e.bound t a) (low-left d.bound e.bound f b) c) (e.reads t f r (low-right d.bound e.bound t a) (low-right d.bound e.bound f b) c);
}

pub pair : {n : ℕ} {P Q : ℕ → ℕ → ℕ → Type 0} → Eventually n P → Eventually n Q → Eventually n (λ t f r. P t f r × Q t f r)
pair d e = both d e (λ t f r a b. (a, b))

-- one construct more
pub deeper : {n : ℕ} {P Q : ℕ → ℕ → ℕ → Type 0} → Eventually n P → ((t f r : ℕ) → P t f r → Q t f (suc r)) → Eventually (suc n) Q
deeper {n = n} {P = P} {Q = Q} e h = record { bound = e.bound; reads = at }
  where
    down : (n m : ℕ) → suc n ≤ suc m → n ≤ m
    down n m k = omega arith

    none : (n : ℕ) → suc n ≤ zero → ⊥
    none n k = omega arith

    at : (t f r : ℕ) → e.bound ≤ t → e.bound ≤ f → suc n ≤ r → Q t f r
    at t f zero a b c = absurd (none n c)
    at t f (suc r) a b c = h t f r (e.reads t f r a b (down n r c))

-- what holds of one construct less, by what stands in one that opens
pub inside_ : {C : ℕ → Type 0} {Q : ℕ → ℕ → ℕ → Type 0} (n : ℕ) → Opens n C → ((m : ℕ) → C m → Eventually (suc m) Q) → Eventually n Q
inside_ zero c h = absurd c
inside_ (suc n) c h = h n c

-- the same, where the shape of what is read is that of what stands inside
pub inside-shape : {C : ℕ → Type 0} (Q : Shape5 → ℕ → ℕ → ℕ → Type 0) (n : ℕ) → Opens n C → ((m : ℕ) → C m → (s : Shape5) × Eventually (suc m) (Q s)) → (s : Shape5) × Eventually n (Q s)
inside-shape Q zero c h = absurd c
inside-shape Q (suc n) c h = h n c

pub map-opens : {C D : ℕ → Type 0} (n : ℕ) → ((m : ℕ) → C m → D m) → Opens n C → Opens n D
map-opens zero h c = c
map-opens (suc n) h c = h n c

-- one turn more
pub turn : {n : ℕ} {P Q : ℕ → ℕ → ℕ → Type 0} → Eventually n P → ((t f r : ℕ) → P t f r → Q (suc t) f r) → Eventually n Q
turn {n = n} {P = P} {Q = Q} e h = record { bound = suc e.bound; reads = λ t f r a b c. at t f r a (less e.bound f b) c }
  where
    less : (n m : ℕ) → suc n ≤ m → n ≤ m
    less n m k = omega arith

    down : (n m : ℕ) → suc n ≤ suc m → n ≤ m
    down n m k = omega arith

    none : (n : ℕ) → suc n ≤ zero → ⊥
    none n k = omega arith

    at : (t f r : ℕ) → suc e.bound ≤ t → e.bound ≤ f → n ≤ r → Q t f r
    at zero f r a b c = absurd (none e.bound a)
    at (suc t) f r a b c = h t f r (e.reads t f r (down e.bound t a) b c)

-- one turn
pub once : {n : ℕ} {Q : ℕ → ℕ → ℕ → Type 0} → ((t f r : ℕ) → Q (suc t) f r) → Eventually n Q
once h = turn (always {P = λ t f r. Unit {0}} (λ t f r. tt)) (λ t f r u. h t f r)

-- all turns left
pub begin : {n : ℕ} {P Q : ℕ → ℕ → ℕ → Type 0} → Eventually n P → ((t f r : ℕ) → P f f r → Q t f r) → Eventually n Q
begin e h = record { bound = e.bound; reads = λ t f r a b c. h t f r (e.reads f f r b b c) }
