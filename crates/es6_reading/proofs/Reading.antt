-- When a reader reads tokens up to others, if loops have turns enough and constructs enough may open.
use Rattle.std.proofs.Common.{◌≡◌, ℕ, zero, suc, ◌+◌, ◌≤◌, Bool, true, false, List, [], ◌∷◌, Option, Some, refl, sym, ap, subst, ◌∙◌, arith}
use Rattle.es6_lexer.specs.declared.token.Punctuator.{Punctuator as Mark}
use Rattle.es6_ast.specs.declared.settings.Stop.TheVariants.{Depth}
use Rattle.es6_ast.specs.Tokens.{Filled}
use Rattle.es6_reading.specs.Parser.{Input, Outcome, Took, Parser, after, on, on_taken, choose, next_is, if_next, fails, kept_if, is_mark, mark, next_mark, Inner, on_group}
use Rattle.es6_reading.proofs.Posts.{Misses}

-- the outcome is such a value, and these tokens are left
pub data ReadsOf {A : Type 0} (Q : A → Type 0) (us : List Filled) : Outcome A → Type 0 where
  reads_ : {x : A} {end : ℕ} → Q x → ReadsOf Q us (Took x (record { tokens = us; last = end }))

-- the reader takes the tokens up to these, whatever ended before, and its value is such
abbrev pub Reads : {A : Type 0} → Parser A → (A → Type 0) → List Filled → List Filled → Type 0
Reads p Q ts us = (last : ℕ) → ReadsOf Q us (p (record { tokens = ts; last = last }))

abbrev pub Any : {A : Type 0} → A → Type 0
Any x = Unit {0}

pub reads-as : {A : Type 0} {Q : A → Type 0} {us : List Filled} {o o' : Outcome A} → o ≡ o' → ReadsOf Q us o' → ReadsOf Q us o
reads-as {Q = Q} {us = us} e h = subst (λ x. ReadsOf Q us x) (sym e) h

pub reads-weak : {A : Type 0} {P Q : A → Type 0} {us : List Filled} {o : Outcome A} → ((x : A) → P x → Q x) → ReadsOf P us o → ReadsOf Q us o
reads-weak f (reads_ h) = reads_ (f _ h)

pub bind-reads : {A B : Type 0} {P : A → Type 0} {Q : B → Type 0} {us vs : List Filled} {o : Outcome A} (q : A → Parser B) → ReadsOf P us o → ((x : A) (end : ℕ) → P x → ReadsOf Q vs (q x (record { tokens = us; last = end }))) → ReadsOf Q vs (after o q)
bind-reads q (reads_ h) f = f _ _ h

-- ## Choices

pub on-hit : {A B : Type 0} {Q : A → Type 0} {us : List Filled} (test : Filled → Option B) (p : B → Parser A) (q : Parser A) (t : Filled) (x : B) (ts : List Filled) (last : ℕ) → test t ≡ Some x → ReadsOf Q us (p x (record { tokens = ts; last = t.span.end })) → ReadsOf Q us (on test p q (record { tokens = t ∷ ts; last = last }))
on-hit test p q t x ts last e r = reads-as (ap (λ o. on_taken o t ts p q (record { tokens = t ∷ ts; last = last })) e) r

pub on-miss-is : {A B : Type 0} (test : Filled → Option B) (p : B → Parser A) (q : Parser A) (ts : List Filled) (last : ℕ) → Misses test ts → on test p q (record { tokens = ts; last = last }) ≡ q (record { tokens = ts; last = last })
on-miss-is test p q [] last h = refl
on-miss-is test p q (t ∷ ts) last h = ap (λ o. on_taken o t ts p q (record { tokens = t ∷ ts; last = last })) h

pub on-miss : {A B : Type 0} {Q : A → Type 0} {us : List Filled} (test : Filled → Option B) (p : B → Parser A) (q : Parser A) (ts : List Filled) (last : ℕ) → Misses test ts → ReadsOf Q us (q (record { tokens = ts; last = last })) → ReadsOf Q us (on test p q (record { tokens = ts; last = last }))
on-miss test p q ts last h r = reads-as (on-miss-is test p q ts last h) r

pub if-true : {A : Type 0} {Q : A → Type 0} {us : List Filled} (test : Filled → Bool) (p q : Parser A) (ts : List Filled) (last : ℕ) → next_is test ts ≡ true → ReadsOf Q us (p (record { tokens = ts; last = last })) → ReadsOf Q us (if_next test p q (record { tokens = ts; last = last }))
if-true test p q ts last e r = reads-as (ap (λ w. choose w p q (record { tokens = ts; last = last })) e) r

pub if-false : {A : Type 0} {Q : A → Type 0} {us : List Filled} (test : Filled → Bool) (p q : Parser A) (ts : List Filled) (last : ℕ) → next_is test ts ≡ false → ReadsOf Q us (q (record { tokens = ts; last = last })) → ReadsOf Q us (if_next test p q (record { tokens = ts; last = last }))
if-false test p q ts last e r = reads-as (ap (λ w. choose w p q (record { tokens = ts; last = last })) e) r

pub choose-either : {A : Type 0} {Q : A → Type 0} {us : List Filled} (b : Bool) (p q : Parser A) (s : Input) → (b ≡ true → ReadsOf Q us (p s)) → (b ≡ false → ReadsOf Q us (q s)) → ReadsOf Q us (choose b p q s)
choose-either true p q s x y = x refl
choose-either false p q s x y = y refl

pub group-is : {A : Type 0} (i : Inner) (p : Mark) (inside otherwise : Parser A) (t : Filled) (us : List Filled) (last : ℕ) → is_mark p t.kind ≡ true → i.may_open ≡ true
    → on_group i p inside otherwise (record { tokens = t ∷ us; last = last }) ≡ inside (record { tokens = us; last = t.span.end })
group-is i p inside otherwise t us last e m =
    ap (λ v. choose v (choose i.may_open (on (mark p) (λ u. inside) otherwise) (fails Depth)) otherwise (record { tokens = t ∷ us; last = last })) e
    ∙ ap (λ v. choose v (on (mark p) (λ u. inside) otherwise) (fails Depth) (record { tokens = t ∷ us; last = last })) m
    ∙ ap (λ v. on_taken (kept_if v t) t us (λ u. inside) otherwise (record { tokens = t ∷ us; last = last })) e

pub group-hit : {A : Type 0} {Q : A → Type 0} {us : List Filled} (i : Inner) (p : Mark) (inside otherwise : Parser A) (t : Filled) (ts : List Filled) (last : ℕ) → is_mark p t.kind ≡ true → i.may_open ≡ true → ReadsOf Q us (inside (record { tokens = ts; last = t.span.end })) → ReadsOf Q us (on_group i p inside otherwise (record { tokens = t ∷ ts; last = last }))
group-hit i p inside otherwise t ts last e m r = reads-as (group-is i p inside otherwise t ts last e m) r

pub group-miss : {A : Type 0} {Q : A → Type 0} {us : List Filled} (i : Inner) (p : Mark) (inside otherwise : Parser A) (ts : List Filled) (last : ℕ) → next_is (next_mark p) ts ≡ false → ReadsOf Q us (otherwise (record { tokens = ts; last = last })) → ReadsOf Q us (on_group i p inside otherwise (record { tokens = ts; last = last }))
group-miss i p inside otherwise ts last e r = if-false (next_mark p) _ otherwise ts last e r

-- ## Turns and constructs enough

-- This holds for all large turns, turns at the begin, and numbers of constructs.
pub record Eventually (P : ℕ → ℕ → ℕ → Type 0) : Type 0 where
  pub bound : ℕ
  pub reads : (t f r : ℕ) → bound ≤ t → bound ≤ f → bound ≤ r → P t f r

pub always : {P : ℕ → ℕ → ℕ → Type 0} → ((t f r : ℕ) → P t f r) → Eventually P
always h = record { bound = 0; reads = λ t f r a b c. h t f r }

low-left : (a b n : ℕ) → a + b ≤ n → a ≤ n
low-left a b n h = omega arith

low-right : (a b n : ℕ) → a + b ≤ n → b ≤ n
low-right a b n h = omega arith

pub then_ : {P Q : ℕ → ℕ → ℕ → Type 0} → Eventually P → ((t f r : ℕ) → P t f r → Q t f r) → Eventually Q
then_ e h = record { bound = e.bound; reads = λ t f r a b c. h t f r (e.reads t f r a b c) }

pub both : {P Q S : ℕ → ℕ → ℕ → Type 0} → Eventually P → Eventually Q → ((t f r : ℕ) → P t f r → Q t f r → S t f r) → Eventually S
both d e h = record {
  bound = d.bound + e.bound;
  reads = λ t f r a b c. h t f r (d.reads t f r (low-left d.bound e.bound t a) (low-left d.bound e.bound f b) (low-left d.bound e.bound r c)) (e.reads t f r (low-right d.bound e.bound t a) (low-right d.bound e.bound f b) (low-right d.bound e.bound r c));
}

pub pair : {P Q : ℕ → ℕ → ℕ → Type 0} → Eventually P → Eventually Q → Eventually (λ t f r. P t f r × Q t f r)
pair d e = both d e (λ t f r a b. (a, b))

-- one construct more
pub deeper : {P Q : ℕ → ℕ → ℕ → Type 0} → Eventually P → ((t f r : ℕ) → P t f r → Q t f (suc r)) → Eventually Q
deeper {P = P} {Q = Q} e h = record { bound = suc e.bound; reads = λ t f r a b c. at t f r (less e.bound t a) (less e.bound f b) c }
  where
    less : (n m : ℕ) → suc n ≤ m → n ≤ m
    less n m k = omega arith

    down : (n m : ℕ) → suc n ≤ suc m → n ≤ m
    down n m k = omega arith

    none : (n : ℕ) → suc n ≤ zero → ⊥
    none n k = omega arith

    at : (t f r : ℕ) → e.bound ≤ t → e.bound ≤ f → suc e.bound ≤ r → Q t f r
    at t f zero a b c = absurd (none e.bound c)
    at t f (suc r) a b c = h t f r (e.reads t f r a b (down e.bound r c))

-- one turn more
pub turn : {P Q : ℕ → ℕ → ℕ → Type 0} → Eventually P → ((t f r : ℕ) → P t f r → Q (suc t) f r) → Eventually Q
turn {P = P} {Q = Q} e h = record { bound = suc e.bound; reads = λ t f r a b c. at t f r a (less e.bound f b) (less e.bound r c) }
  where
    less : (n m : ℕ) → suc n ≤ m → n ≤ m
    less n m k = omega arith

    down : (n m : ℕ) → suc n ≤ suc m → n ≤ m
    down n m k = omega arith

    none : (n : ℕ) → suc n ≤ zero → ⊥
    none n k = omega arith

    at : (t f r : ℕ) → suc e.bound ≤ t → e.bound ≤ f → e.bound ≤ r → Q t f r
    at zero f r a b c = absurd (none e.bound a)
    at (suc t) f r a b c = h t f r (e.reads t f r (down e.bound t a) b c)

-- all turns left
pub begin : {P Q : ℕ → ℕ → ℕ → Type 0} → Eventually P → ((t f r : ℕ) → P f f r → Q t f r) → Eventually Q
begin e h = record { bound = e.bound; reads = λ t f r a b c. h t f r (e.reads f f r b b c) }
