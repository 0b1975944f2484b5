-- What holds of all that a reader takes, put together along its parts.
use Rattle.std.proofs.Common.{◌≡◌, ℕ, Bool, true, false, List, [], ◌∷◌, Option, Some, None, refl}
use Rattle.es6_ast.specs.declared.settings.Stop.{Stop}
use Rattle.es6_ast.specs.Tokens.{Filled}
use Rattle.es6_reading.specs.Parser.{Input, Outcome, Took, Fault, Parser, after, on, on_taken, choose, next_is, if_next, take_as, refused, no_number, no_expression}

-- ## What a reader's value and the input after it are

pub data Holds {A : Type 0} (Q : A → Input → Type 0) : Outcome A → Type 0 where
  took : {x : A} {c : Input} → Q x c → Holds Q (Took x c)
  fault : {stop : Stop} {tokens : List Filled} → Holds Q (Fault stop tokens)

pub of_took : {A : Type 0} {Q : A → Input → Type 0} {x : A} {c : Input} → Holds Q (Took x c) → Q x c
of_took (took h) = h

pub bind : {A B : Type 0} {P : A → Input → Type 0} {Q : B → Input → Type 0} {o : Outcome A} {q : A → Parser B}
    → Holds P o → ((x : A) (c : Input) → P x c → Holds Q (q x c)) → Holds Q (after o q)
bind (took h) f = f _ _ h
bind fault f = fault

pub weaken : {A : Type 0} {P Q : A → Input → Type 0} {o : Outcome A} → Holds P o → ((x : A) (c : Input) → P x c → Q x c) → Holds Q o
weaken (took h) f = took (f _ _ h)
weaken fault f = fault

-- nothing is claimed
pub any : {A : Type 0} (o : Outcome A) → Holds (λ x c. Unit {0}) o
any (Took x c) = took tt
any (Fault stop tokens) = fault

pub both : {A : Type 0} {P Q : A → Input → Type 0} {o : Outcome A} → Holds P o → Holds Q o → Holds (λ x c. P x c × Q x c) o
both (took p) (took q) = took (p, q)
both fault h = fault

-- ## Tokens that are taken

-- the tokens begin with one that the test knows
pub data Taken {B : Type 0} (test : Filled → Option B) : Input → B → Input → Type 0 where
  taken : {t : Filled} {ts : List Filled} {last : ℕ} {x : B} → test t ≡ Some x → Taken test (record { tokens = t ∷ ts; last = last }) x (record { tokens = ts; last = t.span.end })

-- the next token is none that the test knows
abbrev pub Misses : {B : Type 0} → (Filled → Option B) → List Filled → Type 0
Misses test [] = Unit {0}
Misses test (t ∷ ts) = test t ≡ None

pub on-holds : {A B : Type 0} {Q : A → Input → Type 0} (test : Filled → Option B) (p : B → Parser A) (q : Parser A) (s : Input)
    → ((x : B) (c : Input) → Taken test s x c → Holds Q (p x c)) → (Misses test s.tokens → Holds Q (q s)) → Holds Q (on test p q s)
on-holds {A = A} {B = B} {Q = Q} test p q s f g = at s.tokens s.last f g
  where
    known : (t : Filled) (ts : List Filled) (last : ℕ) (o : Option B) → test t ≡ o → ((x : B) (c : Input) → Taken test (record { tokens = t ∷ ts; last = last }) x c → Holds Q (p x c)) → (test t ≡ None → Holds Q (q (record { tokens = t ∷ ts; last = last })))
        → Holds Q (on_taken o t ts p q (record { tokens = t ∷ ts; last = last }))
    known t ts last (Some x) e f g = f x _ (taken e)
    known t ts last None e f g = g e

    at : (ts : List Filled) (last : ℕ) → ((x : B) (c : Input) → Taken test (record { tokens = ts; last = last }) x c → Holds Q (p x c)) → (Misses test ts → Holds Q (q (record { tokens = ts; last = last })))
        → Holds Q (on test p q (record { tokens = ts; last = last }))
    at [] last f g = g tt
    at (t ∷ ts) last f g = known t ts last (test t) refl f g

-- ## Where nothing goes on

pub refused-holds : {A : Type 0} {Q : A → Input → Type 0} (s : Input) → Holds Q (refused s)
unfolding refused
refused-holds s = fault

pub no-number-holds : {A : Type 0} {Q : A → Input → Type 0} (s : Input) → Holds Q (no_number s)
unfolding no_number
no-number-holds s = fault

pub no-expression-holds : {A : Type 0} {Q : A → Input → Type 0} (s : Input) → Holds Q (no_expression s)
unfolding no_expression
no-expression-holds s = fault

pub take-holds : {B : Type 0} {test : Filled → Option B} (s : Input) → Holds (Taken test s) (take_as test s)
take-holds s = on-holds _ _ _ s (λ x c h. took h) (λ h. refused-holds s)

pub choose-holds : {A : Type 0} {Q : A → Input → Type 0} (p q : Parser A) (b : Bool) (s : Input) → (b ≡ true → Holds Q (p s)) → (b ≡ false → Holds Q (q s)) → Holds Q (choose b p q s)
choose-holds p q true s f g = f refl
choose-holds p q false s f g = g refl

pub if-holds : {A : Type 0} {Q : A → Input → Type 0} (test : Filled → Bool) (p q : Parser A) (s : Input)
    → (next_is test s.tokens ≡ true → Holds Q (p s)) → (next_is test s.tokens ≡ false → Holds Q (q s)) → Holds Q (if_next test p q s)
if-holds test p q s f g = choose-holds p q (next_is test s.tokens) s f g
