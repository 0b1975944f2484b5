-- What holds of all that a reader takes, put together along its parts.
use Rattle.std.proofs.Common.{◌≡◌, ℕ, Bool, true, false, List, [], ◌∷◌, Option, Some, None, refl}
use Rattle.es5_ast.specs.Lexical.{Token5}
use Rattle.es5_reading.specs.Parser.{Input5, Stop5, Outcome5, Took, Fault, Parser, after, on, on_taken, choose, next_is, if_next, take_as}

-- ## What a reader's value and the input after it are

pub data Holds {A : Type 0} (Q : A → Input5 → Type 0) : Outcome5 A → Type 0 where
  took : {x : A} {c : Input5} → Q x c → Holds Q (Took x c)
  fault : {stop : Stop5} {tokens : List Token5} → Holds Q (Fault stop tokens)

pub of_took : {A : Type 0} {Q : A → Input5 → Type 0} {x : A} {c : Input5} → Holds Q (Took x c) → Q x c
of_took (took h) = h

pub bind : {A B : Type 0} {P : A → Input5 → Type 0} {Q : B → Input5 → Type 0} {o : Outcome5 A} {q : A → Parser B}
    → Holds P o → ((x : A) (c : Input5) → P x c → Holds Q (q x c)) → Holds Q (after o q)
bind (took h) f = f _ _ h
bind fault f = fault

pub weaken : {A : Type 0} {P Q : A → Input5 → Type 0} {o : Outcome5 A} → Holds P o → ((x : A) (c : Input5) → P x c → Q x c) → Holds Q o
weaken (took h) f = took (f _ _ h)
weaken fault f = fault

-- ## Tokens that are taken

-- the tokens begin with one that the test knows
pub data Taken {B : Type 0} (test : Token5 → Option B) : Input5 → B → Input5 → Type 0 where
  taken : {t : Token5} {ts : List Token5} {last : ℕ} {x : B} → test t ≡ Some x → Taken test (record { tokens = t ∷ ts; last = last }) x (record { tokens = ts; last = t.end })

-- the next token is none that the test knows
abbrev pub Misses : {B : Type 0} → (Token5 → Option B) → List Token5 → Type 0
Misses test [] = Unit {0}
Misses test (t ∷ ts) = test t ≡ None

pub on-holds : {A B : Type 0} {Q : A → Input5 → Type 0} (test : Token5 → Option B) (p : B → Parser A) (q : Parser A) (s : Input5)
    → ((x : B) (c : Input5) → Taken test s x c → Holds Q (p x c)) → (Misses test s.tokens → Holds Q (q s)) → Holds Q (on test p q s)
on-holds {A = A} {B = B} {Q = Q} test p q s f g = at s.tokens s.last f g
  where
    known : (t : Token5) (ts : List Token5) (last : ℕ) (o : Option B) → test t ≡ o → ((x : B) (c : Input5) → Taken test (record { tokens = t ∷ ts; last = last }) x c → Holds Q (p x c)) → (test t ≡ None → Holds Q (q (record { tokens = t ∷ ts; last = last })))
        → Holds Q (on_taken o t ts p q (record { tokens = t ∷ ts; last = last }))
    known t ts last (Some x) e f g = f x _ (taken e)
    known t ts last None e f g = g e

    at : (ts : List Token5) (last : ℕ) → ((x : B) (c : Input5) → Taken test (record { tokens = ts; last = last }) x c → Holds Q (p x c)) → (Misses test ts → Holds Q (q (record { tokens = ts; last = last })))
        → Holds Q (on test p q (record { tokens = ts; last = last }))
    at [] last f g = g tt
    at (t ∷ ts) last f g = known t ts last (test t) refl f g

pub take-holds : {B : Type 0} {test : Token5 → Option B} (s : Input5) → Holds (Taken test s) (take_as test s)
take-holds s = on-holds _ _ _ s (λ x c h. took h) (λ h. fault)

pub choose-holds : {A : Type 0} {Q : A → Input5 → Type 0} (p q : Parser A) (b : Bool) (s : Input5) → (b ≡ true → Holds Q (p s)) → (b ≡ false → Holds Q (q s)) → Holds Q (choose b p q s)
choose-holds p q true s f g = f refl
choose-holds p q false s f g = g refl

pub if-holds : {A : Type 0} {Q : A → Input5 → Type 0} (test : Token5 → Bool) (p q : Parser A) (s : Input5)
    → (next_is test s.tokens ≡ true → Holds Q (p s)) → (next_is test s.tokens ≡ false → Holds Q (q s)) → Holds Q (if_next test p q s)
if-holds test p q s f g = choose-holds p q (next_is test s.tokens) s f g
