-- When a reader takes tokens up to others, at least one of them, and gives exactly this value.
use Rattle.std.proofs.Common.{◌≡◌, ℕ, Bool, true, false, List, ◌∷◌, Option, Some, refl, sym, ap, subst}
use Rattle.es6_lexer.specs.declared.token.Punctuator.{Punctuator as Mark}
use Rattle.es6_ast.specs.Tokens.{Filled, IsWord, IsMark, is_word}
use Rattle.es6_ast.specs.Grammar.{IsEnd, ends}
use Rattle.es6_reading.specs.Parser.{Input, Outcome, Took, Parser, after, on, on_taken, choose, next_is, if_next, take_as, refused, kept_if, is_mark, mark, word, next_mark, ending, Inner, on_group, inserts, semicolon}
use Rattle.es6_reading.proofs.Posts.{Misses}
use Rattle.es6_reading.proofs.Meanings.{bytes_eq-refl, is-mark-true}
use Rattle.es6_reading.proofs.Spans.{Goes, Moves, ◌⟫◌, goes, stays, then-goes}
use Rattle.es6_reading.proofs.Reading.{on-miss-is, group-is}

pub data Exactly {A : Type 0} (x : A) (s : Input) (us : List Filled) : Outcome A → Type 0 where
  exactly : {end : ℕ} → Moves s (record { tokens = us; last = end }) → Exactly x s us (Took x (record { tokens = us; last = end }))

-- whatever ended before
abbrev pub ReadsExactly : {A : Type 0} → Parser A → A → List Filled → List Filled → Type 0
ReadsExactly p x ts us = (last : ℕ) → Exactly x (record { tokens = ts; last = last }) us (p (record { tokens = ts; last = last }))

pub equal : {A : Type 0} {x : A} {s : Input} {us : List Filled} {o o' : Outcome A} → o ≡ o' → Exactly x s us o' → Exactly x s us o
equal {x = x} {s = s} {us = us} e h = subst (λ r. Exactly x s us r) (sym e) h

-- a value that is it
pub done : {A : Type 0} {x y : A} {s : Input} {us : List Filled} {end : ℕ} → y ≡ x → Moves s (record { tokens = us; last = end }) → Exactly x s us (Took y (record { tokens = us; last = end }))
done {s = s} {us = us} {end = end} e m = equal (ap (λ z. Took z (record { tokens = us; last = end })) e) (exactly m)

-- a part, and what is read after it
pub and_then : {A B : Type 0} {x : A} {y : B} {s : Input} {us vs : List Filled} {o : Outcome A} (q : A → Parser B) → Exactly x s us o → ((end : ℕ) → Moves s (record { tokens = us; last = end }) → Exactly y s vs (q x (record { tokens = us; last = end }))) → Exactly y s vs (after o q)
and_then q (exactly m) f = f _ m

-- after other tokens
pub later : {A : Type 0} {x : A} {s c : Input} {us : List Filled} {o : Outcome A} → Moves s c → Exactly x c us o → Exactly x s us o
later m (exactly k) = exactly (m ⟫ k)

-- ## Choices

pub hit : {A B : Type 0} {x : A} {s : Input} {us : List Filled} (test : Filled → Option B) (p : B → Parser A) (q : Parser A) (t : Filled) (b : B) (ts : List Filled) (last : ℕ) → test t ≡ Some b → Exactly x s us (p b (record { tokens = ts; last = t.span.end })) → Exactly x s us (on test p q (record { tokens = t ∷ ts; last = last }))
hit test p q t b ts last e r = equal (ap (λ o. on_taken o t ts p q (record { tokens = t ∷ ts; last = last })) e) r

pub miss : {A B : Type 0} {x : A} {s : Input} {us : List Filled} (test : Filled → Option B) (p : B → Parser A) (q : Parser A) (ts : List Filled) (last : ℕ) → Misses test ts → Exactly x s us (q (record { tokens = ts; last = last })) → Exactly x s us (on test p q (record { tokens = ts; last = last }))
miss test p q ts last h r = equal (on-miss-is test p q ts last h) r

pub take-is : {B : Type 0} (test : Filled → Option B) (t : Filled) (b : B) (ts : List Filled) (last : ℕ) → test t ≡ Some b → take_as test (record { tokens = t ∷ ts; last = last }) ≡ Took b (record { tokens = ts; last = t.span.end })
take-is test t b ts last e = ap (λ o. on_taken o t ts (λ x c. Took x c) refused (record { tokens = t ∷ ts; last = last })) e

pub take : {A B : Type 0} {x : A} {s : Input} {us : List Filled} (test : Filled → Option B) (q : B → Parser A) (t : Filled) (b : B) (ts : List Filled) (last : ℕ) → test t ≡ Some b → Exactly x s us (q b (record { tokens = ts; last = t.span.end })) → Exactly x s us (after (take_as test (record { tokens = t ∷ ts; last = last })) q)
take test q t b ts last e r = equal (ap (λ o. after o q) (take-is test t b ts last e)) r

pub if-yes : {A : Type 0} {x : A} {s : Input} {us : List Filled} (test : Filled → Bool) (p q : Parser A) (ts : List Filled) (last : ℕ) → next_is test ts ≡ true → Exactly x s us (p (record { tokens = ts; last = last })) → Exactly x s us (if_next test p q (record { tokens = ts; last = last }))
if-yes test p q ts last e r = equal (ap (λ w. choose w p q (record { tokens = ts; last = last })) e) r

pub if-no : {A : Type 0} {x : A} {s : Input} {us : List Filled} (test : Filled → Bool) (p q : Parser A) (ts : List Filled) (last : ℕ) → next_is test ts ≡ false → Exactly x s us (q (record { tokens = ts; last = last })) → Exactly x s us (if_next test p q (record { tokens = ts; last = last }))
if-no test p q ts last e r = equal (ap (λ w. choose w p q (record { tokens = ts; last = last })) e) r

pub chosen : {A : Type 0} {x : A} {s : Input} {us : List Filled} (b : Bool) (p q : Parser A) (c : Input) → b ≡ true → Exactly x s us (p c) → Exactly x s us (choose b p q c)
chosen b p q c e r = equal (ap (λ w. choose w p q c) e) r

pub group-in : {A : Type 0} {x : A} {s : Input} {us : List Filled} (i : Inner) (p : Mark) (inside otherwise : Parser A) (t : Filled) (ts : List Filled) (last : ℕ) → is_mark p t.kind ≡ true → i.may_open ≡ true → Exactly x s us (inside (record { tokens = ts; last = t.span.end })) → Exactly x s us (on_group i p inside otherwise (record { tokens = t ∷ ts; last = last }))
group-in i p inside otherwise t ts last e m r = equal (group-is i p inside otherwise t ts last e m) r

-- an outcome that is known
pub known : {A B : Type 0} {y : B} {s c : Input} {us : List Filled} {x : A} {o : Outcome A} (q : A → Parser B) → o ≡ Took x c → Exactly y s us (q x c) → Exactly y s us (after o q)
known q e r = equal (ap (λ z. after z q) e) r

pub if-is : {A : Type 0} (test : Filled → Bool) (p q : Parser A) (ts : List Filled) (last : ℕ) → next_is test ts ≡ false → if_next test p q (record { tokens = ts; last = last }) ≡ q (record { tokens = ts; last = last })
if-is test p q ts last e = ap (λ w. choose w p q (record { tokens = ts; last = last })) e

pub group-out : {A : Type 0} {x : A} {s : Input} {us : List Filled} (i : Inner) (p : Mark) (inside otherwise : Parser A) (ts : List Filled) (last : ℕ) → next_is (next_mark p) ts ≡ false → Exactly x s us (otherwise (record { tokens = ts; last = last })) → Exactly x s us (on_group i p inside otherwise (record { tokens = ts; last = last }))
group-out i p inside otherwise ts last e r = if-no (next_mark p) _ otherwise ts last e r

pub refused-choice : {A : Type 0} {x : A} {s : Input} {us : List Filled} (b : Bool) (p q : Parser A) (c : Input) → b ≡ false → Exactly x s us (q c) → Exactly x s us (choose b p q c)
refused-choice b p q c e r = equal (ap (λ w. choose w p q c) e) r

pub either-choice : {A : Type 0} {x : A} {s : Input} {us : List Filled} (b : Bool) (p q : Parser A) (c : Input) → (b ≡ true → Exactly x s us (p c)) → (b ≡ false → Exactly x s us (q c)) → Exactly x s us (choose b p q c)
either-choice true p q c f g = f refl
either-choice false p q c f g = g refl

-- ## Where no token may be taken

pub data Onward {A : Type 0} (x : A) (s : Input) (us : List Filled) : Outcome A → Type 0 where
  onward : {end : ℕ} → Goes s (record { tokens = us; last = end }) → Onward x s us (Took x (record { tokens = us; last = end }))

abbrev pub ReadsOnward : {A : Type 0} → Parser A → A → List Filled → List Filled → Type 0
ReadsOnward p x ts us = (last : ℕ) → Onward x (record { tokens = ts; last = last }) us (p (record { tokens = ts; last = last }))

pub onward-of : {A : Type 0} {x : A} {s : Input} {us : List Filled} {o : Outcome A} → Exactly x s us o → Onward x s us o
onward-of (exactly m) = onward (goes m)

pub onward-equal : {A : Type 0} {x : A} {s : Input} {us : List Filled} {o o' : Outcome A} → o ≡ o' → Onward x s us o' → Onward x s us o
onward-equal {x = x} {s = s} {us = us} e h = subst (λ r. Onward x s us r) (sym e) h

pub nothing-taken : {A : Type 0} {x : A} {us : List Filled} {last : ℕ} {o : Outcome A} → o ≡ Took x (record { tokens = us; last = last }) → Onward x (record { tokens = us; last = last }) us o
nothing-taken {us = us} {last = last} e = onward-equal e (onward (stays (record { tokens = us; last = last })))

-- what was read after other tokens, and what is read after it
pub and_on : {A B : Type 0} {x : A} {y : B} {s c : Input} {us vs : List Filled} {o : Outcome A} (q : A → Parser B) → Moves s c → Onward x c us o → ((end : ℕ) → Moves s (record { tokens = us; last = end }) → Exactly y s vs (q x (record { tokens = us; last = end }))) → Exactly y s vs (after o q)
and_on q m (onward g) f = f _ (then-goes m g)

-- ## Tokens

kept : (b : Bool) (t : Filled) → b ≡ true → kept_if b t ≡ Some t
kept b t h = ap (λ c. kept_if c t) h

pub mark-hit : (p : Mark) (t : Filled) → IsMark p t → mark p t ≡ Some t
mark-hit p t h = kept (is_mark p t.kind) t (is-mark-true p t h)

pub is-word-true : (w : List ℕ) (t : Filled) → IsWord w t → is_word w t.kind ≡ true
is-word-true w t h = rw h (bytes_eq-refl w)

pub word-hit : (w : List ℕ) (t : Filled) → IsWord w t → word w t ≡ Some t
word-hit w t h = kept (is_word w t.kind) t (is-word-true w t h)

pub end-hit : (t : Filled) → IsEnd t → ending false t ≡ Some t
end-hit t h = kept (ends false t.kind) t h

-- the semicolon that ends a statement
pub end-semicolon : {A : Type 0} {x : A} {s : Input} {us : List Filled} (i : Inner) (q : Unit {0} → Parser A) (t : Filled) (ts : List Filled) (last : ℕ) → IsEnd t → Exactly x s us (q tt (record { tokens = ts; last = t.span.end })) → Exactly x s us (after (semicolon i (record { tokens = t ∷ ts; last = last })) q)
unfolding semicolon
end-semicolon i q t ts last h r = equal (ap (λ o. after o q) (ap (λ o. on_taken o t ts (λ u c. Took tt c) (choose i.inserting inserts refused) (record { tokens = t ∷ ts; last = last })) (end-hit t h))) r
