-- What the model does at a token that opens a construct, by what it does there where nothing is read inside.
use Rattle.std.proofs.Common.{◌≡◌, ℕ, ◌⊎◌, inl, inr, Bool, true, false, List, [], ◌∷◌, Option, Some, None, refl, sym, ◌∙◌, ap}
use Rattle.std.specs.Prelude.{is_some}
use Rattle.es6_ast.specs.declared.settings.Stop.{Stop}
use Rattle.es6_ast.specs.declared.settings.Stop.TheVariants.{Depth}
use Rattle.es6_ast.specs.Tokens.{Filled}
use Rattle.es6_reading.specs.Parser.{Input, Inner, Took, Fault, Parser, next_is, returns, fails, on, on_taken, choose}
use Rattle.es6_reading.specs.Parts.{on_opening}

-- ## By the next token, and whether one more construct may open

missed : {A B : Type 0} (i : Inner) (test : Filled → Option B) (p : B → Parser A) (q : Parser A) (t : Filled) (ts : List Filled) (last : ℕ) → test t ≡ None
    → on_opening i test p q (record { tokens = t ∷ ts; last = last }) ≡ q (record { tokens = t ∷ ts; last = last })
missed i test p q t ts last e = ap (λ o. choose (is_some o) (choose i.may_open (on test p q) (fails Depth)) q (record { tokens = t ∷ ts; last = last })) e

hit : {A B : Type 0} (i : Inner) (test : Filled → Option B) (p : B → Parser A) (q : Parser A) (t : Filled) (ts : List Filled) (last : ℕ) (x : B) → test t ≡ Some x → i.may_open ≡ true
    → on_opening i test p q (record { tokens = t ∷ ts; last = last }) ≡ p x (record { tokens = ts; last = t.span.end })
hit i test p q t ts last x e may =
    ap (λ o. choose (is_some o) (choose i.may_open (on test p q) (fails Depth)) q (record { tokens = t ∷ ts; last = last })) e
    ∙ ap (λ b. choose b (on test p q) (fails Depth) (record { tokens = t ∷ ts; last = last })) may
    ∙ ap (λ o. on_taken o t ts p q (record { tokens = t ∷ ts; last = last })) e

-- where one more construct may open, the token is taken if the test knows it
pub opened : {A B : Type 0} (i : Inner) (test : Filled → Option B) (p : B → Parser A) (q : Parser A) (c : Input) → i.may_open ≡ true → on_opening i test p q c ≡ on test p q c
opened {B = B} i test p q c may = at c.tokens c.last
  where
    at : (ts : List Filled) (last : ℕ) → on_opening i test p q (record { tokens = ts; last = last }) ≡ on test p q (record { tokens = ts; last = last })
    at [] last = refl
    at (t ∷ ts) last = known (test t) refl
      where
        known : (o : Option B) → test t ≡ o → on_opening i test p q (record { tokens = t ∷ ts; last = last }) ≡ on test p q (record { tokens = t ∷ ts; last = last })
        known None e = missed i test p q t ts last e ∙ sym (ap (λ o. on_taken o t ts p q (record { tokens = t ∷ ts; last = last })) e)
        known (Some x) e = hit i test p q t ts last x e may ∙ sym (ap (λ o. on_taken o t ts p q (record { tokens = t ∷ ts; last = last })) e)

-- else such a token is a fault
pub shut_at : {A B : Type 0} (i : Inner) (test : Filled → Option B) (p : B → Parser A) (q : Parser A) (c : Input) → next_is (λ t. is_some (test t)) c.tokens ≡ true → i.may_open ≡ false → on_opening i test p q c ≡ Fault Depth c.tokens
shut_at i test p q c found may = ap (λ b. choose b (choose i.may_open (on test p q) (fails Depth)) q c) found ∙ ap (λ b. choose b (on test p q) (fails Depth) c) may

-- ## By what is done where nothing is read inside

-- what two readers do there
Both : {A A' B : Type 0} (i : Inner) (test : Filled → Option B) (p : B → Parser A) (q : Parser A) (s : B → Parser A') (r : Parser A') (c : Input) → Type 0
Both {B = B} i test p q s r c =
    ((on_opening i test p q c ≡ q c) × (on_opening i test s r c ≡ r c))
    ⊎ (((on_opening i test p q c ≡ Fault Depth c.tokens) × (on_opening i test s r c ≡ Fault Depth c.tokens))
    ⊎ ((x : B) × (d : Input) × (on_opening i test p q c ≡ p x d) × (on_opening i test s r c ≡ s x d)))

both : {A A' B : Type 0} (i : Inner) (test : Filled → Option B) (p : B → Parser A) (q : Parser A) (s : B → Parser A') (r : Parser A') (c : Input) → Both i test p q s r c
unfolding Both
both {B = B} i test p q s r c = at c.tokens c.last
  where
    at : (ts : List Filled) (last : ℕ) → Both i test p q s r (record { tokens = ts; last = last })
    at [] last = inl (refl, refl)
    at (t ∷ ts) last = known (test t) i.may_open refl refl
      where
        here : Input
        here = record { tokens = t ∷ ts; last = last }

        known : (o : Option B) (m : Bool) → test t ≡ o → i.may_open ≡ m → Both i test p q s r here
        known None m e may = inl (missed i test p q t ts last e, missed i test s r t ts last e)
        known (Some x) false e may = inr (inl (shut_at i test p q here (ap (λ o. is_some o) e) may, shut_at i test s r here (ap (λ o. is_some o) e) may))
        known (Some x) true e may = inr (inr (x, record { tokens = ts; last = t.span.end }, hit i test p q t ts last x e may, hit i test s r t ts last x e may))

-- a token that is taken so, and none
pub opens_as : {A B : Type 0} (i : Inner) (test : Filled → Option B) (p : B → Parser A) (q : Parser A) (c d : Input) (x : B) → on_opening i test (λ y. returns (Some y)) (returns None) c ≡ Took (Some x) d → on_opening i test p q c ≡ p x d
unfolding Both
opens_as i test p q c d x h = elim (both i test (λ y. returns (Some y)) (returns None) p q c) [
  | inl e ↦ let f = e.0 in absurd (cc)
  | inr e ↦ elim e [
    | inl e ↦ let f = e.0 in absurd (cc)
    | inr e ↦ let f = e.2 in let g = e.3 in cc
  ]
]

pub opens_none : {A B : Type 0} (i : Inner) (test : Filled → Option B) (p : B → Parser A) (q : Parser A) (c d : Input) → on_opening i test (λ y. returns (Some y)) (returns None) c ≡ Took None d → on_opening i test p q c ≡ q d
unfolding Both
opens_none i test p q c d h = elim (both i test (λ y. returns (Some y)) (returns None) p q c) [
  | inl e ↦ let f = e.0 in let g = e.1 in cc
  | inr e ↦ elim e [
    | inl e ↦ let f = e.0 in absurd (cc)
    | inr e ↦ let f = e.2 in absurd (cc)
  ]
]

-- a fault there is one whatever is read inside
pub opens_fault : {A B : Type 0} (i : Inner) (test : Filled → Option B) (p : B → Parser A) (q : Parser A) (c : Input) (stop : Stop) (ts : List Filled) → on_opening i test (λ y. returns (Some y)) (returns None) c ≡ Fault stop ts → on_opening i test p q c ≡ Fault stop ts
unfolding Both
opens_fault i test p q c stop ts h = elim (both i test (λ y. returns (Some y)) (returns None) p q c) [
  | inl e ↦ let f = e.0 in absurd (cc)
  | inr e ↦ elim e [
    | inl e ↦ let f = e.0 in let g = e.1 in cc
    | inr e ↦ let f = e.2 in absurd (cc)
  ]
]
