-- What is found, and more of it.
use Rattle.std.proofs.Common.{◌≡◌, ℕ, ◌+◌, ◌≤◌, ◌==◌, List, true, false, Some, None, unwrap_or, cond, refl, sym, ap, ◌∙◌, subst, inl, inr, arith, ◌⊎◌}
use Rattle.std.proofs.lemmas.Bool.{cases_eq, cases_Bool, eq-eqb, eqb-true}
use Rattle.module_flows.specs.declared.found.Found.{Found}
use Rattle.module_flows.specs.declared.found.Found.TheVariants.{Nothing, One, Several}
use Rattle.module_flows.specs.Flows.{Reaches}
use Rattle.module_flows.specs.Steps.{raised, joined, Covers, Below, room, IsSound}

eq_test : (x y : ℕ) → x ≡ y → (x == y) ≡ true
eq_test x y e = eq-eqb x y e

ne_test : (x y : ℕ) → (x ≡ y → ⊥) → (x == y) ≡ false
ne_test x y e = elim (cases_Bool (x == y)) [ inl t ↦ absurd (e (eqb-true x y t)) | inr f ↦ f ]

-- two ends are the same, or they are two
joined-one : (x y : ℕ) → ((x ≡ y) × (joined (One x) (One y) ≡ One x)) ⊎ ((x ≡ y → ⊥) × (joined (One x) (One y) ≡ Several))
joined-one x y = elim (cases_eq x y) [
  | inl e ↦ inl (e, rw (eq_test x y e) refl)
  | inr e ↦ inr (e, rw (ne_test x y e) refl)
]

pub Below-itself : (a : Found) → Below a a
Below-itself Nothing = tt
Below-itself (One x) = refl
Below-itself Several = refl

pub Below-covers : (a b : Found) (x : ℕ) → Covers a x → Below a b → Covers b x
Below-covers Nothing b x h k = absurd h
Below-covers (One y) b x h k = let P : ℕ → Type 0 = λ z. Covers b z in subst P h k
Below-covers Several b x h k = let P : Found → Type 0 = λ z. Covers z x in subst P (sym k) tt

pub Below-trans : (a b c : Found) → Below a b → Below b c → Below a c
Below-trans Nothing b c h k = tt
Below-trans (One x) b c h k = Below-covers b c x h k
Below-trans Several b c h k = let P : Found → Type 0 = λ z. Below z c in subst P h k

one-below : (x y : ℕ) → Below (One x) (joined (One x) (One y)) × Below (One y) (joined (One x) (One y))
one-below x y = elim (joined-one x y) [
  | inl e ↦ (let P : Found → Type 0 = λ z. Covers z x in subst P (sym e.1) refl, let P : Found → Type 0 = λ z. Covers z y in subst P (sym e.1) e.0)
  | inr e ↦ (let P : Found → Type 0 = λ z. Covers z x in subst P (sym e.1) tt, let P : Found → Type 0 = λ z. Covers z y in subst P (sym e.1) tt)
]

pub Below-joined : (a b : Found) → Below a (joined a b)
Below-joined Nothing b = tt
Below-joined (One x) Nothing = refl
Below-joined (One x) (One y) = (one-below x y).0
Below-joined (One x) Several = tt
Below-joined Several Nothing = refl
Below-joined Several (One y) = refl
Below-joined Several Several = refl

pub Below-joined_more : (a b : Found) → Below b (joined a b)
Below-joined_more a Nothing = tt
Below-joined_more Nothing (One y) = refl
Below-joined_more (One x) (One y) = (one-below x y).1
Below-joined_more Several (One y) = tt
Below-joined_more Nothing Several = refl
Below-joined_more (One x) Several = refl
Below-joined_more Several Several = refl

again-one : (x y : ℕ) → joined (joined (One x) (One y)) (One y) ≡ joined (One x) (One y)
again-one x y = elim (joined-one x y) [
  | inl e ↦ ap (λ z. joined z (One y)) e.1
  | inr e ↦ ap (λ z. joined z (One y)) e.1 ∙ sym e.1
]

itself-one : (y : ℕ) → joined (One y) (One y) ≡ One y
itself-one y = rw (eq_test y y refl) refl

pub joined-again : (a b : Found) → joined (joined a b) b ≡ joined a b
joined-again a Nothing = refl
joined-again Nothing (One y) = itself-one y
joined-again (One x) (One y) = again-one x y
joined-again Several (One y) = refl
joined-again Nothing Several = refl
joined-again (One x) Several = refl
joined-again Several Several = refl

pub joined-none : (a b : Found) → raised a b ≡ None → joined a b ≡ a
joined-none a b e = ap (λ r. unwrap_or r a) e

pub joined-some : (a b c : Found) → raised a b ≡ Some c → joined a b ≡ c
joined-some a b c e = ap (λ r. unwrap_or r a) e

room-one : (x y : ℕ) (c : Found) → cond (x == y) None (Some Several) ≡ Some c → room c + 1 ≤ 1
room-one x y c e = elim (cases_eq x y) [
  | inl same ↦ absurd (cc (eq_test x y same))
  | inr other ↦ let is : Several ≡ c = cc (ne_test x y other) in let P : Found → Type 0 = λ z. room z + 1 ≤ 1 in subst P is (omega arith)
]

pub room-raised : (a b c : Found) → raised a b ≡ Some c → room c + 1 ≤ room a
room-raised a Nothing c e = absurd (cc)
room-raised Nothing (One y) c e = let is : One y ≡ c = cc in let P : Found → Type 0 = λ z. room z + 1 ≤ 2 in subst P is (omega arith)
room-raised (One x) (One y) c e = room-one x y c e
room-raised Several (One y) c e = absurd (cc)
room-raised Nothing Several c e = let is : Several ≡ c = cc in let P : Found → Type 0 = λ z. room z + 1 ≤ 2 in subst P is (omega arith)
room-raised (One x) Several c e = let is : Several ≡ c = cc in let P : Found → Type 0 = λ z. room z + 1 ≤ 1 in subst P is (omega arith)
room-raised Several Several c e = absurd (cc)

sound-one : (users : List (List ℕ)) (ends : List ℕ) (n x y : ℕ) → Reaches users ends n x → Reaches users ends n y → IsSound users ends n (joined (One x) (One y))
sound-one users ends n x y h k = elim (joined-one x y) [
  | inl e ↦ let P : Found → Type 0 = λ z. IsSound users ends n z in subst P (sym e.1) h
  | inr e ↦ let P : Found → Type 0 = λ z. IsSound users ends n z in subst P (sym e.1) (x, y, (h, k, e.0))
]

pub IsSound-joined : (users : List (List ℕ)) (ends : List ℕ) (n : ℕ) (a b : Found) → IsSound users ends n a → IsSound users ends n b → IsSound users ends n (joined a b)
IsSound-joined users ends n a Nothing h k = h
IsSound-joined users ends n Nothing (One y) h k = k
IsSound-joined users ends n (One x) (One y) h k = sound-one users ends n x y h k
IsSound-joined users ends n Several (One y) h k = h
IsSound-joined users ends n Nothing Several h k = k
IsSound-joined users ends n (One x) Several h k = k
IsSound-joined users ends n Several Several h k = h
