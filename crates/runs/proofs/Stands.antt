-- What is seen of a run is what is seen of the state that it has come to, and answers behind those that are left wait there.
use Rattle.std.proofs.Common.{◌≡◌, ℕ, zero, suc, List, [], ◌∷◌, ◌++◌, refl, sym, ◌∙◌, ap, subst, append_assoc, append-nil}
use Rattle.runs.specs.Run.{Step, Goes, Asks, Ends, Leaves, View, Running, Waits, Over, Left, with_event, take_step, seen_after}
use Rattle.runs.specs.Standing.{Standing, AtState, AtWait, AtEnding, AtExit, moved, one_more, more, standing_after, seen_of}

-- the view that has these earlier events
abbrev with_events : {E O L : Type 0} → List E → View E O L → View E O L
with_events es (Running events) = Running (es ++ events)
with_events es (Waits events) = Waits (es ++ events)
with_events es (Over events ending) = Over (es ++ events) ending
with_events es (Left events exit) = Left (es ++ events) exit

with_events-more : {E O L : Type 0} (es : List E) (e : E) (v : View E O L) → with_events (es ++ e ∷ []) v ≡ with_events es (with_event e v)
with_events-more es e (Running events) = ap (λ t. Running t) (append_assoc es (e ∷ []) events)
with_events-more es e (Waits events) = ap (λ t. Waits t) (append_assoc es (e ∷ []) events)
with_events-more es e (Over events ending) = ap (λ t. Over t ending) (append_assoc es (e ∷ []) events)
with_events-more es e (Left events exit) = ap (λ t. Left t exit) (append_assoc es (e ∷ []) events)

with_events-none : {E O L : Type 0} (v : View E O L) → with_events [] v ≡ v
with_events-none (Running events) = refl
with_events-none (Waits events) = refl
with_events-none (Over events ending) = refl
with_events-none (Left events exit) = refl

module _ {S E A O L : Type 0} (step : S → Step S E A O L) where
  -- the first of the steps can be taken first
  more-first : (n : ℕ) (x : Standing S E A O L) → one_more step (more step n x) ≡ more step n (one_more step x)
  more-first zero x = refl
  more-first (suc n) x = ap (λ y. one_more step y) (more-first n x)

  more-wait : (n : ℕ) (es : List E) (f : A → S) → more step n (AtWait es f) ≡ AtWait es f
  more-wait zero es f = refl
  more-wait (suc n) es f = ap (λ y. one_more step y) (more-wait n es f)

  more-ending : (n : ℕ) (es : List E) (o : O) → more step n (AtEnding es o) ≡ AtEnding es o
  more-ending zero es o = refl
  more-ending (suc n) es o = ap (λ y. one_more step y) (more-ending n es o)

  more-exit : (n : ℕ) (es : List E) (x : L) → more step n (AtExit es x) ≡ AtExit es x
  more-exit zero es x = refl
  more-exit (suc n) es x = ap (λ y. one_more step y) (more-exit n es x)

  seen_step : (n : ℕ) → ((es : List E) (s : S) (ans : List A) → with_events es (seen_after step n s ans) ≡ seen_of (more step n (AtState es s ans))) → (x : Step S E A O L) (es : List E) (ans : List A) → with_events es (take_step x (seen_after step n) ans) ≡ seen_of (more step n (moved x es ans))
  seen_step n later (Goes s) es ans = later es s ans
  seen_step n later (Asks e f) es [] = sym (ap (λ y. seen_of y) (more-wait n (es ++ e ∷ []) f))
  seen_step n later (Asks e f) es (a ∷ ans) = sym (with_events-more es e (seen_after step n (f a) ans)) ∙ later (es ++ e ∷ []) (f a) ans
  seen_step n later (Ends o) es ans = ap (λ t. Over t o) (append-nil es) ∙ sym (ap (λ y. seen_of y) (more-ending n es o))
  seen_step n later (Leaves x) es ans = ap (λ t. Left t x) (append-nil es) ∙ sym (ap (λ y. seen_of y) (more-exit n es x))

  seen_behind : (n : ℕ) (es : List E) (s : S) (ans : List A) → with_events es (seen_after step n s ans) ≡ seen_of (more step n (AtState es s ans))
  seen_behind zero es s ans = ap (λ t. Running t) (append-nil es)
  seen_behind (suc n) es s ans =
      seen_step n (seen_behind n) (step s) es ans ∙ sym (ap (λ y. seen_of y) (more-first n (AtState es s ans)))

  pub seen_where_it_stands : (n : ℕ) (s : S) (ans : List A) → seen_after step n s ans ≡ seen_of (standing_after step n s ans)
  seen_where_it_stands n s ans = sym (with_events-none (seen_after step n s ans)) ∙ seen_behind n [] s ans

-- where the first stands at a state, the second stands there with more answers left
abbrev Extends : {S E A O L : Type 0} → List A → Standing S E A O L → Standing S E A O L → Type 0
Extends later (AtState es s ans) other = other ≡ AtState es s (ans ++ later)
Extends later (AtWait es f) other = Unit {0}
Extends later (AtEnding es o) other = Unit {0}
Extends later (AtExit es x) other = Unit {0}

module _ {S E A O L : Type 0} (step : S → Step S E A O L) (later : List A) where
  moved_extends : (x : Step S E A O L) (es : List E) (ans : List A) → Extends later (moved x es ans) (moved x es (ans ++ later))
  moved_extends (Goes s) es ans = refl
  moved_extends (Asks e f) es [] = tt
  moved_extends (Asks e f) es (a ∷ ans) = refl
  moved_extends (Ends o) es ans = tt
  moved_extends (Leaves x) es ans = tt

  one_more_extends : (x y : Standing S E A O L) → Extends later x y → Extends later (one_more step x) (one_more step y)
  one_more_extends (AtState es s ans) y is = subst (λ z. Extends later (moved (step s) es ans) (one_more step z)) (sym is) (moved_extends (step s) es ans)
  one_more_extends (AtWait es f) y is = tt
  one_more_extends (AtEnding es o) y is = tt
  one_more_extends (AtExit es x) y is = tt

  more_extends : (n : ℕ) (es : List E) (s : S) (ans : List A) → Extends later (more step n (AtState es s ans)) (more step n (AtState es s (ans ++ later)))
  more_extends zero es s ans = refl
  more_extends (suc n) es s ans = one_more_extends (more step n (AtState es s ans)) (more step n (AtState es s (ans ++ later))) (more_extends n es s ans)

  pub answers_wait : (n : ℕ) (s t : S) (ans left : List A) (es : List E) → standing_after step n s ans ≡ AtState es t left → standing_after step n s (ans ++ later) ≡ AtState es t (left ++ later)
  answers_wait n s t ans left es at = subst (λ x. Extends later x (standing_after step n s (ans ++ later))) at (more_extends n [] s ans)
