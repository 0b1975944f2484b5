-- What holds of the runs of every machine: a run that doesn't go on stays as it is, events only come behind those that are
-- there, and there is an answer for each event but one that is waited for.
use Rattle.std.proofs.Common.{◌≡◌, ℕ, zero, suc, ◌<◌, ◌≤◌, List, [], ◌∷◌, length, refl, sym, ◌∙◌, ap, subst, ◌⊎◌, inl, inr, arith}
use Rattle.std.proofs.lemmas.Bool.{cases_lt}
use Rattle.runs.specs.Run.{Step, Goes, Asks, Ends, Leaves, View, Running, Waits, Over, Left, trace, with_event, take_step, seen_after}
use Rattle.runs.specs.Same.{IsFront}
use Rattle.runs.specs.Clauses.{HasStopped}
use Rattle.runs.specs.Laws.{IsRunning}
use Rattle.runs.proofs.Composed.{front-refl}
use Rattle.runs.proofs.Simulated.{trace-with_event}

-- the first view's events are a front of the second's
abbrev pub Grows : {E O L : Type 0} → View E O L → View E O L → Type 0
Grows {E = E} v w = IsFront (λ (x y : E). x ≡ y) (trace v) (trace w)

-- there is an answer for each event but one that is waited for
abbrev pub IsCounted : {E A O L : Type 0} → View E O L → List A → Type 0
IsCounted (Running es) ans = length es ≤ length ans
IsCounted (Waits es) ans = length es ≡ suc (length ans)
IsCounted (Over es o) ans = length es ≤ length ans
IsCounted (Left es x) ans = length es ≤ length ans

module _ {E O L : Type 0} (e : E) where
  runs_with_event : (v : View E O L) → IsRunning v → IsRunning (with_event e v)
  runs_with_event (Running es) r = tt
  runs_with_event (Waits es) r = absurd r
  runs_with_event (Over es o) r = absurd r
  runs_with_event (Left es x) r = absurd r

  stopped_without_event : (v : View E O L) → HasStopped (with_event e v) → HasStopped v
  stopped_without_event (Running es) r = absurd r
  stopped_without_event (Waits es) r = absurd r
  stopped_without_event (Over es o) r = tt
  stopped_without_event (Left es x) r = tt

  grows_with_event : (v w : View E O L) → Grows v w → Grows (with_event e v) (with_event e w)
  grows_with_event v w grown =
      subst (λ t. IsFront (λ (x y : E). x ≡ y) t (trace (with_event e w))) (sym (trace-with_event e v))
      (subst (λ t. IsFront (λ (x y : E). x ≡ y) (e ∷ trace v) t) (sym (trace-with_event e w)) (refl, grown))

  counted_with_event : {A : Type 0} (a : A) (ans : List A) (v : View E O L) → IsCounted v ans → IsCounted (with_event e v) (a ∷ ans)
  counted_with_event a ans (Running es) c = omega (arith, c)
  counted_with_event a ans (Waits es) c = omega (arith, c)
  counted_with_event a ans (Over es o) c = omega (arith, c)
  counted_with_event a ans (Left es x) c = omega (arith, c)

module _ {S E A O L : Type 0} (step : S → Step S E A O L) where
  lasting_step : (n m : ℕ) → ((s : S) (ans : List A) → (IsRunning (seen_after step n s ans) → ⊥) → seen_after step m s ans ≡ seen_after step n s ans) → (x : Step S E A O L) (ans : List A) → (IsRunning (take_step x (seen_after step n) ans) → ⊥) → take_step x (seen_after step m) ans ≡ take_step x (seen_after step n) ans
  lasting_step n m later (Goes s) ans over = later s ans over
  lasting_step n m later (Asks e f) [] over = refl
  lasting_step n m later (Asks e f) (a ∷ ans) over = ap (λ v. with_event e v) (later (f a) ans (λ r. over (runs_with_event e (seen_after step n (f a) ans) r)))
  lasting_step n m later (Ends o) ans over = refl
  lasting_step n m later (Leaves x) ans over = refl

  -- a run that doesn't go on stays as it is
  pub lasting : (n m : ℕ) (s : S) (ans : List A) → n ≤ m → (IsRunning (seen_after step n s ans) → ⊥) → seen_after step m s ans ≡ seen_after step n s ans
  lasting zero m s ans h over = absurd (over tt)
  lasting (suc n) zero s ans h over = absurd (omega arith)
  lasting (suc n) (suc m) s ans h over = lasting_step n m (λ s2 ans2 over2. lasting n m s2 ans2 (omega arith) over2) (step s) ans over

  growing_step : (n m : ℕ) → ((s : S) (ans : List A) → Grows (seen_after step n s ans) (seen_after step m s ans)) → (x : Step S E A O L) (ans : List A) → Grows (take_step x (seen_after step n) ans) (take_step x (seen_after step m) ans)
  growing_step n m later (Goes s) ans = later s ans
  growing_step n m later (Asks e f) [] = (refl, tt)
  growing_step n m later (Asks e f) (a ∷ ans) = grows_with_event e (seen_after step n (f a) ans) (seen_after step m (f a) ans) (later (f a) ans)
  growing_step n m later (Ends o) ans = tt
  growing_step n m later (Leaves x) ans = tt

  -- events only come behind those that are there
  pub growing : (n m : ℕ) (s : S) (ans : List A) → n ≤ m → Grows (seen_after step n s ans) (seen_after step m s ans)
  growing zero m s ans h = tt
  growing (suc n) zero s ans h = absurd (omega arith)
  growing (suc n) (suc m) s ans h = growing_step n m (λ s2 ans2. growing n m s2 ans2 (omega arith)) (step s) ans

  -- of a run that doesn't go on, all events are there
  pub all_there : (m k : ℕ) (s : S) (ans : List A) → (IsRunning (seen_after step m s ans) → ⊥) → Grows (seen_after step k s ans) (seen_after step m s ans)
  all_there m k s ans over = by_count (cases_lt k m)
    where
      by_count : ((k < m) ⊎ (m ≤ k)) → Grows (seen_after step k s ans) (seen_after step m s ans)
      by_count (inl lt) = growing k m s ans (omega arith)
      by_count (inr le) = subst (λ v. Grows v (seen_after step m s ans)) (sym (lasting m k s ans le over)) (front-refl (trace (seen_after step m s ans)))

  -- two counts at which a run doesn't go on show the same
  pub stands_still : (m k : ℕ) (s : S) (ans : List A) → (IsRunning (seen_after step m s ans) → ⊥) → (IsRunning (seen_after step k s ans) → ⊥) → seen_after step m s ans ≡ seen_after step k s ans
  stands_still m k s ans over over2 = by_count (cases_lt k m)
    where
      by_count : ((k < m) ⊎ (m ≤ k)) → seen_after step m s ans ≡ seen_after step k s ans
      by_count (inl lt) = lasting k m s ans (omega arith) over2
      by_count (inr le) = sym (lasting m k s ans le over)

  -- a count at which the run goes on, with these events
  abbrev pub RunsWith : S → List A → List E → Type 0
  RunsWith s ans es = (k : ℕ) × (seen_after step k s ans ≡ Running es)

  running_step : (n : ℕ) → ((s : S) (ans : List A) → HasStopped (seen_after step n s ans) → RunsWith s ans (trace (seen_after step n s ans))) → (s : S) (x : Step S E A O L) → step s ≡ x → (ans : List A) → HasStopped (take_step x (seen_after step n) ans) → RunsWith s ans (trace (take_step x (seen_after step n) ans))
  running_step n earlier s (Goes u) is ans stopped =
      let (k, e) = earlier u ans stopped in
      (suc k, ap (λ y. take_step y (seen_after step k) ans) is ∙ e)
  running_step n earlier s (Asks e f) is [] stopped = absurd stopped
  running_step n earlier s (Asks e f) is (a ∷ ans) stopped =
      let (k, same) = earlier (f a) ans (stopped_without_event e (seen_after step n (f a) ans) stopped) in
      (suc k, ap (λ y. take_step y (seen_after step k) (a ∷ ans)) is ∙ ap (λ v. with_event e v) same ∙ ap (λ t. Running t) (sym (trace-with_event e (seen_after step n (f a) ans))))
  running_step n earlier s (Ends o) is ans stopped = (0, refl)
  running_step n earlier s (Leaves x) is ans stopped = (0, refl)

  -- a run that has stopped went on before, with the same events
  pub running_before : (n : ℕ) (s : S) (ans : List A) → HasStopped (seen_after step n s ans) → RunsWith s ans (trace (seen_after step n s ans))
  running_before zero s ans stopped = absurd stopped
  running_before (suc n) s ans stopped = running_step n (running_before n) s (step s) refl ans stopped

  counted_step : (n : ℕ) → ((s : S) (ans : List A) → IsCounted (seen_after step n s ans) ans) → (x : Step S E A O L) (ans : List A) → IsCounted (take_step x (seen_after step n) ans) ans
  counted_step n later (Goes s) ans = later s ans
  counted_step n later (Asks e f) [] = refl
  counted_step n later (Asks e f) (a ∷ ans) = counted_with_event e a ans (seen_after step n (f a) ans) (later (f a) ans)
  counted_step n later (Ends o) ans = omega arith
  counted_step n later (Leaves x) ans = omega arith

  pub counted : (n : ℕ) (s : S) (ans : List A) → IsCounted (seen_after step n s ans) ans
  counted zero s ans = omega arith
  counted (suc n) s ans = counted_step n (counted n) (step s) ans
