-- A simulation makes the target do what the source does.
use Rattle.std.proofs.Common.{◌≡◌, ℕ, zero, suc, ◌+◌, ◌-◌, ◌<◌, ◌≤◌, List, [], ◌∷◌, refl, sym, ◌∙◌, ap, subst, arith, ◌⊎◌, inl, inr}
use Rattle.std.proofs.lemmas.Bool.{cases_lt}
use Rattle.runs.specs.Run.{Step, Goes, Asks, Ends, Leaves, View, Running, Waits, Over, Left, trace, with_event, take_step, seen_after, run}
use Rattle.runs.specs.Same.{IsFront, converse, Shows, shown_running, shown_waiting, shown_over, nothing_shown, Explains, only_part, both_waiting, both_over, left_before, Same}
use Rattle.runs.specs.Simulation.{Reaches, Rank, IsMatched, Simulates}

shows_with_event : {E F O L M : Type 0} {R : E → F → Type 0} {v : View E O L} {w : View F O M} (e : E) (f : F) → R e f → Shows R v w → Shows R (with_event e v) (with_event f w)
shows_with_event e f r (shown_running a) = shown_running (r, a)
shows_with_event e f r (shown_waiting a) = shown_waiting (r, a)
shows_with_event e f r (shown_over a) = shown_over (r, a)
shows_with_event e f r nothing_shown = nothing_shown

pub trace-with_event : {E O L : Type 0} (e : E) (v : View E O L) → trace (with_event e v) ≡ e ∷ trace v
trace-with_event e (Running t) = refl
trace-with_event e (Waits t) = refl
trace-with_event e (Over t o) = refl
trace-with_event e (Left t x) = refl

explains_with_event : {E F O L M : Type 0} {R : E → F → Type 0} {v : View E O L} {w : View F O M} (e : E) (f : F) → R e f → Explains R v w → Explains R (with_event e v) (with_event f w)
explains_with_event {R = R} e f r (only_part {source = v} {fs = fs} a) =
    only_part (subst (λ t. IsFront (converse R) (f ∷ fs) t) (sym (trace-with_event e v)) (r, a))
explains_with_event e f r (both_waiting a) = both_waiting (r, a)
explains_with_event e f r (both_over a) = both_over (r, a)
explains_with_event {R = R} e f r (left_before {es = es} {target = w} a) =
    left_before (subst (λ t. IsFront R (e ∷ es) t) (sym (trace-with_event f w)) (r, a))

module _ {T F A O M : Type 0} (step : T → Step T F A O M) where
  -- after the silent steps on the way
  seen_after-reaches : (k m : ℕ) (t u : T) (ans : List A) → Reaches step k t u → seen_after step (k + m) t ans ≡ seen_after step m u ans
  seen_after-reaches zero m t u ans e = let z : 0 + m ≡ m = omega arith in rw z (ap (λ x. seen_after step m x ans) e)
  seen_after-reaches (suc k) m t u ans (v, e, r) =
      let z : suc k + m ≡ suc (k + m) = omega arith in
      rw z (ap (λ x. take_step x (seen_after step (k + m)) ans) e ∙ seen_after-reaches k m v u ans r)

  -- on the way nothing is seen
  seen_after-on_way : (k m : ℕ) (t u : T) (ans : List A) → Reaches step k t u → m ≤ k → seen_after step m t ans ≡ Running []
  seen_after-on_way k zero t u ans r h = refl
  seen_after-on_way zero (suc m) t u ans r h = absurd (omega arith)
  seen_after-on_way (suc k) (suc m) t u ans (v, e, r) h =
      ap (λ x. take_step x (seen_after step m) ans) e ∙ seen_after-on_way k m v u ans r (omega arith)

module _ {S T E F A O L M : Type 0} (step1 : S → Step S E A O L) (step2 : T → Step T F A O M) (Related : S → T → Type 0) (R : E → F → Type 0) (rank : Rank Related) where
  abbrev Shown : ℕ → S → T → List A → Type 0
  Shown n s t ans = (m : ℕ) × Shows R (seen_after step1 n s ans) (seen_after step2 m t ans)

  shown_step : (n : ℕ) (next : (s : S) (t : T) (ans : List A) → Related s t → Shown n s t ans) (r : ℕ) (x : Step S E A O L) (t : T) (ans : List A) → IsMatched step2 Related R rank r x t → (m : ℕ) × Shows R (take_step x (seen_after step1 n) ans) (seen_after step2 m t ans)
  shown_step n next r (Goes s) t ans (k, u, way, rel, falls) =
      let (m, sh) = next s u ans rel in
      (k + m, subst (λ w. Shows R (seen_after step1 n s ans) w) (sym (seen_after-reaches step2 k m t u ans way)) sh)
  shown_step n next r (Asks e g) t [] (k, u, f, h, way, asks, agree, rel) =
      let e1 = seen_after-reaches step2 k 1 t u [] way in
      let e2 = ap (λ x. take_step x (seen_after step2 0) []) asks in
      (k + 1, subst (λ w. Shows {L = L} R (Waits (e ∷ [])) w) (sym (e1 ∙ e2)) (shown_waiting (agree, tt)))
  shown_step n next r (Asks e g) t (a ∷ ans) (k, u, f, h, way, asks, agree, rel) =
      let (m, sh) = next (g a) (h a) ans (rel a) in
      let e1 = seen_after-reaches step2 k (suc m) t u (a ∷ ans) way in
      let e2 = ap (λ x. take_step x (seen_after step2 m) (a ∷ ans)) asks in
      (k + suc m, subst (λ w. Shows R (with_event e (seen_after step1 n (g a) ans)) w) (sym (e1 ∙ e2)) (shows_with_event e f agree sh))
  shown_step n next r (Ends o) t ans (k, u, way, ends) =
      let e1 = seen_after-reaches step2 k 1 t u ans way in
      let e2 = ap (λ x. take_step x (seen_after step2 0) ans) ends in
      (k + 1, subst (λ w. Shows {L = L} R (Over [] o) w) (sym (e1 ∙ e2)) (shown_over tt))
  shown_step n next r (Leaves x) t ans _ = (0, nothing_shown)

  module _ (sim : Simulates step1 step2 Related R rank) where
    shown : (n : ℕ) (s : S) (t : T) (ans : List A) → Related s t → Shown n s t ans
    shown zero s t ans rel = (0, shown_running tt)
    shown (suc n) s t ans rel = shown_step n (shown n) (rank s t rel) (step1 s) t ans (sim.matched s t rel)

  abbrev Explained : ℕ → S → T → List A → Type 0
  Explained m s t ans = (n : ℕ) × Explains R (seen_after step1 n s ans) (seen_after step2 m t ans)

  -- on the way of the target to its next step
  on_the_way : (k m : ℕ) (s : S) (t u : T) (ans : List A) → Reaches step2 k t u → m ≤ k → Explained m s t ans
  on_the_way k m s t u ans way h =
      (0, subst (λ w. Explains {L = L} R (Running []) w) (sym (seen_after-on_way step2 k m t u ans way h)) (only_part tt))

  module _ (sim : Simulates step1 step2 Related R rank) where
    -- what is known of fewer steps of the target
    abbrev Earlier : ℕ → Type 0
    Earlier b = (m : ℕ) (s : S) (t : T) (ans : List A) → m < b → Related s t → Explained m s t ans

    -- the same at a lower rank of the pair
    abbrev Lower : ℕ → ℕ → Type 0
    Lower b r = (m : ℕ) (s : S) (t : T) (ans : List A) → m ≤ b → (rel : Related s t) → rank s t rel < r → Explained m s t ans

    silent : (b r m : ℕ) (s : S) (t : T) (ans : List A) → Earlier b → Lower b r → m ≤ b → (k : ℕ) (u : T) → Reaches step2 k t u → (rel : Related s u) → (k ≡ 0 → rank s u rel < r) → Explained m s t ans
    silent b r m s t ans earlier lower h zero u way rel falls =
        subst (λ v. Explained m s v ans) (sym way) (lower m s u ans h rel (falls refl))
    silent b r m s t ans earlier lower h (suc k) u way rel falls = by_count (cases_lt (suc k) m)
      where
        by_count : ((suc k < m) ⊎ (m ≤ suc k)) → Explained m s t ans
        by_count (inr le) = on_the_way (suc k) m s t u ans way le
        by_count (inl lt) =
            let m' : ℕ = m - suc k in
            let split : suc k + m' ≡ m = omega arith in
            let (n, ex) = earlier m' s u ans (omega arith) rel in
            (n, subst (λ w. Explains R (seen_after step1 n s ans) w) (sym (seen_after-reaches step2 (suc k) m' t u ans way) ∙ ap (λ c. seen_after step2 c t ans) split) ex)

    explained_step : (b r m : ℕ) (s : S) (t : T) (ans : List A) → Earlier b → Lower b r → m ≤ b → (x : Step S E A O L) → step1 s ≡ x → IsMatched step2 Related R rank r x t → Explained m s t ans
    explained_step b r m s t ans earlier lower h (Goes s') is (k, u, way, rel, falls) =
        let (n, ex) = silent b r m s' t ans earlier lower h k u way rel falls in
        (suc n, subst (λ x. Explains R (take_step x (seen_after step1 n) ans) (seen_after step2 m t ans)) (sym is) ex)
    explained_step b r m s t [] earlier lower h (Asks e g) is (k, u, f, g', way, asks, agree, rel) = by_count (cases_lt k m)
      where
        by_count : ((k < m) ⊎ (m ≤ k)) → Explained m s t []
        by_count (inr le) = on_the_way k m s t u [] way le
        by_count (inl lt) =
            let m' : ℕ = m - suc k in
            let split : k + suc m' ≡ m = omega arith in
            let target = sym (seen_after-reaches step2 k (suc m') t u [] way ∙ ap (λ x. take_step x (seen_after step2 m') []) asks) ∙ ap (λ c. seen_after step2 c t []) split in
            (1, subst (λ x. Explains R (take_step x (seen_after step1 0) []) (seen_after step2 m t [])) (sym is) (subst (λ w. Explains {L = L} R (Waits (e ∷ [])) w) target (both_waiting (agree, tt))))
    explained_step b r m s t (a ∷ ans) earlier lower h (Asks e g) is (k, u, f, g', way, asks, agree, rel) = by_count (cases_lt k m)
      where
        by_count : ((k < m) ⊎ (m ≤ k)) → Explained m s t (a ∷ ans)
        by_count (inr le) = on_the_way k m s t u (a ∷ ans) way le
        by_count (inl lt) =
            let m' : ℕ = m - suc k in
            let split : k + suc m' ≡ m = omega arith in
            let target = sym (seen_after-reaches step2 k (suc m') t u (a ∷ ans) way ∙ ap (λ x. take_step x (seen_after step2 m') (a ∷ ans)) asks) ∙ ap (λ c. seen_after step2 c t (a ∷ ans)) split in
            let (n, ex) = earlier m' (g a) (g' a) ans (omega arith) (rel a) in
            (suc n, subst (λ x. Explains R (take_step x (seen_after step1 n) (a ∷ ans)) (seen_after step2 m t (a ∷ ans))) (sym is) (subst (λ w. Explains R (with_event e (seen_after step1 n (g a) ans)) w) target (explains_with_event e f agree ex)))
    explained_step b r m s t ans earlier lower h (Ends o) is (k, u, way, ends) = by_count (cases_lt k m)
      where
        by_count : ((k < m) ⊎ (m ≤ k)) → Explained m s t ans
        by_count (inr le) = on_the_way k m s t u ans way le
        by_count (inl lt) =
            let m' : ℕ = m - suc k in
            let split : k + suc m' ≡ m = omega arith in
            let target = sym (seen_after-reaches step2 k (suc m') t u ans way ∙ ap (λ x. take_step x (seen_after step2 m') ans) ends) ∙ ap (λ c. seen_after step2 c t ans) split in
            (1, subst (λ x. Explains R (take_step x (seen_after step1 0) ans) (seen_after step2 m t ans)) (sym is) (subst (λ w. Explains {L = L} R (Over [] o) w) target (both_over tt)))
    explained_step b r m s t ans earlier lower h (Leaves x) is _ =
        (1, subst (λ y. Explains R (take_step y (seen_after step1 0) ans) (seen_after step2 m t ans)) (sym is) (left_before tt))

    lower_ranks : (b : ℕ) → Earlier b → (r : ℕ) → Lower b r
    lower_ranks b earlier zero m s t ans h rel lt = absurd (omega arith)
    lower_ranks b earlier (suc r) m s t ans h rel lt =
        explained_step b (rank s t rel) m s t ans earlier (λ m2 s2 t2 ans2 h2 rel2 lt2. lower_ranks b earlier r m2 s2 t2 ans2 h2 rel2 (omega arith)) h (step1 s) refl (sim.matched s t rel)

    explained_below : (b : ℕ) → Earlier b
    explained_below zero m s t ans h rel = absurd (omega arith)
    explained_below (suc b) m s t ans h rel =
        lower_ranks b (explained_below b) (suc (rank s t rel)) m s t ans (omega arith) rel (omega arith)

    pub simulated : (s : S) (t : T) → Related s t → Same R (run step1 s) (run step2 t)
    simulated s t rel = record {
      follows = λ ans n. shown sim n s t ans rel;
      no_more = λ ans m. explained_below (suc m) m s t ans (omega arith) rel;
    }
