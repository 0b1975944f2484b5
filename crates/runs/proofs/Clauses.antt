-- Of the runs of two machines, the three clauses say what `Same` says.
use Rattle.std.proofs.Common.{◌≡◌, ℕ, suc, ◌≤◌, List, [], ◌∷◌, ◌++◌, length, refl, sym, ◌∙◌, ap, subst, ◌⊎◌, inl, inr, arith, append-nil}
use Rattle.runs.specs.Run.{Step, View, Running, Waits, Over, Left, trace, Behaviour, run}
use Rattle.runs.specs.Same.{Agree, IsFront, converse, Shows, shown_running, shown_waiting, shown_over, nothing_shown, Explains, only_part, both_waiting, both_over, left_before, Same}
use Rattle.runs.specs.Clauses.{IsPrefix, HasLeft, HasStopped, StandsAlike, EndsAlike, Clauses}
use Rattle.runs.specs.Laws.{IsRunning}
use Rattle.runs.proofs.Machines.{IsCounted, all_there, stands_still, running_before, counted}

-- a run that has left has stopped
left_has_stopped : {E O L : Type 0} (v : View E O L) → HasLeft v → HasStopped v
left_has_stopped (Running es) left = absurd left
left_has_stopped (Waits es) left = absurd left
left_has_stopped (Over es o) left = tt
left_has_stopped (Left es x) left = tt

-- a source that has come to an ending hasn't left
ended_stays : {E F O L M : Type 0} (v : View E O L) (w : View F O M) → EndsAlike v w → HasLeft v → ⊥
ended_stays (Running es) w alike left = left
ended_stays (Waits es) w alike left = left
ended_stays (Over es o1) w alike left = left
ended_stays (Left es x) w alike left = alike

module _ {E F : Type 0} (R : E → F → Type 0) where
  agree_lengths : (es : List E) (fs : List F) → Agree R es fs → length es ≡ length fs
  agree_lengths [] [] a = refl
  agree_lengths [] (f ∷ fs) a = absurd a
  agree_lengths (e ∷ es) [] a = absurd a
  agree_lengths (e ∷ es) (f ∷ fs) a = ap (λ n. suc n) (agree_lengths es fs a.1)

  -- a front is a prefix
  prefix_of_front : (es : List E) (fs : List F) → IsFront R es fs → IsPrefix (Agree R) es fs
  prefix_of_front [] fs a = record { prefix = []; rest = fs; whole = refl; related = tt }
  prefix_of_front (e ∷ es) [] a = absurd a
  prefix_of_front (e ∷ es) (f ∷ fs) a =
      let p = prefix_of_front es fs a.1 in
      record { prefix = f ∷ p.prefix; rest = p.rest; whole = ap (λ t. f ∷ t) p.whole; related = (a.0, p.related) }

  prefix_of_front_back : (fs : List F) (es : List E) → IsFront (converse R) fs es → IsPrefix (converse (Agree R)) fs es
  prefix_of_front_back [] es a = record { prefix = []; rest = es; whole = refl; related = tt }
  prefix_of_front_back (f ∷ fs) [] a = absurd a
  prefix_of_front_back (f ∷ fs) (e ∷ es) a =
      let p = prefix_of_front_back fs es a.1 in
      record { prefix = e ∷ p.prefix; rest = p.rest; whole = ap (λ t. e ∷ t) p.whole; related = (a.0, p.related) }

  agree_prefix : (es : List E) (fs : List F) → Agree R es fs → IsPrefix (Agree R) es fs
  agree_prefix es fs a = record { prefix = fs; rest = []; whole = sym (append-nil fs); related = a }

  agree_prefix_back : (fs : List F) (es : List E) → Agree R es fs → IsPrefix (converse (Agree R)) fs es
  agree_prefix_back fs es a = record { prefix = es; rest = []; whole = sym (append-nil es); related = a }

  -- a prefix is a front
  front_before : (es : List E) (prefix rest : List F) → Agree R es prefix → IsFront R es (prefix ++ rest)
  front_before [] prefix rest a = tt
  front_before (e ∷ es) [] rest a = absurd a
  front_before (e ∷ es) (f ∷ prefix) rest a = (a.0, front_before es prefix rest a.1)

  front_of_prefix : (es : List E) (fs : List F) → IsPrefix (Agree R) es fs → IsFront R es fs
  front_of_prefix es fs p = subst (λ t. IsFront R es t) (sym p.whole) (front_before es p.prefix p.rest p.related)

  front_before_back : (fs : List F) (prefix rest : List E) → Agree R prefix fs → IsFront (converse R) fs (prefix ++ rest)
  front_before_back [] prefix rest a = tt
  front_before_back (f ∷ fs) [] rest a = absurd a
  front_before_back (f ∷ fs) (e ∷ prefix) rest a = (a.0, front_before_back fs prefix rest a.1)

  front_of_prefix_back : (fs : List F) (es : List E) → IsPrefix (converse (Agree R)) fs es → IsFront (converse R) fs es
  front_of_prefix_back fs es p = subst (λ t. IsFront (converse R) fs t) (sym p.whole) (front_before_back fs p.prefix p.rest p.related)

  -- what agrees with a front of a list is a front of it
  agree_then_front : (es : List E) (fs gs : List F) → Agree R es fs → IsFront (λ (x y : F). x ≡ y) fs gs → IsFront R es gs
  agree_then_front [] fs gs a b = tt
  agree_then_front (e ∷ es) [] gs a b = absurd a
  agree_then_front (e ∷ es) (f ∷ fs) [] a b = absurd b
  agree_then_front (e ∷ es) (f ∷ fs) (g ∷ gs) a b = (subst (λ x. R e x) b.0 a.0, agree_then_front es fs gs a.1 b.1)

  -- a front that is as long is all of it
  whole_front : (fs : List F) (es : List E) → IsFront (converse R) fs es → length es ≤ length fs → Agree R es fs
  whole_front [] [] a h = tt
  whole_front [] (e ∷ es) a h = absurd (omega (arith, h))
  whole_front (f ∷ fs) [] a h = absurd a
  whole_front (f ∷ fs) (e ∷ es) a h = (a.0, whole_front fs es a.1 (omega (arith, h)))

  front_back_lengths : (fs : List F) (es : List E) → IsFront (converse R) fs es → length fs ≤ length es
  front_back_lengths [] es a = omega arith
  front_back_lengths (f ∷ fs) [] a = absurd a
  front_back_lengths (f ∷ fs) (e ∷ es) a = let h = front_back_lengths fs es a.1 in omega (arith, h)

  module _ {O L M : Type 0} where
    kept_of : {v : View E O L} {w : View F O M} → Shows R v w → (HasLeft v → ⊥) → (HasLeft w → ⊥) × Agree R (trace v) (trace w) × StandsAlike v w
    kept_of (shown_running a) stays = (λ l. l, a, tt)
    kept_of (shown_waiting a) stays = (λ l. l, a, tt)
    kept_of (shown_over a) stays = (λ l. l, a, refl)
    kept_of nothing_shown stays = absurd (stays tt)

    no_more_of : {v : View E O L} {w : View F O M} → Explains R v w → IsPrefix (converse (Agree R)) (trace w) (trace v) ⊎ (HasLeft v × IsPrefix (Agree R) (trace v) (trace w))
    no_more_of (only_part {source = v} {fs = fs} a) = inl (prefix_of_front_back fs (trace v) a)
    no_more_of (both_waiting {es = es} {fs = fs} a) = inl (agree_prefix_back fs es a)
    no_more_of (both_over {es = es} {fs = fs} a) = inl (agree_prefix_back fs es a)
    no_more_of (left_before {es = es} {target = w} a) = inr (tt, prefix_of_front es (trace w) a)

    ended_of : {v : View E O L} {w : View F O M} → Explains R v w → HasStopped w → EndsAlike v w ⊎ HasLeft v
    ended_of (only_part a) stopped = absurd stopped
    ended_of (both_waiting a) stopped = absurd stopped
    ended_of (both_over a) stopped = inl refl
    ended_of (left_before a) stopped = inr tt

    pub clauses_of_same : {A : Type 0} (a : Behaviour E A O L) (b : Behaviour F A O M) → Same R a b → Clauses (Agree R) a b
    clauses_of_same a b same = record {
      kept = λ ans n stays. let (m, shows) = same.follows ans n in let (there, agree, alike) = kept_of shows stays in (m, there, agree, alike);
      no_more = λ ans m. let (n, explains) = same.no_more ans m in (n, no_more_of explains);
      ended = λ ans m stopped. let (n, explains) = same.no_more ans m in (n, ended_of explains stopped);
    }

    -- from what the clauses say of two views to what `Same` says of them
    waits_alike : (es : List E) (w : View F O M) → Agree R es (trace w) → StandsAlike {L = L} (Waits es) w → Shows {L = L} R (Waits es) w
    waits_alike es (Running fs) a alike = absurd alike
    waits_alike es (Waits fs) a alike = shown_waiting a
    waits_alike es (Over fs o) a alike = absurd alike
    waits_alike es (Left fs x) a alike = absurd alike

    over_alike : (es : List E) (o : O) (w : View F O M) → Agree R es (trace w) → StandsAlike {L = L} (Over es o) w → Shows {L = L} R (Over es o) w
    over_alike es o (Running fs) a alike = absurd alike
    over_alike es o (Waits fs) a alike = absurd alike
    over_alike es o (Over fs o2) a alike = subst (λ x. Shows {L = L} {M = M} R (Over es o) (Over fs x)) alike (shown_over a)
    over_alike es o (Left fs x) a alike = absurd alike

    left_alike : (v : View E O L) (w : View F O M) → HasLeft v → IsFront R (trace v) (trace w) → Explains R v w
    left_alike (Running es) w left a = absurd left
    left_alike (Waits es) w left a = absurd left
    left_alike (Over es o) w left a = absurd left
    left_alike (Left es x) w left a = left_before a

    ends_alike : (v : View E O L) (fs : List F) (o : O) → EndsAlike {M = M} v (Over fs o) → Agree R (trace v) fs → Explains {M = M} R v (Over fs o)
    ends_alike (Running es) fs o alike a = absurd alike
    ends_alike (Waits es) fs o alike a = absurd alike
    ends_alike (Over es o1) fs o alike a = subst (λ x. Explains {L = L} {M = M} R (Over es o1) (Over fs x)) alike (both_over a)
    ends_alike (Left es x) fs o alike a = absurd alike

    ends_not_left : (v : View E O L) (fs : List F) (x : M) → EndsAlike {O = O} v (Left fs x) → ⊥
    ends_not_left (Running es) fs x alike = alike
    ends_not_left (Waits es) fs x alike = alike
    ends_not_left (Over es o) fs x alike = alike
    ends_not_left (Left es y) fs x alike = alike

    -- a source that has come to an ending asks that the target doesn't go on
    over_stands_over : (v : View E O L) (fs : List F) (o : O) (w : View F O M) → EndsAlike {M = M} v (Over fs o) → StandsAlike v w → IsRunning w → ⊥
    over_stands_over (Running es) fs o w ends alike running = ends
    over_stands_over (Waits es) fs o w ends alike running = ends
    over_stands_over (Left es x) fs o w ends alike running = ends
    over_stands_over (Over es o1) fs o (Running gs) ends alike running = alike
    over_stands_over (Over es o1) fs o (Waits gs) ends alike running = running
    over_stands_over (Over es o1) fs o (Over gs o2) ends alike running = running
    over_stands_over (Over es o1) fs o (Left gs x) ends alike running = running

-- the same of machines, whose runs last
module _ {S T E F A O L M : Type 0} (R : E → F → Type 0) (step1 : S → Step S E A O L) (step2 : T → Step T F A O M) (s : S) (t : T) (c : Clauses (Agree R) (run step1 s) (run step2 t)) where
  -- what the first clause says where a view of the source is known
  abbrev IsKept : List A → View E O L → Type 0
  IsKept ans v = (m : ℕ) × (HasLeft (run step2 t ans m) → ⊥) × Agree R (trace v) (trace (run step2 t ans m)) × StandsAlike v (run step2 t ans m)

  kept_at : (ans : List A) (n : ℕ) (v : View E O L) → run step1 s ans n ≡ v → (HasLeft v → ⊥) → IsKept ans v
  kept_at ans n v is stays = subst (λ w. IsKept ans w) is (c.kept ans n (λ l. stays (subst (λ w. HasLeft w) is l)))

  -- where the source leaves, its events are a front of those of a target that doesn't go on
  left_front : (ans : List A) (n m : ℕ) → HasLeft (run step1 s ans n) → (IsRunning (run step2 t ans m) → ⊥) → IsFront R (trace (run step1 s ans n)) (trace (run step2 t ans m))
  left_front ans n m left over =
      let (k, is) = running_before step1 n s ans (left_has_stopped (run step1 s ans n) left) in
      let (j, stays, agree, alike) = kept_at ans k (Running (trace (run step1 s ans n))) is (λ l. l) in
      agree_then_front R (trace (run step1 s ans n)) (trace (run step2 t ans j)) (trace (run step2 t ans m)) agree (all_there step2 m j t ans over)

  -- the source goes on: so does the target at some count
  follow_running : (ans : List A) (n : ℕ) (es : List E) → run step1 s ans n ≡ Running es → (m : ℕ) → Agree R es (trace (run step2 t ans m)) → (HasLeft (run step2 t ans m) → ⊥) → (w : View F O M) → run step2 t ans m ≡ w → (k : ℕ) × Shows {L = L} R (Running es) (run step2 t ans k)
  follow_running ans n es is m agree stays (Running fs) at =
      (m, subst (λ w. Shows {L = L} R (Running es) w) (sym at) (shown_running (subst (λ w. Agree R es (trace w)) at agree)))
  follow_running ans n es is m agree stays (Waits fs) at =
      let few = subst (λ v. IsCounted v ans) is (counted step1 n s ans) in
      let many = subst (λ w. IsCounted w ans) at (counted step2 m t ans) in
      let as_long = agree_lengths R es fs (subst (λ w. Agree R es (trace w)) at agree) in
      absurd (omega (arith, few, many, as_long))
  follow_running ans n es is m agree stays (Over fs o) at =
      let (k, before) = running_before step2 m t ans (subst (λ w. HasStopped w) (sym at) tt) in
      (k, subst (λ w. Shows {L = L} R (Running es) w) (sym before) (shown_running agree))
  follow_running ans n es is m agree stays (Left fs x) at = absurd (stays (subst (λ w. HasLeft w) (sym at) tt))

  follow : (ans : List A) (n : ℕ) (v : View E O L) → run step1 s ans n ≡ v → (m : ℕ) × Shows R v (run step2 t ans m)
  follow ans n (Running es) is =
      let (m, stays, agree, alike) = kept_at ans n (Running es) is (λ l. l) in
      follow_running ans n es is m agree stays (run step2 t ans m) refl
  follow ans n (Waits es) is =
      let (m, stays, agree, alike) = kept_at ans n (Waits es) is (λ l. l) in
      (m, waits_alike R es (run step2 t ans m) agree alike)
  follow ans n (Over es o) is =
      let (m, stays, agree, alike) = kept_at ans n (Over es o) is (λ l. l) in
      (m, over_alike R es o (run step2 t ans m) agree alike)
  follow ans n (Left es x) is = (0, nothing_shown)

  abbrev IsExplained : List A → View F O M → Type 0
  IsExplained ans w = (n : ℕ) × Explains R (run step1 s ans n) w

  by_leaving : (ans : List A) (n m : ℕ) (w : View F O M) → run step2 t ans m ≡ w → (IsRunning w → ⊥) → HasLeft (run step1 s ans n) → IsExplained ans w
  by_leaving ans n m w at over left =
      let front = left_front ans n m left (λ r. over (subst (λ v. IsRunning v) at r)) in
      (n, left_alike R (run step1 s ans n) w left (subst (λ v. IsFront R (trace (run step1 s ans n)) (trace v)) at front))

  by_ending : (ans : List A) (n m : ℕ) (fs : List F) (o : O) → run step2 t ans m ≡ Over fs o → EndsAlike {M = M} (run step1 s ans n) (Over fs o) → IsExplained ans (Over fs o)
  by_ending ans n m fs o at ends =
      let (k, stays, agree, alike) = kept_at ans n (run step1 s ans n) refl (ended_stays {M = M} (run step1 s ans n) (Over fs o) ends) in
      let still = stands_still step2 k m t ans (over_stands_over R (run step1 s ans n) fs o (run step2 t ans k) ends alike) (λ r. subst (λ w. IsRunning w) at r) in
      (n, ends_alike R (run step1 s ans n) fs o ends (subst (λ w. Agree R (trace (run step1 s ans n)) (trace w)) (still ∙ at) agree))

  -- The target waits with these events, which are a front of the source's. Then the source waits with them too.
  by_waiting : (ans : List A) (n m : ℕ) (fs : List F) → run step2 t ans m ≡ Waits fs → (v : View E O L) → run step1 s ans n ≡ v → IsFront (converse R) fs (trace v) → IsExplained ans (Waits fs)
  by_waiting ans n m fs at (Running es) is front =
      let few = subst (λ v. IsCounted v ans) is (counted step1 n s ans) in
      let many = subst (λ w. IsCounted w ans) at (counted step2 m t ans) in
      let long = front_back_lengths R fs es front in
      absurd (omega (arith, few, many, long))
  by_waiting ans n m fs at (Over es o) is front =
      let few = subst (λ v. IsCounted v ans) is (counted step1 n s ans) in
      let many = subst (λ w. IsCounted w ans) at (counted step2 m t ans) in
      let long = front_back_lengths R fs es front in
      absurd (omega (arith, few, many, long))
  by_waiting ans n m fs at (Left es x) is front =
      by_leaving ans n m (Waits fs) at (λ r. r) (subst (λ v. HasLeft v) (sym is) tt)
  by_waiting ans n m fs at (Waits es) is front =
      let as_many = subst (λ v. IsCounted v ans) is (counted step1 n s ans) in
      let many = subst (λ w. IsCounted w ans) at (counted step2 m t ans) in
      (n, subst (λ v. Explains {M = M} R v (Waits fs)) (sym is) (both_waiting (whole_front R fs es front (omega (arith, as_many, many)))))

  explain : (ans : List A) (m : ℕ) (w : View F O M) → run step2 t ans m ≡ w → IsExplained ans w
  explain ans m (Running fs) at = by_clause (c.no_more ans m)
    where
      by_clause : ((n : ℕ) × (IsPrefix (converse (Agree R)) (trace (run step2 t ans m)) (trace (run step1 s ans n)) ⊎ (HasLeft (run step1 s ans n) × IsPrefix (Agree R) (trace (run step1 s ans n)) (trace (run step2 t ans m))))) → IsExplained ans (Running fs)
      by_clause (n, inl p) = (n, only_part (subst (λ w. IsFront (converse R) (trace w) (trace (run step1 s ans n))) at (front_of_prefix_back R (trace (run step2 t ans m)) (trace (run step1 s ans n)) p)))
      by_clause (n, inr (left, p)) = (n, left_alike R (run step1 s ans n) (Running fs) left (subst (λ w. IsFront R (trace (run step1 s ans n)) (trace w)) at (front_of_prefix R (trace (run step1 s ans n)) (trace (run step2 t ans m)) p)))
  explain ans m (Waits fs) at = by_clause (c.no_more ans m)
    where
      by_clause : ((n : ℕ) × (IsPrefix (converse (Agree R)) (trace (run step2 t ans m)) (trace (run step1 s ans n)) ⊎ (HasLeft (run step1 s ans n) × IsPrefix (Agree R) (trace (run step1 s ans n)) (trace (run step2 t ans m))))) → IsExplained ans (Waits fs)
      by_clause (n, inl p) = by_waiting ans n m fs at (run step1 s ans n) refl (subst (λ w. IsFront (converse R) (trace w) (trace (run step1 s ans n))) at (front_of_prefix_back R (trace (run step2 t ans m)) (trace (run step1 s ans n)) p))
      by_clause (n, inr (left, p)) = by_leaving ans n m (Waits fs) at (λ r. r) left
  explain ans m (Over fs o) at = by_clause (c.ended ans m (subst (λ w. HasStopped w) (sym at) tt))
    where
      by_clause : ((n : ℕ) × (EndsAlike (run step1 s ans n) (run step2 t ans m) ⊎ HasLeft (run step1 s ans n))) → IsExplained ans (Over fs o)
      by_clause (n, inl ends) = by_ending ans n m fs o at (subst (λ w. EndsAlike (run step1 s ans n) w) at ends)
      by_clause (n, inr left) = by_leaving ans n m (Over fs o) at (λ r. r) left
  explain ans m (Left fs x) at = by_clause (c.ended ans m (subst (λ w. HasStopped w) (sym at) tt))
    where
      by_clause : ((n : ℕ) × (EndsAlike (run step1 s ans n) (run step2 t ans m) ⊎ HasLeft (run step1 s ans n))) → IsExplained ans (Left fs x)
      by_clause (n, inl ends) = absurd (ends_not_left R (run step1 s ans n) fs x (subst (λ w. EndsAlike (run step1 s ans n) w) at ends))
      by_clause (n, inr left) = by_leaving ans n m (Left fs x) at (λ r. r) left

  pub same_of_clauses : Same R (run step1 s) (run step2 t)
  same_of_clauses = record {
    follows = λ ans n. follow ans n (run step1 s ans n) refl;
    no_more = λ ans m. explain ans m (run step2 t ans m) refl;
  }
