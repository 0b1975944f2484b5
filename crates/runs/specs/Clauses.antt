-- When one machine does what another does, said once more by three clauses on what has happened after some count of steps.
use Rattle.std.specs.Prelude.{◌≡◌, ℕ, List, ◌++◌, ◌⊎◌}
use Rattle.runs.specs.Run.{View, Waits, Over, Left, trace, Behaviour}
use Rattle.runs.specs.Same.{converse}

-- the first list is by `R` a prefix of the second, which may be the whole of it
pub record IsPrefix {E F : Type 0} (R : List E → List F → Type 0) (es : List E) (fs : List F) : Type 0 where
  pub prefix : List F
  pub rest : List F
  pub whole : fs ≡ prefix ++ rest
  pub related : R es prefix

-- the run has left its profile
abbrev pub HasLeft : {E O L : Type 0} → View E O L → Type 0
HasLeft (Left events exit) = Unit {0}
HasLeft _ = ⊥

-- the run has come to an ending, or has left its profile
abbrev pub HasStopped : {E O L : Type 0} → View E O L → Type 0
HasStopped (Over events ending) = Unit {0}
HasStopped (Left events exit) = Unit {0}
HasStopped _ = ⊥

-- if the source waits, or has come to an ending, the target does alike
abbrev pub StandsAlike : {E F O L M : Type 0} → View E O L → View F O M → Type 0
StandsAlike (Waits es) (Waits fs) = Unit {0}
StandsAlike (Waits es) _ = ⊥
StandsAlike (Over es ending) (Over fs other) = ending ≡ other
StandsAlike (Over es ending) _ = ⊥
StandsAlike _ _ = Unit {0}

-- both have come to the same ending
abbrev pub EndsAlike : {E F O L M : Type 0} → View E O L → View F O M → Type 0
EndsAlike (Over es ending) (Over fs other) = ending ≡ other
EndsAlike _ _ = ⊥

-- The target does what the source does, where `R` relates lists of events, for every list of answers.
-- kept: for each count at which the source hasn't left there is one at which the target hasn't left, the events are
-- related, and if the source waits or has come to an ending, the target does alike.
-- no_more: for each count the target's events are a prefix of the source's at some count, or the source leaves at some
-- count and its events there are a prefix of the target's.
-- ended: if the target has come to an ending or has left at some count, then the source has come to the same ending at some
-- count, or leaves at some count.
pub record Clauses {E F A O L M : Type 0} (R : List E → List F → Type 0) (source : Behaviour E A O L) (target : Behaviour F A O M) : Type 0 where
  pub kept : (answers : List A) (n : ℕ) → (HasLeft (source answers n) → ⊥)
      → (m : ℕ) × (HasLeft (target answers m) → ⊥) × R (trace (source answers n)) (trace (target answers m))
      × StandsAlike (source answers n) (target answers m)
  pub no_more : (answers : List A) (m : ℕ)
      → (n : ℕ) × (IsPrefix (converse R) (trace (target answers m)) (trace (source answers n))
      ⊎ (HasLeft (source answers n) × IsPrefix R (trace (source answers n)) (trace (target answers m))))
  pub ended : (answers : List A) (m : ℕ) → HasStopped (target answers m)
      → (n : ℕ) × (EndsAlike (source answers n) (target answers m) ⊎ HasLeft (source answers n))
