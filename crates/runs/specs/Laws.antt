-- The laws of machines, as clauses can state them: a relation is given by the values that stand for its pairs. Each relation
-- is so given by all its pairs.
use Rattle.std.specs.Prelude.{◌≡◌, ℕ, ◌≤◌, List, ◌++◌}
use Rattle.runs.specs.Run.{Step, View, Running, Behaviour, run}
use Rattle.runs.specs.Same.{Same, Agree}
use Rattle.runs.specs.Clauses.{Clauses}
use Rattle.runs.specs.Simulation.{Simulates, IsMapped}
use Rattle.runs.specs.Standing.{AtState, standing_after, seen_of}

-- the relation of which each value of `W` stands for a pair
abbrev pub spanned : {W E F : Type 0} → (W → E) → (W → F) → E → F → Type 0
spanned {W = W} left right e f = (w : W) × (left w ≡ e) × (right w ≡ f)

-- every machine does what it does itself
abbrev pub IsReflexive : Type 0 → Type 0 → Type 0 → Type 0 → Type 0
IsReflexive E A O L = (b : Behaviour E A O L) → Same (λ (x y : E). x ≡ y) b b

-- what does the same by one relation of events does so by each that holds of more pairs
abbrev pub IsMonotone : Type 0 → Type 0 → Type 0 → Type 0 → Type 0 → Type 0 → Type 0 → Type 0 → Type 0
IsMonotone V W E F A O L M =
    (l1 : V → E) (r1 : V → F) (l2 : W → E) (r2 : W → F) → ((v : V) → spanned l2 r2 (l1 v) (r1 v))
    → (a : Behaviour E A O L) (b : Behaviour F A O M) → Same (spanned l1 r1) a b → Same (spanned l2 r2) a b

-- What does the same as one that does the same does the same, by each relation that holds of an event and one to which
-- the first two lead from it.
abbrev pub IsTransitive : Type 0 → Type 0 → Type 0 → Type 0 → Type 0 → Type 0 → Type 0 → Type 0 → Type 0 → Type 0 → Type 0 → Type 0
IsTransitive U V W E F G A O L M N =
    (l1 : U → E) (r1 : U → F) (l2 : V → F) (r2 : V → G) (l3 : W → E) (r3 : W → G)
    → ((u : U) (v : V) → r1 u ≡ l2 v → spanned l3 r3 (l1 u) (r2 v))
    → (a : Behaviour E A O L) (b : Behaviour F A O M) (c : Behaviour G A O N)
    → Same (spanned l1 r1) a b → Same (spanned l2 r2) b c → Same (spanned l3 r3) a c

-- a simulation makes the target do what the source does
abbrev pub SimulationSuffices : Type 0 → Type 0 → Type 0 → Type 0 → Type 0 → Type 0 → Type 0 → Type 0 → Type 0 → Type 0 → Type 0
SimulationSuffices S T V W E F A O L M =
    (step1 : S → Step S E A O L) (step2 : T → Step T F A O M) (from : V → S) (to : V → T) (left : W → E) (right : W → F) (rank : V → ℕ)
    → Simulates step1 step2 (spanned from to) (spanned left right) (λ s t related. rank related.0)
    → (s : S) (t : T) → spanned from to s t → Same (spanned left right) (run step1 s) (run step2 t)

-- where the target's steps are the source's with states and events mapped, it does what the source does
abbrev pub MapSuffices : Type 0 → Type 0 → Type 0 → Type 0 → Type 0 → Type 0 → Type 0 → Type 0 → Type 0
MapSuffices S T E F A O L M =
    (step1 : S → Step S E A O L) (step2 : T → Step T F A O M) (f : S → T) (g : E → F)
    → ((s : S) → IsMapped f g (step1 s) (step2 (f s)))
    → (s : S) → Same (λ (x : E) (y : F). g x ≡ y) (run step1 s) (run step2 (f s))

-- of the runs of two machines, the clauses say what `Same` says
pub record SameIsClauses (S T W E F A O L M : Type 0) : Type 0 where
  pub clauses : (left : W → E) (right : W → F) (step1 : S → Step S E A O L) (step2 : T → Step T F A O M) (s : S) (t : T)
      → Same (spanned left right) (run step1 s) (run step2 t) → Clauses (Agree (spanned left right)) (run step1 s) (run step2 t)
  pub same : (left : W → E) (right : W → F) (step1 : S → Step S E A O L) (step2 : T → Step T F A O M) (s : S) (t : T)
      → Clauses (Agree (spanned left right)) (run step1 s) (run step2 t) → Same (spanned left right) (run step1 s) (run step2 t)

-- the run goes on
abbrev pub IsRunning : {E O L : Type 0} → View E O L → Type 0
IsRunning (Running events) = Unit {0}
IsRunning _ = ⊥

-- a run that waits, is over or has left its profile stays as it is
abbrev pub IsLasting : Type 0 → Type 0 → Type 0 → Type 0 → Type 0 → Type 0
IsLasting S E A O L =
    (step : S → Step S E A O L) (s : S) (answers : List A) (n m : ℕ)
    → n ≤ m → (IsRunning (run step s answers n) → ⊥) → run step s answers m ≡ run step s answers n

-- what is seen of a run after so many steps is what is seen of the state that it has come to
abbrev pub IsSeenWhereItStands : Type 0 → Type 0 → Type 0 → Type 0 → Type 0 → Type 0
IsSeenWhereItStands S E A O L =
    (step : S → Step S E A O L) (s : S) (answers : List A) (n : ℕ) → run step s answers n ≡ seen_of (standing_after step n s answers)

-- more answers stand behind those that are left, and change nothing until these are taken
abbrev pub MoreAnswersWait : Type 0 → Type 0 → Type 0 → Type 0 → Type 0 → Type 0
MoreAnswersWait S E A O L =
    (step : S → Step S E A O L) (s t : S) (answers left more : List A) (n : ℕ) (events : List E)
    → standing_after step n s answers ≡ AtState events t left → standing_after step n s (answers ++ more) ≡ AtState events t (left ++ more)
