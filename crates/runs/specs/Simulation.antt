-- What a proof that a target does what a source does has to show of single steps.
use Rattle.std.specs.Prelude.{◌≡◌, ℕ, zero, suc, ◌<◌}
use Rattle.runs.specs.Run.{Step, Goes, Asks, Ends, Leaves}

-- the machine goes from one state to another in so many silent steps
abbrev pub Reaches : {T F A O M : Type 0} → (T → Step T F A O M) → ℕ → T → T → Type 0
Reaches step zero t u = t ≡ u
Reaches {T = T} step (suc k) t u = (v : T) × (step t ≡ Goes v) × Reaches step k v u

-- a number for each pair of states that belong together
abbrev pub Rank : {S T : Type 0} → (S → T → Type 0) → Type 0
Rank {S = S} {T = T} Related = (s : S) (t : T) → Related s t → ℕ

-- A step of the source is matched from a state of the target: the target takes some silent steps, and then
-- does alike. Where it takes none at a silent step of the source, the rank of the pair falls below this number.
abbrev pub IsMatched : {S T E F A O L M : Type 0} → (T → Step T F A O M) → (Related : S → T → Type 0) → (E → F → Type 0) → Rank Related → ℕ → Step S E A O L → T → Type 0
IsMatched {T = T} step2 Related R rank r (Goes s) t =
    (k : ℕ) × (u : T) × Reaches step2 k t u × (related : Related s u) × (k ≡ 0 → rank s u related < r)
IsMatched {T = T} {F = F} {A = A} step2 Related R rank r (Asks e follow) t =
    (k : ℕ) × (u : T) × (f : F) × (follow2 : A → T) × Reaches step2 k t u × (step2 u ≡ Asks f follow2) × R e f × ((a : A) → Related (follow a) (follow2 a))
IsMatched {T = T} step2 Related R rank r (Ends ending) t = (k : ℕ) × (u : T) × Reaches step2 k t u × (step2 u ≡ Ends ending)
IsMatched step2 Related R rank r (Leaves exit) t = Unit {0}

-- Every step from related states is matched.
pub record Simulates {S T E F A O L M : Type 0} (step1 : S → Step S E A O L) (step2 : T → Step T F A O M) (Related : S → T → Type 0) (R : E → F → Type 0) (rank : Rank Related) : Type 0 where
  pub matched : (s : S) (t : T) (related : Related s t) → IsMatched step2 Related R rank (rank s t related) (step1 s) t

-- The target's step is the source's, with its state mapped by `f` and its event by `g`. Where the source leaves, the target
-- may do anything.
abbrev pub IsMapped : {S T E F A O L M : Type 0} → (S → T) → (E → F) → Step S E A O L → Step T F A O M → Type 0
IsMapped f g (Goes s) next = next ≡ Goes (f s)
IsMapped {T = T} {A = A} f g (Asks e follow) next = (follow2 : A → T) × (next ≡ Asks (g e) follow2) × ((a : A) → follow2 a ≡ f (follow a))
IsMapped f g (Ends ending) next = next ≡ Ends ending
IsMapped f g (Leaves exit) next = Unit {0}
