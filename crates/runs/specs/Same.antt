-- When one machine does what another does.
use Rattle.std.specs.Prelude.{ℕ, List, [], ◌∷◌}
use Rattle.runs.specs.Run.{View, Running, Waits, Over, Left, trace, Behaviour}

-- two lists of events are equally long, and agree at each position
abbrev pub Agree : {E F : Type 0} → (E → F → Type 0) → List E → List F → Type 0
Agree R [] [] = Unit {0}
Agree R [] (f ∷ fs) = ⊥
Agree R (e ∷ es) [] = ⊥
Agree R (e ∷ es) (f ∷ fs) = R e f × Agree R es fs

-- the first list agrees with a front of the second
abbrev pub IsFront : {E F : Type 0} → (E → F → Type 0) → List E → List F → Type 0
IsFront R [] fs = Unit {0}
IsFront R (e ∷ es) [] = ⊥
IsFront R (e ∷ es) (f ∷ fs) = R e f × IsFront R es fs

-- a relation from the other side
abbrev pub converse : {E F : Type 0} → (E → F → Type 0) → F → E → Type 0
converse R f e = R e f

-- What the source shows, the target shows: the same events, and it stands alike. A source that has left
-- its profile claims nothing.
pub data Shows {E F O L M : Type 0} (R : E → F → Type 0) : View E O L → View F O M → Type 0 where
  shown_running : {es : List E} {fs : List F} → Agree R es fs → Shows R (Running es) (Running fs)
  shown_waiting : {es : List E} {fs : List F} → Agree R es fs → Shows R (Waits es) (Waits fs)
  shown_over : {es : List E} {fs : List F} {ending : O} → Agree R es fs → Shows R (Over es ending) (Over fs ending)
  nothing_shown : {es : List E} {exit : L} {target : View F O M} → Shows R (Left es exit) target

-- What the target shows is explained by what the source shows: the target is running and its events are a
-- front of the source's; or both stand alike; or the source has left its profile before.
pub data Explains {E F O L M : Type 0} (R : E → F → Type 0) : View E O L → View F O M → Type 0 where
  only_part : {source : View E O L} {fs : List F} → IsFront (converse R) fs (trace source) → Explains R source (Running fs)
  both_waiting : {es : List E} {fs : List F} → Agree R es fs → Explains R (Waits es) (Waits fs)
  both_over : {es : List E} {fs : List F} {ending : O} → Agree R es fs → Explains R (Over es ending) (Over fs ending)
  left_before : {es : List E} {exit : L} {target : View F O M} → IsFront R es (trace target) → Explains R (Left es exit) target

-- The target does what the source does, for every list of answers and with events that agree by `R`, until
-- the source leaves its profile. Each count of steps of the source is shown by some count of the target, and
-- each count of the target is explained by some count of the source.
pub record Same {E F A O L M : Type 0} (R : E → F → Type 0) (source : Behaviour E A O L) (target : Behaviour F A O M) : Type 0 where
  pub follows : (answers : List A) (n : ℕ) → (m : ℕ) × Shows R (source answers n) (target answers m)
  pub no_more : (answers : List A) (m : ℕ) → (n : ℕ) × Explains R (source answers n) (target answers m)

-- two relations of events, one after the other
abbrev pub composed : {E F G : Type 0} → (E → F → Type 0) → (F → G → Type 0) → E → G → Type 0
composed {F = F} R S e g = (f : F) × R e f × S f g
