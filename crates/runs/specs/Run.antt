-- What a machine is, and what is seen of its run under a list of answers.
use Rattle.std.specs.Prelude.{ℕ, zero, suc, List, [], ◌∷◌}

-- What the next step of a machine does: it goes on to a state, it asks its host and goes on as the
-- answer says, it is over with an ending, or it leaves its profile at an exit.
pub data Step (S E A O L : Type 0) : Type 0 where
  Goes : S → Step S E A O L
  Asks : E → (A → S) → Step S E A O L
  Ends : O → Step S E A O L
  Leaves : L → Step S E A O L

-- What is seen of a run: its events, oldest first, and how it stands. It is still running, it waits for
-- an answer, it is over, or it has left its profile.
pub data View (E O L : Type 0) : Type 0 where
  Running : List E → View E O L
  Waits : List E → View E O L
  Over : List E → O → View E O L
  Left : List E → L → View E O L

-- the events of a view
abbrev pub trace : {E O L : Type 0} → View E O L → List E
trace (Running events) = events
trace (Waits events) = events
trace (Over events ending) = events
trace (Left events exit) = events

-- the view that has one earlier event
abbrev pub with_event : {E O L : Type 0} → E → View E O L → View E O L
with_event event (Running events) = Running (event ∷ events)
with_event event (Waits events) = Waits (event ∷ events)
with_event event (Over events ending) = Over (event ∷ events) ending
with_event event (Left events exit) = Left (event ∷ events) exit

-- What is seen after this step, if `next` is seen after the state that follows it. An answer that is left
-- is taken at once, and counts as no step.
abbrev pub take_step : {S E A O L : Type 0} → Step S E A O L → (S → List A → View E O L) → List A → View E O L
take_step (Goes state) next answers = next state answers
take_step (Asks event follow) next [] = Waits (event ∷ [])
take_step (Asks event follow) next (answer ∷ answers) = with_event event (next (follow answer) answers)
take_step (Ends ending) next answers = Over [] ending
take_step (Leaves exit) next answers = Left [] exit

-- what is seen after at most so many steps
abbrev pub seen_after : {S E A O L : Type 0} → (S → Step S E A O L) → ℕ → S → List A → View E O L
seen_after step zero state answers = Running []
seen_after step (suc n) state answers = take_step (step state) (seen_after step n) answers

-- what a machine does: what is seen of it under each list of answers, after each number of steps
abbrev pub Behaviour : Type 0 → Type 0 → Type 0 → Type 0 → Type 0
Behaviour E A O L = List A → ℕ → View E O L

-- what the machine with this step does from a state
abbrev pub run : {S E A O L : Type 0} → (S → Step S E A O L) → S → Behaviour E A O L
run step state answers n = seen_after step n state answers
