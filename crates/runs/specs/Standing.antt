-- The state that a run has come to after so many steps.
use Rattle.std.specs.Prelude.{ℕ, zero, suc, List, [], ◌∷◌, ◌++◌}
use Rattle.runs.specs.Run.{Step, Goes, Asks, Ends, Leaves, View, Running, Waits, Over, Left}

-- Where a run has come to, each with its events, oldest first: to a state, with the answers that are left; to an event
-- whose answer isn't there; to its ending; or to its exit.
pub data Standing (S E A O L : Type 0) : Type 0 where
  AtState : List E → S → List A → Standing S E A O L
  AtWait : List E → (A → S) → Standing S E A O L
  AtEnding : List E → O → Standing S E A O L
  AtExit : List E → L → Standing S E A O L

-- Where this step leads after these events. An answer that is left is taken at once, and counts as no step.
abbrev pub moved : {S E A O L : Type 0} → Step S E A O L → List E → List A → Standing S E A O L
moved (Goes state) events answers = AtState events state answers
moved (Asks event follow) events [] = AtWait (events ++ event ∷ []) follow
moved (Asks event follow) events (answer ∷ answers) = AtState (events ++ event ∷ []) (follow answer) answers
moved (Ends ending) events answers = AtEnding events ending
moved (Leaves exit) events answers = AtExit events exit

-- one step more, which a run that waits, is over or has left doesn't take
abbrev pub one_more : {S E A O L : Type 0} → (S → Step S E A O L) → Standing S E A O L → Standing S E A O L
one_more step (AtState events state answers) = moved (step state) events answers
one_more step (AtWait events follow) = AtWait events follow
one_more step (AtEnding events ending) = AtEnding events ending
one_more step (AtExit events exit) = AtExit events exit

-- so many steps more: n + 1 steps are n steps and one more
abbrev pub more : {S E A O L : Type 0} → (S → Step S E A O L) → ℕ → Standing S E A O L → Standing S E A O L
more step zero standing = standing
more step (suc n) standing = one_more step (more step n standing)

-- where the machine with this step has come to from a state
abbrev pub standing_after : {S E A O L : Type 0} → (S → Step S E A O L) → ℕ → S → List A → Standing S E A O L
standing_after step n state answers = more step n (AtState [] state answers)

-- what is seen of it
abbrev pub seen_of : {S E A O L : Type 0} → Standing S E A O L → View E O L
seen_of (AtState events state answers) = Running events
seen_of (AtWait events follow) = Waits events
seen_of (AtEnding events ending) = Over events ending
seen_of (AtExit events exit) = Left events exit
