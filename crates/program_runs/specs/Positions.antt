-- Where the run of a program stands, and what the answer of a step says of the step that the definition has there.
use Rattle.std.specs.Prelude.{◌≡◌}
use Rattle.runs.specs.Run.{Step, Goes, Asks, Ends, Leaves}
use Rattle.shared_meaning.specs.Ending as end
use Rattle.shared_meaning.specs.Ending.{Finish, Exit}
use Rattle.es_outside.specs.declared.events.Event.{Event}
use Rattle.es_outside.specs.declared.events.Ending.{Ending}
use Rattle.es_outside.specs.declared.events.Ending.TheVariants.{Ended, Threw, Left}
use Rattle.es_outside.specs.declared.host.Reply.{Reply}
use Rattle.es_outside.specs.declared.events.Step.{Step as Answer}
use Rattle.es_outside.specs.declared.events.Step.TheVariants as answer

-- what a machine of programs does next
abbrev pub Next : Type 0 → Type 0
Next S = Step S Event Reply Finish Exit

-- A run stands at a state, awaits the reply to the event that it asked for, or is over.
pub data Position (S : Type 0) : Type 0 where
  At : S → Position S
  Awaits : (Reply → S) → Position S
  Over : Position S

abbrev pub IsAt : {S : Type 0} → Position S → Type 0
IsAt (At state) = Unit {0}
IsAt _ = ⊥

abbrev pub IsAwaiting : {S : Type 0} → Position S → Type 0
IsAwaiting (Awaits follow) = Unit {0}
IsAwaiting _ = ⊥

-- an ending as machines have it
abbrev pub next_of_ending : {S : Type 0} → Ending → Next S
next_of_ending Ended = Ends end.Ended
next_of_ending (Threw seen) = Ends (end.Threw seen)
next_of_ending (Left exit site) = Leaves (record { number = exit; site = site })

-- This answer and this position come of what the machine does next. Want of memory says nothing.
abbrev pub Steps : {S : Type 0} → Answer → Position S → Next S → Type 0
Steps answer.Running (At state) next = next ≡ Goes state
Steps (answer.Asks event) (Awaits follow) next = next ≡ Asks event follow
Steps (answer.Is ending) after next = next ≡ next_of_ending ending
Steps answer.OutOfMemory after next = Unit {0}
Steps _ _ next = ⊥
