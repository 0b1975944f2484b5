-- What is seen of a run whose hosts all answer undefined.
use Rattle.std.specs.Prelude.{◌≡◌, ℕ, List, [], ◌∷◌, ◌++◌, map, Option, None, Some}
use Rattle.runs.specs.Run.{Goes, Asks, trace}
use Rattle.shared_meaning.specs.Ending.{ProgramBehaviour}
use Rattle.es_outside.specs.declared.events.Ending.{Ending}
use Rattle.es_outside.specs.declared.events.Event.{Event}
use Rattle.es_outside.specs.declared.host.Reply.{Reply}
use Rattle.es_outside.specs.declared.host.Reply.TheVariants.{Give}
use Rattle.es_outside.specs.declared.primitive.Primitive.TheVariants.{Undefined}
use Rattle.program_runs.specs.Outcomes.{ProgramView, ending_of}
use Rattle.program_runs.specs.Positions.{At, Next, Position, next_of_ending}

-- an answer for each event
abbrev pub answers_to : List Event → List Reply
answers_to events = map (λ event. Give Undefined) events

-- These events are seen after so many steps under the answers to them, and this ending, if the run ended by then.
pub record IsAnswered (does : ProgramBehaviour) (steps : ℕ) (events : List Event) (over : Option Ending) : Type 0 where
  pub view : ProgramView
  pub seen : does (answers_to events) steps ≡ view
  pub events_are : trace view ≡ events
  pub over_is : ending_of view ≡ over

-- A step was done, and its event, if it has one, was answered.
pub data Turns {S : Type 0} (next : Next S) (old new : List Event) (after : Position S) : Option Ending → Type 0 where
  went : (state : S) → next ≡ Goes state → after ≡ At state → new ≡ old → Turns next old new after None
  asked : (event : Event) (follow : Reply → S) → next ≡ Asks event follow → after ≡ At (follow (Give Undefined)) → new ≡ old ++ event ∷ [] → Turns next old new after None
  over : (ending : Ending) → next ≡ next_of_ending ending → new ≡ old → Turns next old new after (Some ending)
