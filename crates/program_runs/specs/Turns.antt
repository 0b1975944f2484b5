-- What one step of a run does, with the talk that comes of it.
use Rattle.std.specs.Prelude.{◌≡◌, ℕ, ◌<◌, Bool, true, false, List, [], Option, Some, None, Result, Ok, Err, length}
use Rattle.runs.specs.Run.{Goes, Asks}
use Rattle.es_outside.specs.Counts.{CountRose}
use Rattle.es_outside.specs.NamedList.{name_at}
use Rattle.es_outside.specs.Sinks.{Adds, AddsFront}
use Rattle.es_outside.specs.declared.events.Event.{Event}
use Rattle.es_outside.specs.declared.events.Ending.{Ending}
use Rattle.es_outside.specs.declared.host.Reply.{Reply}
use Rattle.es_outside.specs.declared.host.HostAnswer.TheVariants as answer
use Rattle.run_lines.specs.Events.{event_line}
use Rattle.program_runs.specs.declared.end.Halt.{Halt}
use Rattle.program_runs.specs.declared.end.Halt.TheVariants.{HostFailed, WriteFailed, OutOfMemory}
use Rattle.program_runs.specs.Around.{Around, Hosted, Output, faults_at}
use Rattle.program_runs.specs.Positions.{Next, Position, At, next_of_ending}
use Rattle.program_runs.specs.Talks.{answer_of, asked}

-- the line of an event, of hosts with these names
abbrev pub line_of : List (List ℕ) → Event → List ℕ
line_of names event = event_line (name_at names event.host) event.args

abbrev pub HasAdded : List ℕ → Output → Output → Type 0
HasAdded bytes old new = Adds bytes old.bytes new.bytes

-- a fault of the output cut off what was to be added
abbrev pub HasFailed : List ℕ → Output → Output → Type 0
HasFailed bytes old new = AddsFront bytes old.bytes new.bytes × CountRose old.faults new.faults

-- A line was written; or a front of it, up to a fault; or nothing, for want of memory.
abbrev pub Writes : {T : Type 0} → List ℕ → Output → Output → Result T Halt → Type 0
Writes line old new (Ok done) = HasAdded line old new
Writes line old new (Err WriteFailed) = HasFailed line old new
Writes line old new (Err OutOfMemory) = HasAdded [] old new
Writes line old new (Err (HostFailed number)) = ⊥

-- The host of an event was asked: its reply was handed in; or it failed; or there was no memory, before it heard of the event or
-- after it replied.
pub data Replies {S : Type 0} (event : Event) (follow : Reply → S) (old new : Hosted) (after : Position S) : Result (Option Ending) Halt → Type 0 where
  replied : (reply : Reply) → new.talks ≡ asked event (answer_of reply) old.talks → after ≡ At (follow reply) → Replies event follow old new after (Ok None)
  failed : new.talks ≡ asked event answer.Failed old.talks → CountRose (faults_at old event.host) (faults_at new event.host) → Replies event follow old new after (Err (HostFailed event.host))
  unheard : new.talks ≡ old.talks → Replies event follow old new after (Err OutOfMemory)
  unhanded : (reply : Reply) → new.talks ≡ asked event (answer_of reply) old.talks → Replies event follow old new after (Err OutOfMemory)

-- The line of an event was written, and then its host asked, unless no more is to be asked; or there was no memory for the line, or
-- the output took no more of it.
pub data Tells {S : Type 0} (asks : Bool) (event : Event) (follow : Reply → S) (old new : Around) (after : Position S) : Result (Option Ending) Halt → Type 0 where
  told_and_asked : {r : Result (Option Ending) Halt} → asks ≡ true → event.host < length old.hosts.names → HasAdded (line_of old.hosts.names event) old.output new.output → Replies event follow old.hosts new.hosts after r → Tells asks event follow old new after r
  told_only : asks ≡ false → HasAdded (line_of old.hosts.names event) old.output new.output → new.hosts.talks ≡ old.hosts.talks → Tells asks event follow old new after (Ok None)
  untold : HasAdded [] old.output new.output → new.hosts.talks ≡ old.hosts.talks → Tells asks event follow old new after (Err OutOfMemory)
  cut_off : HasFailed (line_of old.hosts.names event) old.output new.output → new.hosts.talks ≡ old.hosts.talks → Tells asks event follow old new after (Err WriteFailed)

-- A step was done, with what comes of it: nothing more, a talk, or the ending; or there was no memory for it.
pub data Turns {S : Type 0} (asks : Bool) (next : Next S) (old new : Around) (after : Position S) : Result (Option Ending) Halt → Type 0 where
  went : (state : S) → next ≡ Goes state → after ≡ At state → HasAdded [] old.output new.output → new.hosts.talks ≡ old.hosts.talks → Turns asks next old new after (Ok None)
  told : {r : Result (Option Ending) Halt} (event : Event) (follow : Reply → S) → next ≡ Asks event follow → Tells asks event follow old new after r → Turns asks next old new after r
  over : (ending : Ending) → next ≡ next_of_ending ending → HasAdded [] old.output new.output → new.hosts.talks ≡ old.hosts.talks → Turns asks next old new after (Ok (Some ending))
  unstepped : HasAdded [] old.output new.output → new.hosts.talks ≡ old.hosts.talks → Turns asks next old new after (Err OutOfMemory)

-- A reply was handed in, or there was no memory for it.
pub data Resumes {S : Type 0} (reply : Reply) (follow : Reply → S) (after : Position S) : Result (Option Ending) Halt → Type 0 where
  resumed : after ≡ At (follow reply) → Resumes reply follow after (Ok None)
  unresumed : Resumes reply follow after (Err OutOfMemory)
