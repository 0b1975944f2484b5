-- What is left of a run whose lines are written: what was said to the output and to the hosts, by how it ends.
use Rattle.std.specs.Prelude.{◌≡◌, ℕ, suc, ◌<◌, ◌≤◌, List, [], ◌∷◌, ◌++◌, Option, Some, None, Result, Ok, Err, length, take}
use Rattle.std.specs.List.{flat_map}
use Rattle.runs.specs.Run.{View, Running, Waits, Over, Left, run, trace}
use Rattle.shared_meaning.specs.Ending as end
use Rattle.shared_meaning.specs.Ending.{Finish, Exit, ProgramBehaviour}
use Rattle.es_text.specs.declared.Place.{Place}
use Rattle.es_outside.specs.Counts.{CountRose}
use Rattle.es_outside.specs.Sinks.{Adds}
use Rattle.es_outside.specs.declared.events.Event.{Event}
use Rattle.es_outside.specs.declared.events.Site.{Site}
use Rattle.es_outside.specs.declared.events.Ending.{Ending}
use Rattle.es_outside.specs.declared.events.Ending.TheVariants as ending
use Rattle.es_outside.specs.declared.host.HostAnswer.TheVariants as answer
use Rattle.run_lines.specs.Endings.{ended_line, left_line, still_line, threw_line}
use Rattle.program_runs.specs.declared.end.RunEnd.{RunEnd}
use Rattle.program_runs.specs.declared.end.RunEnd.TheVariants as run_end
use Rattle.program_runs.specs.declared.end.Halt.{Halt}
use Rattle.program_runs.specs.declared.end.Halt.TheVariants.{HostFailed, WriteFailed, OutOfMemory}
use Rattle.program_runs.specs.Around.{Around, Hosted, Output, faults_at}
use Rattle.program_runs.specs.Positions.{Next}
use Rattle.program_runs.specs.Talks.{Turn, asked, events_of, replies_of, talked}
use Rattle.program_runs.specs.Turns.{HasAdded, HasFailed, line_of}

-- the lines of events, in order
abbrev pub lines_of : List (List ℕ) → List Event → List ℕ
lines_of names events = flat_map (line_of names) events

abbrev pub ProgramView : Type 0
ProgramView = View Event Finish Exit

-- what this machine does from a state
abbrev pub behaviour : {S : Type 0} → (S → Next S) → S → ProgramBehaviour
behaviour machine state = run machine state

-- how a run ended or left its profile, if it did
abbrev pub ending_of : ProgramView → Option Ending
ending_of (Running events) = None
ending_of (Waits events) = None
ending_of (Over events end.Ended) = Some ending.Ended
ending_of (Over events (end.Threw seen)) = Some (ending.Threw seen)
ending_of (Left events exit) = Some (ending.Left exit.number exit.site)

-- where sites stand: the path of their file, and their place there
pub record Sites : Type 0 where
  pub path : Site → List ℕ
  pub place : Site → Place

-- the last line of a run that is stopped after so many steps
abbrev pub last_line : Sites → ℕ → Option Ending → List ℕ
last_line sites steps None = still_line steps
last_line sites steps (Some ending.Ended) = ended_line
last_line sites steps (Some (ending.Threw seen)) = threw_line seen
last_line sites steps (Some (ending.Left exit site)) = left_line exit (sites.path site) (sites.place site)

abbrev pub end_of : Option Ending → RunEnd
end_of None = run_end.StepsSpent
end_of (Some ending.Ended) = run_end.Ended
end_of (Some (ending.Threw seen)) = run_end.Threw
end_of (Some (ending.Left exit site)) = run_end.Left

-- What is seen of the run after so many steps under the replies of these turns. Each turn has one of its events, in order; and if one
-- event more waits for its reply, it came with the last step.
pub data IsSeen (does : ProgramBehaviour) (steps : ℕ) (turns : List Turn) : ProgramView → Type 0 where
  answered : {view : ProgramView} → does (replies_of turns) steps ≡ view → trace view ≡ events_of turns → IsSeen does steps turns view
  waits : (event : Event) → does (replies_of turns) steps ≡ Waits (events_of turns ++ event ∷ []) → ((n : ℕ) → suc n ≡ steps → does (replies_of turns) n ≡ Running (events_of turns)) → IsSeen does steps turns (Waits (events_of turns ++ event ∷ []))

-- What is seen of the run after so many steps under the replies that the hosts gave, each of which heard its own events, but one
-- that waits.
pub record IsTold (does : ProgramBehaviour) (steps : ℕ) (old new : Hosted) (view : ProgramView) : Type 0 where
  pub turns : List Turn
  pub seen : IsSeen does steps turns view
  pub talks : new.talks ≡ talked turns old.talks

-- The lines of the events and this line.
abbrev pub HasWritten : ProgramView → List ℕ → Around → Around → Type 0
HasWritten view line old new = HasAdded (lines_of old.hosts.names (trace view) ++ line) old.output new.output

-- A fault of the output cut off the second of these texts, of which a front was added behind the first.
abbrev pub HasCut : List ℕ → List ℕ → Output → Output → Type 0
HasCut whole cut old new =
    (count : ℕ) × (count < length cut) × HasAdded (whole ++ take count cut) old new × CountRose old.faults new.faults

-- The run was stopped before its end, within these steps: the host of an event failed; or the output took no more of an event's
-- line; or there was no memory. The lines of the events before are written, and their hosts were asked.
pub data IsHalted (does : ProgramBehaviour) (steps : ℕ) (old new : Around) : RunEnd → Type 0 where
  host_failed : (turns : List Turn) (event : Event) (n : ℕ) → n < steps → IsSeen does n turns (Waits (events_of turns ++ event ∷ [])) → new.hosts.talks ≡ asked event answer.Failed (talked turns old.hosts.talks) → HasAdded (lines_of old.hosts.names (events_of turns ++ event ∷ [])) old.output new.output → event.host < length old.hosts.names → CountRose (faults_at old.hosts event.host) (faults_at new.hosts event.host) → IsHalted does steps old new (run_end.HostFailed event.host)
  event_cut : (turns : List Turn) (event : Event) (n : ℕ) → n ≤ steps → IsSeen does n turns (Waits (events_of turns ++ event ∷ [])) → new.hosts.talks ≡ talked turns old.hosts.talks → HasCut (lines_of old.hosts.names (events_of turns)) (line_of old.hosts.names event) old.output new.output → IsHalted does steps old new run_end.WriteFailed
  no_memory : (view : ProgramView) (n : ℕ) → n ≤ steps → IsTold does n old.hosts new.hosts view → HasAdded (lines_of old.hosts.names (trace view)) old.output new.output → IsHalted does steps old new run_end.OutOfMemory

-- The run was stopped after these steps, came to its end or left its profile within them, and its last line is written; or the output
-- took no more of this line; or it was stopped before.
pub data IsOutcome (does : ProgramBehaviour) (steps : ℕ) (sites : Sites) (old new : Around) (e : RunEnd) : Type 0 where
  over : (view : ProgramView) → IsTold does steps old.hosts new.hosts view → HasWritten view (last_line sites steps (ending_of view)) old new → e ≡ end_of (ending_of view) → IsOutcome does steps sites old new e
  last_cut : (view : ProgramView) → IsTold does steps old.hosts new.hosts view → HasCut (lines_of old.hosts.names (trace view)) (last_line sites steps (ending_of view)) old.output new.output → e ≡ run_end.WriteFailed → IsOutcome does steps sites old new e
  halted : IsHalted does steps old new e → IsOutcome does steps sites old new e

-- ---- the parts

abbrev pub end_of_halt : Halt → RunEnd
end_of_halt (HostFailed host) = run_end.HostFailed host
end_of_halt WriteFailed = run_end.WriteFailed
end_of_halt OutOfMemory = run_end.OutOfMemory

-- Before the last line: the run was stopped after these steps, or ended so within them; or it was stopped before.
pub data Runs (does : ProgramBehaviour) (steps : ℕ) (old new : Around) : Result (Option Ending) Halt → Type 0 where
  stopped : {over : Option Ending} (view : ProgramView) → IsTold does steps old.hosts new.hosts view → HasAdded (lines_of old.hosts.names (trace view)) old.output new.output → ending_of view ≡ over → Runs does steps old new (Ok over)
  stopped_before : {halt : Halt} → IsHalted does steps old new (end_of_halt halt) → Runs does steps old new (Err halt)

-- The last line is written, and so this is how the run ends; or a front of it, up to a fault; or nothing, for want of memory.
pub data Finishes (line : List ℕ) (e : RunEnd) (old new : Output) : RunEnd → Type 0 where
  finished : HasAdded line old new → Finishes line e old new e
  cut_off : HasFailed line old new → Finishes line e old new run_end.WriteFailed
  unsaid : HasAdded [] old new → Finishes line e old new run_end.OutOfMemory
