-- How a run ends, and where it leaves the profile.
use Rattle.std.specs.Prelude.{◌≡◌, ℕ}
use Rattle.es_outside.specs.declared.events.Seen.{Seen}
use Rattle.es_outside.specs.declared.events.Event.{Event}
use Rattle.es_outside.specs.declared.events.Site.{Site}
use Rattle.es_outside.specs.declared.host.Reply.{Reply}
use Rattle.runs.specs.Run.{Behaviour}
use Rattle.runs.specs.Same.{Same}

-- a run ends at the program's end, or by a throw that nothing catches
pub data Finish : Type 0 where
  Ended : Finish
  Threw : Seen → Finish

-- an exit of the profile, by its number, and the place of the step that stands there
pub record Exit : Type 0 where
  pub number : ℕ
  pub site : Site

-- what a program does: its events, the answers to them, how it ends and where it leaves
abbrev pub ProgramBehaviour : Type 0
ProgramBehaviour = Behaviour Event Reply Finish Exit

-- two events call the same host with the same arguments
abbrev pub SameCall : Event → Event → Type 0
SameCall a b = (a.host ≡ b.host) × (a.args ≡ b.args)

-- the target makes the source's host calls and ends as it does, until the source leaves the profile
abbrev pub DoesTheSame : ProgramBehaviour → ProgramBehaviour → Type 0
DoesTheSame source target = Same SameCall source target
