-- A lawful core whose code fits does behind the flattening of scopes what it did before, if both machines find the names wherever the two runs come
-- to, and what makes a record may make it.
use Rattle.std.specs.Prelude.{◌≡◌, Bool}
use Rattle.runs.specs.Same.{Same}
use Rattle.core_ast.specs.Lawful.{IsLawful}
use Rattle.core_ast.specs.declared.parts.Var.{Var}
use Rattle.core_ast.specs.declared.whole.Core.{Core}
use Rattle.core_meaning.specs.Modules.{runc}
use Rattle.pass_rules.specs.Scopes.{without_scopes}
use Rattle.cells_keep_runs.specs.Alike.{Config}
use Rattle.cells_keep_runs.specs.Fitting.{IsFitting, Naming, fit_standing}
use Rattle.cells_keep_runs.specs.Floors.{Everywhere}
use Rattle.cells_keep_runs.specs.Owed.{ControlFound, ReadyOrLeaves}
use Rattle.cells_keep_runs.specs.Kept.{IsReached, NoneKept, kept_of}
use Rattle.cells_keep_runs.specs.Memory.{Seats}
use Rattle.cells_keep_runs.specs.Started.{owners_of}

-- the shared names of the core, and those that aren't assigned
abbrev pub naming : Core → (Var → Bool) → Naming
naming core fixed = record { owners = owners_of core; fixed = fixed }

abbrev pub AllReadyOrLeave : Core → Type 0
AllReadyOrLeave core = (seats : Seats) (s t : Config) → IsReached core seats s t → ReadyOrLeaves core (kept_of core) (owners_of core) seats s

abbrev pub AllFound : Core → Type 0
AllFound core = (seats : Seats) (s t : Config) → IsReached core seats s t → ControlFound (kept_of core) (owners_of core) seats s.state s.control

-- The code of a core that fits does so wherever its run comes to.
abbrev pub CodeGoesOnToFit : Type 0
CodeGoesOnToFit = (core : Core) (fixed : Var → Bool) (seats : Seats) (s t : Config) → IsLawful core → NoneKept core → IsFitting core (naming core fixed)
    → IsReached core seats s t → Everywhere (fit_standing core (naming core fixed)) s

-- The events are the same, and so is the ending.
abbrev pub RunsAreKeptWhereFound : Type 0
RunsAreKeptWhereFound = (core : Core) (fixed : Var → Bool) → IsLawful core → NoneKept core → IsFitting core (naming core fixed) → AllFound core
    → Same (λ e f. e ≡ f) (runc core) (runc (without_scopes core))
