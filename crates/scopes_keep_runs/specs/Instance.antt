-- What is known of a core of its names, and where its code stands with what is round it.
use Rattle.std.specs.Prelude.{◌≡◌, true, ◌∷◌, None, Some, slice_get, ℕ}
use Rattle.core_ast.specs.declared.parts.Var.{Var}
use Rattle.core_ast.specs.declared.whole.Core.{Core}
use Rattle.core_meaning.specs.Modules.{numbers_from}
use Rattle.core_meaning.specs.State.{Environment}
use Rattle.cells_keep_runs.specs.Found.{Bound, first_at}
use Rattle.cells_keep_runs.specs.Kept.{kept_of}
use Rattle.cells_keep_runs.specs.MayBeFlattened.{whole_of}
use Rattle.cells_keep_runs.specs.Memory.{Seat, Seats, is_scoped}
use Rattle.cells_keep_runs.specs.Standings.{Known, LeadsTo}

abbrev pub known_of : Core → Known
known_of core = record { whole = whole_of core; kept = kept_of core; declarer = (whole_of core).declarer }

-- the environment along which the code of modules runs
abbrev pub ends_of : Core → Environment
ends_of core = numbers_from 0 core.parts

-- From an environment one goes back to another in the same activation, further out in which the scope's names are bound nowhere.
abbrev pub LeadsOn : Known → Seats → Bound → Environment → Environment → Type 0
LeadsOn k seats bound e o =
    LeadsTo k seats e o
    × ((n : ℕ) (here : Seat) (x : Var) → e ≡ n ∷ o → slice_get seats n ≡ Some here → is_scoped here x ≡ true → first_at bound o x ≡ None)
