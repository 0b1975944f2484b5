-- What is asked of a core before the passes, so that its script may be printed behind them (emission_laws).
use Rattle.std.specs.Prelude.{ℕ}
use Rattle.core_ast.specs.declared.whole.Core.{Core}
use Rattle.core_ast.specs.Lawful.{IsLawfulFor}
use Rattle.emission_laws.specs.Writable.{IsWritableWith}
use Rattle.lawful_passes.specs.StatesBefore.{StatesWillBeFew}
use Rattle.lawful_passes.specs.Told.{LabelsDiffer}
use Rattle.pass_rules.specs.Scopes.{without_scopes}
use Rattle.pass_rules.specs.pass_laws.Operations.{AllSuch, no_content}
use Rattle.pass_rules.specs.state_rules.States.{with_machines}
use Rattle.pass_rules.specs.yield_rules.Yields.{with_yields_flat}
use Rattle.writable_passes.specs.Rooms.{LabelsHaveRoom, NamesFit}

-- It is lawful, uses no cell, its labels differ and have room, few of its nodes become states, and it can be written.
pub record IsReady (hosts : ℕ) (core : Core) : Type 0 where
  pub lawful : IsLawfulFor hosts core
  pub without_cells : AllSuch no_content core
  pub labels : LabelsDiffer core
  pub states : StatesWillBeFew core
  pub writable : IsWritableWith hosts core
  pub room : LabelsHaveRoom core

-- If the names fit that there are behind the passes, the core is lawful then and can be written.
abbrev pub ReadyMayBeEmitted : Type 0
ReadyMayBeEmitted = (hosts : ℕ) (core : Core)
    → let after = with_machines (with_yields_flat (without_scopes core)) in
    IsReady hosts core → NamesFit hosts after → IsLawfulFor hosts after × IsWritableWith hosts after
