-- A core that can be written comes out of one.
use Rattle.std.specs.Prelude.{ℕ}
use Rattle.core_ast.specs.declared.whole.Core.{Core}
use Rattle.core_ast.specs.Lawful.{IsLawfulFor}
use Rattle.emission_laws.specs.Writable.{IsWritableWith}
use Rattle.lawful_passes.specs.Told.{LabelsDiffer}
use Rattle.pass_rules.specs.Scopes.{without_scopes}
use Rattle.pass_rules.specs.pass_laws.Operations.{AllSuch, no_content}
use Rattle.pass_rules.specs.state_rules.States.{with_machines}
use Rattle.pass_rules.specs.yield_rules.Yields.{with_yields_flat}
use Rattle.writable_passes.specs.Drawn.{NamesHaveRoom}
use Rattle.writable_passes.specs.Rooms.{LabelsHaveRoom, NamesFit, TurnsFit}

-- Behind the flattening of scopes, where labels have as much room.
abbrev pub ScopesKeepWritable : Type 0
ScopesKeepWritable = (hosts : ℕ) (core : Core) → IsWritableWith hosts core → IsWritableWith hosts (without_scopes core)

abbrev pub ScopesKeepRoom : Type 0
ScopesKeepRoom = (core : Core) → LabelsHaveRoom core → LabelsHaveRoom (without_scopes core)

-- Behind that of yields, if the labels that it may make fit, and so many names; the labels of turns fit then.
abbrev pub YieldsKeepWritable : Type 0
YieldsKeepWritable = (hosts : ℕ) (core : Core)
    → IsWritableWith hosts core → LabelsHaveRoom core → NamesFit hosts (with_yields_flat core)
    → IsWritableWith hosts (with_yields_flat core)

abbrev pub YieldsLeaveRoom : Type 0
YieldsLeaveRoom = (hosts : ℕ) (core : Core)
    → IsWritableWith hosts core → LabelsHaveRoom core → TurnsFit (with_yields_flat core)

-- Behind the states of generators, if the labels of their turns fit, and so many names.
abbrev pub MachinesKeepWritable : Type 0
MachinesKeepWritable = (hosts : ℕ) (core : Core)
    → IsWritableWith hosts core → TurnsFit core → NamesFit hosts (with_machines core)
    → IsWritableWith hosts (with_machines core)

-- So behind all three, if labels had room, and so many names fit as there are then.
abbrev pub AllKeepWritable : Type 0
AllKeepWritable = (hosts : ℕ) (core : Core)
    → IsWritableWith hosts core → LabelsHaveRoom core
    → let after = with_machines (with_yields_flat (without_scopes core)) in
    NamesFit hosts after → IsWritableWith hosts after

-- They do if there is room before the passes for as many as these may draw, where the core is lawful, its labels differ, and no
-- operation is on the content of a cell.
abbrev pub NamesWillFit : Type 0
NamesWillFit = (hosts : ℕ) (core : Core)
    → IsLawfulFor hosts core → AllSuch no_content core → LabelsDiffer core → NamesHaveRoom hosts core
    → NamesFit hosts (with_machines (with_yields_flat (without_scopes core)))
