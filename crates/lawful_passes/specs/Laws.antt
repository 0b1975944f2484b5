-- A lawful core comes out of a lawful one.
use Rattle.std.specs.Prelude.{ℕ}
use Rattle.core_ast.specs.declared.whole.Core.{Core}
use Rattle.core_ast.specs.Lawful.{IsLawfulFor}
use Rattle.lawful_passes.specs.States.{StatesAreFew}
use Rattle.lawful_passes.specs.StatesBefore.{StatesWillBeFew}
use Rattle.lawful_passes.specs.Told.{LabelsDiffer}
use Rattle.pass_rules.specs.Scopes.{without_scopes}
use Rattle.pass_rules.specs.pass_laws.Levels.{IsWithin, nothing, yielding}
use Rattle.pass_rules.specs.pass_laws.Operations.{AllSuch, no_content}
use Rattle.pass_rules.specs.state_rules.States.{with_machines}
use Rattle.pass_rules.specs.yield_rules.Yields.{with_yields_flat}

-- Behind the flattening of yields, if labels differ: what stands in the test or the update of a loop comes to stand in its body.
abbrev pub YieldsKeepLaw : Type 0
YieldsKeepLaw = (hosts : ℕ) (core : Core)
    → IsLawfulFor hosts core → LabelsDiffer core → IsLawfulFor hosts (with_yields_flat core)

-- They differ still where scopes are flattened.
abbrev pub ScopesKeepLabels : Type 0
ScopesKeepLabels = (core : Core) → LabelsDiffer core → LabelsDiffer (without_scopes core)

-- So behind both passes, if no operation was on the content of a cell before.
abbrev pub BothKeepLaw : Type 0
BothKeepLaw = (hosts : ℕ) (core : Core)
    → IsLawfulFor hosts core → AllSuch no_content core → LabelsDiffer core
    → IsLawfulFor hosts (with_yields_flat (without_scopes core))

-- Behind the states of generators, if scopes and yields are flat, as the other two passes leave them, and states can be numbered.
abbrev pub MachinesKeepLaw : Type 0
MachinesKeepLaw = (hosts : ℕ) (core : Core)
    → IsLawfulFor hosts core → IsWithin (yielding nothing) nothing core → StatesAreFew core
    → IsLawfulFor hosts (with_machines core)

-- They can behind the other two passes, if there were few nodes that become states.
abbrev pub StatesStayFew : Type 0
StatesStayFew = (core : Core) → StatesWillBeFew core → StatesAreFew (with_yields_flat (without_scopes core))

-- So behind all three.
abbrev pub AllKeepLaw : Type 0
AllKeepLaw = (hosts : ℕ) (core : Core)
    → IsLawfulFor hosts core → AllSuch no_content core → LabelsDiffer core → StatesWillBeFew core
    → IsLawfulFor hosts (with_machines (with_yields_flat (without_scopes core)))
