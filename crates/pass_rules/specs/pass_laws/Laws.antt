-- What the passes leave of a core.
use Rattle.core_ast.specs.declared.whole.Core.{Core}
use Rattle.core_ast.specs.Lawful.{IsLawful}
use Rattle.pass_rules.specs.Scopes.{without_scopes}
use Rattle.pass_rules.specs.state_rules.States.{with_machines}
use Rattle.pass_rules.specs.yield_rules.Yields.{with_yields_flat}
use Rattle.pass_rules.specs.pass_laws.Levels.{Level, IsWithin, anything, lawful_inside, lawful_outside, nothing, spilled, stepped, unparted, unscoped, yielding}

-- No scope is left, no name of a handler's pattern and no copy of a binding, in any function or part.
abbrev pub NoScopesAreLeft : Type 0
NoScopesAreLeft = (core : Core) → IsWithin (unscoped anything) (unscoped anything) (without_scopes core)

-- Of what else there may be, nothing comes in that wasn't there.
abbrev pub ScopesGoOut : Type 0
ScopesGoOut = (inside outside : Level) (core : Core)
    → IsWithin inside outside core → IsWithin (unscoped inside) (unscoped outside) (without_scopes core)

-- No yield is left inside an expression, and no statement, if no such yield has parts; there are yields as statements where there
-- were yields of either kind, and nothing else comes in.
abbrev pub YieldsGoOut : Type 0
YieldsGoOut = (inside outside : Level) (core : Core)
    → IsWithin (unparted inside) (unparted outside) core
    → IsWithin (spilled inside) (spilled outside) (with_yields_flat core)

-- No yield is left, if there are but statements, and these in the bodies of generators alone; and nothing comes in.
abbrev pub MachinesGoOut : Type 0
MachinesGoOut = (l : Level) (core : Core)
    → IsWithin (yielding l) (stepped l) core → IsWithin (stepped l) (stepped l) (with_machines core)

-- In a lawful core yields stand in the bodies of generators alone, and those inside expressions have no parts.
abbrev pub LawfulYields : Type 0
LawfulYields = (core : Core) → IsLawful core → IsWithin lawful_inside lawful_outside core

-- What the three passes leave of a lawful core, one after the other.
abbrev pub ScopesAreOut : Type 0
ScopesAreOut = (core : Core)
    → IsLawful core → IsWithin (unscoped lawful_inside) (unscoped lawful_outside) (without_scopes core)

abbrev pub YieldsAreOut : Type 0
YieldsAreOut = (core : Core) → IsLawful core → IsWithin (yielding nothing) nothing (with_yields_flat (without_scopes core))

abbrev pub AllIsOut : Type 0
AllIsOut = (core : Core) → IsLawful core → IsWithin nothing nothing (with_machines (with_yields_flat (without_scopes core)))
