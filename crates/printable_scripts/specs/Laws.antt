-- That the scripts of cores may be printed.
use Rattle.std.specs.Prelude.{◌≡◌, ℕ, Bool, true, length, List, filter}
use Rattle.core_ast.specs.declared.whole.Core.{Core}
use Rattle.emission_laws.specs.Laws.{AreHosts, MayStandInside}
use Rattle.emission_rules.specs.Functions.{emitted}
use Rattle.es_outside.specs.Refusals.{AreHostNames}
use Rattle.es5_ast.specs.declared.tree.Script.{Script}
use Rattle.es5_ast.specs.declared.tree.Stat5.{Stat5}
use Rattle.es5_printable.specs.Printable.{is_printable}
use Rattle.helpers.specs.Definitions.{AreDefinitions}
use Rattle.pass_rules.specs.Scopes.{without_scopes}
use Rattle.pass_rules.specs.state_rules.States.{with_machines}
use Rattle.pass_rules.specs.yield_rules.Yields.{with_yields_flat}
use Rattle.writable_passes.specs.Drawn.{NamesHaveRoom}
use Rattle.writable_passes.specs.Ready.{IsReady}

-- Statements of a script that may be printed may stand in the body of a function, whichever are kept of it.
abbrev pub StatementsMayStandInside : Type 0
StatementsMayStandInside = (script : Script) (test : Stat5 → Bool)
    → is_printable script ≡ true → MayStandInside (filter test script.statements)

-- So may the helpers of the text, whatever their names.
abbrev pub HelpersMayStandInside : Type 0
HelpersMayStandInside = (names : List (List ℕ)) (helpers : List Stat5)
    → AreDefinitions names helpers → MayStandInside helpers

-- The names that hosts are given are such as a script may have.
abbrev pub HostNamesAreHosts : Type 0
HostNamesAreHosts = (hosts : List (List ℕ)) → AreHostNames hosts → AreHosts hosts

abbrev pub behind_passes : Core → Core
behind_passes core = with_machines (with_yields_flat (without_scopes core))

-- If a core is ready for the passes, and there is room for the names that these draw, its script may be printed behind them, where its
-- helpers may stand in a function.
abbrev pub ReadyArePrintable : Type 0
ReadyArePrintable = (core : Core) (hosts : List (List ℕ)) (helpers : List Stat5)
    → IsReady (length hosts) core → NamesHaveRoom (length hosts) core → AreHosts hosts → MayStandInside helpers
    → is_printable (emitted (behind_passes core) hosts helpers) ≡ true

-- So with helpers of the text.
abbrev pub HelpedArePrintable : Type 0
HelpedArePrintable = (core : Core) (hosts names : List (List ℕ)) (helpers : List Stat5)
    → IsReady (length hosts) core → NamesHaveRoom (length hosts) core → AreHosts hosts → AreDefinitions names helpers
    → is_printable (emitted (behind_passes core) hosts helpers) ≡ true
