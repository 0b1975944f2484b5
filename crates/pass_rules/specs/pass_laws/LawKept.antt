-- A lawful core comes out of a lawful one.
use Rattle.std.specs.Prelude.{ℕ}
use Rattle.core_ast.specs.declared.whole.Core.{Core}
use Rattle.core_ast.specs.Lawful.{IsLawfulFor}
use Rattle.pass_rules.specs.Scopes.{without_scopes}
use Rattle.pass_rules.specs.pass_laws.Operations.{AllSuch, no_content}

-- Behind the flattening of scopes, if no operation was on the content of a cell: one on a name that gets a cell would stand behind
-- the reading of that.
abbrev pub ScopesKeepLaw : Type 0
ScopesKeepLaw = (hosts : ℕ) (core : Core)
    → IsLawfulFor hosts core → AllSuch no_content core → IsLawfulFor hosts (without_scopes core)
