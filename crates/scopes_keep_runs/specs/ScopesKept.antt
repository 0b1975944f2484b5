-- A lawful core whose scopes may be flattened does behind the flattening what it did before.
use Rattle.std.specs.Prelude.{◌≡◌, Bool, true}
use Rattle.runs.specs.Same.{Same}
use Rattle.core_ast.specs.Lawful.{IsLawful}
use Rattle.core_ast.specs.declared.parts.Var.{Var}
use Rattle.core_ast.specs.declared.whole.Core.{Core}
use Rattle.core_meaning.specs.Modules.{runc}
use Rattle.pass_rules.specs.Scopes.{without_scopes}
use Rattle.cells_keep_runs.specs.Fitting.{IsFitting}
use Rattle.cells_keep_runs.specs.Kept.{NoneKept}
use Rattle.cells_keep_runs.specs.KeptFound.{naming}
use Rattle.cells_keep_runs.specs.MayBeFlattened.{names_may_be_flattened}

-- Its code fits, where some names aren't assigned; its names stand in their scopes, and come once in their activation where they have to; and no
-- function keeps cells before the pass. All of it is read from the core alone.
pub record MayBeFlattened (core : Core) (fixed : Var → Bool) : Type 0 where
  pub fitting : IsFitting core (naming core fixed)
  pub names : names_may_be_flattened core ≡ true
  pub none_kept : NoneKept core

-- The events are the same, and so is the ending.
abbrev pub RunsAreKept : Type 0
RunsAreKept = (core : Core) (fixed : Var → Bool) → IsLawful core → MayBeFlattened core fixed
    → Same (λ e f. e ≡ f) (runc core) (runc (without_scopes core))
