-- The two runs of a core whose scopes may be flattened.
use Rattle.std.proofs.Common.{Bool}
use Rattle.core_ast.specs.Lawful.{IsLawful}
use Rattle.core_ast.specs.declared.parts.Var.{Var}
use Rattle.core_ast.specs.declared.whole.Core.{Core}
use Rattle.cells_keep_runs.specs.Fitting.{IsFitting}
use Rattle.cells_keep_runs.specs.Kept.{NoneKept}
use Rattle.cells_keep_runs.specs.KeptFound.{naming}
use Rattle.cells_keep_runs.specs.MayBeFlattened.{whole_of}
use Rattle.scopes_keep_runs.specs.Counts.{AllCounts}
use Rattle.scopes_keep_runs.specs.ScopesKept.{RunsAreKept}
use Rattle.scopes_keep_runs.proofs.BothRun.{runs_go_on}
use Rattle.scopes_keep_runs.proofs.GoesOn.{goes_on}
use Rattle.scopes_keep_runs.proofs.Instance.{GoesOn}
use Rattle.scopes_keep_runs.proofs.NamesMay.{NamesMay, names_may}

-- if counts go on
pub kept_by : ((core : Core) (fixed : Var → Bool) → IsLawful core → NoneKept core → IsFitting core (naming core fixed) → NamesMay core → GoesOn core fixed (AllCounts core (whole_of core))) → RunsAreKept
kept_by goes core fixed lawful may =
    let names = names_may core may.names in
    runs_go_on core fixed lawful may.none_kept may.fitting names (AllCounts core (whole_of core)) (goes core fixed lawful may.none_kept may.fitting names)

pub runs_kept : RunsAreKept
runs_kept = kept_by goes_on
