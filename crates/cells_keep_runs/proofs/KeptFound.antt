-- The two runs of a core whose code fits, where both machines find the names.
use Rattle.std.proofs.Common.{suc, subst}
use Rattle.core_ast.specs.Lawful.{IsLawful}
use Rattle.core_ast.specs.declared.parts.Var.{Var}
use Rattle.core_ast.specs.declared.whole.Core.{Core}
use Rattle.std.specs.Prelude.{Bool}
use Rattle.core_meaning.specs.Modules.{core_step}
use Rattle.cells_keep_runs.specs.Alike.{Config}
use Rattle.cells_keep_runs.specs.Course.{answered, begun, gone_on}
use Rattle.cells_keep_runs.specs.Fitting.{IsFitting, any_shapes, fit_standing}
use Rattle.cells_keep_runs.specs.Floors.{Everywhere, NextAt, Standing}
use Rattle.cells_keep_runs.specs.Kept.{IsReached, NoneKept, kept_of}
use Rattle.cells_keep_runs.specs.KeptFound.{AllReadyOrLeave, CodeGoesOnToFit, RunsAreKeptWhereFound, naming}
use Rattle.cells_keep_runs.specs.Memory.{Seats}
use Rattle.cells_keep_runs.proofs.Apart.{none_declared}
use Rattle.cells_keep_runs.proofs.FitRuns.{Undeclared, fit_reaches, fit_start, fit_step}
use Rattle.cells_keep_runs.proofs.Kept.{runs_kept_or_left}
use Rattle.cells_keep_runs.proofs.Readying.{fitting_ready}

module _ (core : Core) (fixed : Var → Bool) (lawful : IsLawful core) (none_kept : NoneKept core) (fitting : IsFitting core (naming core fixed)) where
  abbrev K : Standing
  K = fit_standing core (naming core fixed)

  undeclared : Undeclared core
  undeclared f function at = none_declared core f function lawful at

  fits_at : (seats : Seats) (s t : Config) → IsReached core seats s t → Everywhere K s
  fits_at seats s t begun = fit_start core (naming core fixed) any_shapes (λ bound xs at. tt) fitting none_kept undeclared tt
  fits_at seats s t (gone_on {seats = seats0} {s = s0} {t = t0} n j reached way way2 new related) =
      fit_reaches core (naming core fixed) any_shapes (λ bound xs at. tt) fitting none_kept undeclared (suc n) s0 s way (fits_at seats0 s0 t0 reached)
  fits_at seats s t (answered {seats = seats0} {s = s0} {t = t0} j u a reached is way is2 new related) =
      let next : NextAt K (core_step core s0) = fit_step core (naming core fixed) any_shapes (λ bound xs at. tt) fitting none_kept undeclared s0 (fits_at seats0 s0 t0 reached) in
      subst (λ m. NextAt K m) is next a

pub code_goes_on : CodeGoesOnToFit
code_goes_on core fixed seats s t lawful none_kept fitting reached = fits_at core fixed lawful none_kept fitting seats s t reached

pub kept_where_found : RunsAreKeptWhereFound
kept_where_found core fixed lawful none_kept fitting found =
    let ready : AllReadyOrLeave core = λ seats s t reached.
    fitting_ready core (naming core fixed) (kept_of core) seats s (fits_at core fixed lawful none_kept fitting seats s t reached) (found seats s t reached) in
    runs_kept_or_left core lawful none_kept ready
