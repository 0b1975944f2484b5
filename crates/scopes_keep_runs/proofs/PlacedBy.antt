-- Code that stands by the names of a core, and fits, has parts that do; and there both machines find what the next step asks for.
use Rattle.std.proofs.Common.{Bool, List, [], ◌∷◌}
use Rattle.core_ast.specs.declared.parts.Var.{Var}
use Rattle.core_ast.specs.declared.tree.CoreStat.{CoreStat}
use Rattle.core_ast.specs.declared.whole.Core.{Core}
use Rattle.core_meaning.specs.Marks.{AtStart, AtYield, Completed, CoreWork, Executing, Generator, Mark, Own}
use Rattle.core_meaning.specs.State.{Closure, Context, Environment, EnvironmentRecord}
use Rattle.cells_keep_runs.specs.Alike.{Config}
use Rattle.cells_keep_runs.specs.Fitting.{any_shapes, fit_standing}
use Rattle.cells_keep_runs.specs.Floors.{AllOf, BindingFits, BodyAt, ClosureAt, Everywhere, Placed, RecordsFit, Standing, floor_of}
use Rattle.cells_keep_runs.specs.Found.{Bound}
use Rattle.cells_keep_runs.specs.Kept.{NoneKept, kept_of}
use Rattle.cells_keep_runs.specs.KeptFound.{naming}
use Rattle.cells_keep_runs.specs.Memory.{Seats}
use Rattle.cells_keep_runs.specs.Owed.{ControlFound}
use Rattle.cells_keep_runs.specs.Standings.{Around, Known}
use Rattle.cells_keep_runs.specs.Started.{owners_of}
use Rattle.cells_keep_runs.proofs.Both.{both, both_placed}
use Rattle.cells_keep_runs.proofs.Fitted.{fitted}
use Rattle.cells_keep_runs.proofs.FoundFrom.{found_from}
use Rattle.cells_keep_runs.proofs.GoingOn.{Exactly, beside, bound_in, placed_with_shapes, with_shapes}
use Rattle.cells_keep_runs.proofs.Moved.{Moves, SavedOk, contexts_moved, control_moved, generators_moved, present_moved}
use Rattle.cells_keep_runs.proofs.RoundParts.{RoundLaws, round_parts}
use Rattle.cells_keep_runs.proofs.Standings.{names_standing, round_laws}
use Rattle.scopes_keep_runs.specs.Instance.{ends_of, known_of}
use Rattle.scopes_keep_runs.proofs.Instance.{At, besides_on, names_by, names_on}
use Rattle.scopes_keep_runs.proofs.KeptNames.{captured, kept_outer, kept_shared, table_kept}
use Rattle.scopes_keep_runs.proofs.NamesMay.{NamesMay}
use Rattle.scopes_keep_runs.proofs.SeatsKeep.{AllKeep, keeps_along}

-- ---- parts of code

laws_on : (core : Core) (fixed : Var → Bool) (seats : Seats) (bound : Bound) → RoundLaws (known_of core).whole (Around (known_of core) seats bound) (besides_on (known_of core) (ends_of core) seats bound any_shapes fixed)
laws_on core fixed seats bound =
    let laws = round_laws (known_of core) (ends_of core) (captured core) (table_kept core) seats bound any_shapes fixed in
    record {
      loops = laws.loops;
      closures = laws.closures;
      made = laws.made;
      back = λ e o leads inside. laws.back e o leads.0 inside;
    }

pub placed_by : (core : Core) (fixed : Var → Bool) → NoneKept core → (seats : Seats) (bound : Bound) (shapes : List (List Var) → Type 0) → Placed core (beside (names_by core fixed) core (naming core fixed) seats bound shapes)
placed_by core fixed none_kept seats bound shapes =
    let k = known_of core in
    let A = names_by core fixed seats bound in
    let B = fit_standing core (naming core fixed) in
    let parts = round_parts k.whole (Around k seats bound) (besides_on k (ends_of core) seats bound any_shapes fixed) (laws_on core fixed seats bound) in
    placed_with_shapes core (both A B) shapes (both_placed core A B parts (fitted core (naming core fixed) any_shapes none_kept))

-- ---- whatever is bound further out

abbrev Anywhere : Environment → Type 0
Anywhere e = Unit {0}

module _ (k : Known) (ends : Environment) (seats : Seats) (bound : Bound) (shapes : List (List Var) → Type 0) (fixed : Var → Bool) (B : Standing) where
  abbrev K : Standing
  K = with_shapes (both (names_on k ends seats bound any_shapes fixed) B) shapes

  abbrev K2 : Standing
  K2 = with_shapes (both (names_standing k ends seats bound any_shapes fixed) B) shapes

  moves : Moves K K2 Anywhere
  moves = record {
    stats = λ e own xs ok at. at;
    expr = λ e w in_scope x ok at. at;
    links = λ e w ls ok at. at;
    handler = λ e h ok at. at;
    unmade = λ e f ok at. at;
    leads = λ e o ok at. (at.0.0, at.1);
    inside = λ e ok at. at;
    back = λ e o leads ok. tt;
  }

  oks : (ks : List (Context Mark Own CoreWork)) → AllOf (λ (c : Context Mark Own CoreWork). Anywhere c.environment) ks
  oks [] = tt
  oks (c ∷ ks) = (tt, oks ks)

  saved_oks : (gs : List Generator) → AllOf (SavedOk K K2 Anywhere moves) gs
  saved_oks [] = tt
  saved_oks (AtStart c ∷ gs) = (tt, saved_oks gs)
  saved_oks (AtYield c ∷ gs) = (tt, saved_oks gs)
  saved_oks (Executing ∷ gs) = (tt, saved_oks gs)
  saved_oks (Completed ∷ gs) = (tt, saved_oks gs)

  bindings_same : (bs : EnvironmentRecord Mark) → AllOf (BindingFits K) bs → AllOf (BindingFits K2) bs
  bindings_same [] all = tt
  bindings_same (b ∷ bs) (here, all) = (here, bindings_same bs all)

  records_same : (rs : List (EnvironmentRecord Mark)) → RecordsFit K rs → RecordsFit K2 rs
  records_same [] all = tt
  records_same (r ∷ rs) (here, all) = (bindings_same r here, records_same rs all)

  closures_same : (cs : List (Closure Own)) → AllOf (ClosureAt K) cs → AllOf (ClosureAt K2) cs
  closures_same [] all = tt
  closures_same (c ∷ cs) (here, all) = (here, closures_same cs all)

  ahead_same : (bs : List (List CoreStat)) → AllOf (BodyAt K) bs → AllOf (BodyAt K2) bs
  ahead_same [] all = tt
  ahead_same (x ∷ bs) (here, all) = (here, ahead_same bs all)

  pub leads_to : (s : Config) → Everywhere K s → Everywhere K2 s
  leads_to s (b, at) = (
    (
      present_moved K K2 Anywhere moves (λ e ok here. here) s.state tt b.0,
      contexts_moved K K2 Anywhere moves (λ e ok here. here) s.state.callers (oks s.state.callers) b.1,
      record {
        inside = b.2.inside;
        generators_at = generators_moved K K2 Anywhere moves s.state.store.generators (saved_oks s.state.store.generators) b.2.generators_at;
        records_fit = records_same s.state.records b.2.records_fit;
        shapes = b.2.shapes;
        closures_at = closures_same s.state.closures b.2.closures_at;
        ahead_at = ahead_same s.state.ahead b.2.ahead_at;
      },
    ),
    control_moved K K2 Anywhere moves s.state.context.environment (floor_of s.state.context.frames) s.control tt at,
  )

-- ---- what is found

pub found_by : (core : Core) (fixed : Var → Bool) → NamesMay core → (seats : Seats) → AllKeep (kept_of core) seats → (s : Config) → At core fixed seats s
    → ControlFound (kept_of core) (owners_of core) seats s.state s.control
found_by core fixed may seats keeps s (here, long) =
    let bound = bound_in s in
    found_from (known_of core) core (naming core fixed) (ends_of core) seats any_shapes (Exactly bound) (kept_outer core may) (kept_shared core) (keeps_along (kept_of core) seats keeps) s long
    (leads_to (known_of core) (ends_of core) seats bound (Exactly bound) fixed (fit_standing core (naming core fixed)) s here)
