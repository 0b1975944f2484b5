-- Code of a state that stands where it may by one relation does so by another.
use Rattle.std.proofs.Common.{◌≡◌, false, List, [], ◌∷◌, map}
use Rattle.core_ast.specs.declared.parts.FunctionId.{FunctionId}
use Rattle.core_ast.specs.declared.parts.Var.{Var}
use Rattle.core_ast.specs.declared.tree.CoreStat.{CoreStat}
use Rattle.core_meaning.specs.Marks.{AtStart, AtYield, Completed, Executing, Generator, Mark, Own}
use Rattle.core_meaning.specs.State.{Closure, Environment, EnvironmentRecord}
use Rattle.cells_keep_runs.specs.Alike.{Config}
use Rattle.cells_keep_runs.specs.Floors.{AllOf, BindingFits, BodyAt, ClosureAt, Everywhere, RecordsFit, Standing, floor_of, names_in}
use Rattle.cells_keep_runs.proofs.Moved.{Moves, SavedOk, contexts_moved, control_moved, generators_moved, present_moved}
use Rattle.cells_keep_runs.proofs.StateMoved.{AllOk, SavedAs}

-- what is moved besides code: closures along such environments, the environments where bodies run, which are the same, and names
pub record MovesAll (K K2 : Standing) (Ok Made : Environment → Type 0) : Type 0 where
  pub code : Moves K K2 Ok
  pub makes : (e : Environment) (f : FunctionId) → Made e → K.makes e f → K2.makes e f
  pub outermost : (e : Environment) → Ok e → K.outermost e → K2.outermost e
  pub bodies : (e : Environment) → K2.outermost e → K.outermost e × Ok e
  pub fixed : (x : Var) → K2.fixed x ≡ false → K.fixed x ≡ false

module _ (K K2 : Standing) (Ok Made : Environment → Type 0) (moves : MovesAll K K2 Ok Made) where
  saved_oks : (gs : List Generator) → AllOf (SavedAs Ok) gs → AllOf (SavedOk K K2 Ok moves.code) gs
  saved_oks [] oks = tt
  saved_oks (AtStart c ∷ gs) (ok, oks) = (ok, saved_oks gs oks)
  saved_oks (AtYield c ∷ gs) (ok, oks) = (ok, saved_oks gs oks)
  saved_oks (Executing ∷ gs) (ok, oks) = (tt, saved_oks gs oks)
  saved_oks (Completed ∷ gs) (ok, oks) = (tt, saved_oks gs oks)

  bindings_moved : (bs : EnvironmentRecord Mark) → AllOf (BindingFits K) bs → AllOf (BindingFits K2) bs
  bindings_moved [] all = tt
  bindings_moved (b ∷ bs) ((holds, may), all) = ((holds, λ free. may (moves.fixed b.var free)), bindings_moved bs all)

  records_moved : (rs : List (EnvironmentRecord Mark)) → RecordsFit K rs → RecordsFit K2 rs
  records_moved [] all = tt
  records_moved (r ∷ rs) (here, all) = (bindings_moved r here, records_moved rs all)

  closures_moved : (cs : List (Closure Own)) → AllOf (λ (c : Closure Own). Made c.environment) cs → AllOf (ClosureAt K) cs → AllOf (ClosureAt K2) cs
  closures_moved [] oks all = tt
  closures_moved (c ∷ cs) (ok, oks) ((at, none), all) = ((moves.makes c.environment c.function ok at, none), closures_moved cs oks all)

  body_moved : (b : List CoreStat) → BodyAt K b → BodyAt K2 b
  body_moved b at = λ e out. (let both = moves.bodies e out in moves.code.stats e false b both.1 (at e both.0))

  ahead_moved : (bs : List (List CoreStat)) → AllOf (BodyAt K) bs → AllOf (BodyAt K2) bs
  ahead_moved [] all = tt
  ahead_moved (b ∷ bs) (at, all) = (body_moved b at, ahead_moved bs all)

  pub everywhere_moved : (s : Config) → AllOk Ok Made s → K2.shapes (map names_in s.state.records) → Everywhere K s → Everywhere K2 s
  everywhere_moved s oks shapes (b, at) = (
    (
      present_moved K K2 Ok moves.code moves.outermost s.state oks.present b.0,
      contexts_moved K K2 Ok moves.code moves.outermost s.state.callers oks.callers b.1,
      record {
        inside = moves.code.inside s.state.context.environment oks.present b.2.inside;
        generators_at = generators_moved K K2 Ok moves.code s.state.store.generators (saved_oks s.state.store.generators oks.generators) b.2.generators_at;
        records_fit = records_moved s.state.records b.2.records_fit;
        shapes = shapes;
        closures_at = closures_moved s.state.closures oks.closures b.2.closures_at;
        ahead_at = ahead_moved s.state.ahead b.2.ahead_at;
      },
    ),
    control_moved K K2 Ok moves.code s.state.context.environment (floor_of s.state.context.frames) s.control oks.present at,
  )
