-- Code that stands by the seats and the names of records does so by others, beside fitting code.
use Rattle.std.proofs.Common.{false, inl, List, [], ◌∷◌}
use Rattle.core_ast.specs.declared.parts.FunctionId.{FunctionId}
use Rattle.core_ast.specs.declared.parts.Var.{Var}
use Rattle.core_ast.specs.declared.tree.CoreStat.{CoreStat}
use Rattle.core_ast.specs.declared.whole.Core.{Core}
use Rattle.core_meaning.specs.Marks.{AtStart, AtYield, Completed, CoreWork, Executing, Generator, Mark, Own}
use Rattle.core_meaning.specs.State.{Closure, Context, Environment, EnvironmentRecord}
use Rattle.cells_keep_runs.specs.Alike.{Config}
use Rattle.cells_keep_runs.specs.Fitting.{Naming}
use Rattle.cells_keep_runs.specs.Floors.{AllOf, BindingFits, BodyAt, ClosureAt, Everywhere, RecordsFit, Standing, floor_of}
use Rattle.cells_keep_runs.specs.Memory.{Seats}
use Rattle.cells_keep_runs.proofs.GoingOn.{Exactly, OneOf, beside}
use Rattle.cells_keep_runs.proofs.Moved.{Moves, SavedOk, contexts_moved, control_moved, generators_moved, present_moved}

-- the environment of a generator that is saved
abbrev pub SavedAs : (Environment → Type 0) → Generator → Type 0
SavedAs Ok (AtStart k) = Ok k.environment
SavedAs Ok (AtYield k) = Ok k.environment
SavedAs Ok g = Unit {0}

-- those of all contexts of a configuration, and of its closures
pub record AllOk (Ok Made : Environment → Type 0) (s : Config) : Type 0 where
  pub present : Ok s.state.context.environment
  pub callers : AllOf (λ (k : Context Mark Own CoreWork). Ok k.environment) s.state.callers
  pub generators : AllOf (SavedAs Ok) s.state.store.generators
  pub closures : AllOf (λ (c : Closure Own). Made c.environment) s.state.closures

-- what is moved besides code: closures along such environments, and the environments where bodies run, which are the same
pub record MovesRest (A A2 : Standing) (Ok Made : Environment → Type 0) : Type 0 where
  pub makes : (e : Environment) (f : FunctionId) → Made e → A.makes e f → A2.makes e f
  pub outermost : (e : Environment) → Ok e → A.outermost e → A2.outermost e
  pub bodies : (e : Environment) → A2.outermost e → A.outermost e × Ok e

module _ (core : Core) (k : Naming) (N : Seats → List (List Var) → Standing) (seats seats2 : Seats) (bound bound2 : List (List Var)) (Ok Made : Environment → Type 0)
    (moves : Moves (N seats bound) (N seats2 bound2) Ok) (rest : MovesRest (N seats bound) (N seats2 bound2) Ok Made) where
  abbrev K : Standing
  K = beside N core k seats bound (Exactly bound)

  abbrev K2 : Standing
  K2 = beside N core k seats2 bound2 (OneOf bound bound2)

  beside_moves : Moves K K2 Ok
  beside_moves = record {
    stats = λ e own xs ok at. (moves.stats e own xs ok at.0, at.1);
    expr = λ e w in_scope x ok at. (moves.expr e w in_scope x ok at.0, at.1);
    links = λ e w ls ok at. (moves.links e w ls ok at.0, at.1);
    handler = λ e h ok at. (moves.handler e h ok at.0, at.1);
    unmade = λ e f ok at. (moves.unmade e f ok at.0, at.1);
    leads = λ e o ok at. (moves.leads e o ok at.0, at.1);
    inside = λ e ok at. (moves.inside e ok at.0, at.1);
    back = λ e o at ok. moves.back e o at.0 ok;
  }

  outermost_moved : (e : Environment) → Ok e → K.outermost e → K2.outermost e
  outermost_moved e ok at = (rest.outermost e ok at.0, at.1)

  saved_oks : (gs : List Generator) → AllOf (SavedAs Ok) gs → AllOf (SavedOk K K2 Ok beside_moves) gs
  saved_oks [] oks = tt
  saved_oks (AtStart c ∷ gs) (ok, oks) = (ok, saved_oks gs oks)
  saved_oks (AtYield c ∷ gs) (ok, oks) = (ok, saved_oks gs oks)
  saved_oks (Executing ∷ gs) (ok, oks) = (tt, saved_oks gs oks)
  saved_oks (Completed ∷ gs) (ok, oks) = (tt, saved_oks gs oks)

  bindings_moved : (bs : EnvironmentRecord Mark) → AllOf (BindingFits K) bs → AllOf (BindingFits K2) bs
  bindings_moved [] all = tt
  bindings_moved (b ∷ bs) (here, all) = (here, bindings_moved bs all)

  records_moved : (rs : List (EnvironmentRecord Mark)) → RecordsFit K rs → RecordsFit K2 rs
  records_moved [] all = tt
  records_moved (r ∷ rs) (here, all) = (bindings_moved r here, records_moved rs all)

  closures_moved : (cs : List (Closure Own)) → AllOf (λ (c : Closure Own). Made c.environment) cs → AllOf (ClosureAt K) cs → AllOf (ClosureAt K2) cs
  closures_moved [] oks all = tt
  closures_moved (c ∷ cs) (ok, oks) (((at, fit), none), all) = (((rest.makes c.environment c.function ok at, fit), none), closures_moved cs oks all)

  body_moved : (b : List CoreStat) → BodyAt K b → BodyAt K2 b
  body_moved b at = λ e out.
      let both = rest.bodies e out.0 in
      let here = at e (both.0, out.1) in
      (moves.stats e false b both.1 here.0, here.1)

  ahead_moved : (bs : List (List CoreStat)) → AllOf (BodyAt K) bs → AllOf (BodyAt K2) bs
  ahead_moved [] all = tt
  ahead_moved (b ∷ bs) (at, all) = (body_moved b at, ahead_moved bs all)

  pub state_moved : (s : Config) → AllOk Ok Made s → Everywhere K s → Everywhere K2 s
  state_moved s oks (b, at) = (
    (
      present_moved K K2 Ok beside_moves outermost_moved s.state oks.present b.0,
      contexts_moved K K2 Ok beside_moves outermost_moved s.state.callers oks.callers b.1,
      record {
        inside = beside_moves.inside s.state.context.environment oks.present b.2.inside;
        generators_at = generators_moved K K2 Ok beside_moves s.state.store.generators (saved_oks s.state.store.generators oks.generators) b.2.generators_at;
        records_fit = records_moved s.state.records b.2.records_fit;
        shapes = inl b.2.shapes;
        closures_at = closures_moved s.state.closures oks.closures b.2.closures_at;
        ahead_at = ahead_moved s.state.ahead b.2.ahead_at;
      },
    ),
    control_moved K K2 Ok beside_moves s.state.context.environment (floor_of s.state.context.frames) s.control oks.present at,
  )
