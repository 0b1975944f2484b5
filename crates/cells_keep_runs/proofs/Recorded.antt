-- What makes a record leaves code where it may stand.
use Rattle.std.proofs.Common.{◌≡◌, Bool, true, false, List, [], ◌∷◌, ◌++◌, Option, None, Some, length, refl, sym, ap, subst, ◌∙◌}
use Rattle.std.specs.Prelude.{if◌then◌else◌}
use Rattle.runs.specs.Run.{Goes}
use Rattle.es_value.specs.declared.value.Value.{Value}
use Rattle.es_value.specs.declared.value.Value.TheVariants as value
use Rattle.es_realm.specs.declared.edition.Edition.TheVariants.{Sixth}
use Rattle.es_calls.specs.Making.{arguments_heap}
use Rattle.core_ast.specs.declared.parts.ScopedName.{ScopedName}
use Rattle.core_ast.specs.declared.parts.Var.{Var}
use Rattle.core_ast.specs.declared.tree.CoreExpr.{CoreExpr, out-CoreExpr}
use Rattle.core_ast.specs.declared.tree.CoreLink.{CoreLink}
use Rattle.core_ast.specs.declared.tree.CoreLink.TheOpen as layer
use Rattle.core_ast.specs.declared.tree.CoreStat.{CoreStat, out-CoreStat}
use Rattle.core_ast.specs.declared.whole.Core.{Core}
use Rattle.core_ast.specs.Lawful.{is_generator}
use Rattle.core_ast.specs.declared.whole.CoreFunction.{CoreFunction}
use Rattle.core_ast.specs.declared.whole.CoreKind.{CoreKind}
use Rattle.core_ast.specs.declared.whole.Resumption.{Resumption as Names}
use Rattle.core_ast.specs.declared.whole.CoreKind.TheVariants as kind
use Rattle.core_meaning.specs.Calls.{with_arguments}
use Rattle.core_meaning.specs.Functions.{entered, entered_by}
use Rattle.core_meaning.specs.Generators.{body_by, run_body}
use Rattle.core_meaning.specs.Marks.{CoreNext, CoreState, CoreWork, Mark, Own}
use Rattle.core_meaning.specs.Modules.{core_step, rows, stat_of}
use Rattle.core_meaning.specs.Names.{Resolved, initialize_found, initialized, resolve}
use Rattle.core_meaning.specs.Rows.{controls, or_else, place_of, pushed, with_control, with_heap}
use Rattle.core_meaning.specs.State.{Call, Calls, Closure, CoreValue, Done, Environment, Frame, Hand, LoopUpdate, Rest, Go, Has, Restore, Run, User}
use Rattle.core_meaning.specs.Statements.{begin_stat}
use Rattle.core_meaning.specs.Step.{abrupt, hand, next_body, returned, step}
use Rattle.cells_keep_runs.specs.Copied.{InScope}
use Rattle.cells_keep_runs.specs.Recorded.{BodiesStay, CallsStay, CopiesStay, HandlersStay, RecordsStay, ScopesStay, inner}
use Rattle.cells_keep_runs.specs.Placing.{AllGenerators, At, FramesAt, Handler, IfAt, NextAt, Placing, StateAt}
use Rattle.cells_keep_runs.specs.Called.{bindings_of}
use Rattle.cells_keep_runs.proofs.Called.{calls_step, within_is}
use Rattle.cells_keep_runs.proofs.Copied.{copied_at, copies_step}

module _ (S : At (List CoreStat)) (E : At CoreExpr) (L : At (List CoreLink)) (H : At Handler) (place : Placing S E L H) where
  abbrev M : CoreNext → Type 0
  M = NextAt S E L H

  scope_by : (core : Core) (s : CoreState) (x : CoreStat) (xs body : List CoreStat) (names : List ScopedName) → out-CoreStat x ≡ layer.Scoped names body
      → core_step core (with_control (Run (x ∷ xs)) s) ≡ stat_of (pushed (Rest xs) s) (layer.Scoped names body)
  unfolding step begin_stat
  scope_by core s x xs body names is = ap (λ y. begin_stat (rows core) x (pushed (Rest xs) s) y) is ∙ ap (λ y. stat_of (pushed (Rest xs) s) y) is

  scopes_stay : ScopesStay S E L H
  scopes_stay core s x xs body names is at (b, all) =
      subst (λ n. M n) (sym (scope_by core s x xs body names is)) (((tt, (place.rest s.context.environment x xs all, b.0)), b.1, b.2), at)

  handlers_stay : HandlersStay S E L H
  unfolding step hand abrupt
  handlers_stay core s x names handler v at ((frames, contexts, generators), c) = (((tt, frames.1), contexts, generators), at)

  -- ---- copies

  module _ (e e2 : Environment) (stats : (ys : List CoreStat) → S e ys → S e2 ys) (exprs : (y : CoreExpr) → E e y → E e2 y) where
    if_moved : (o : Option CoreExpr) → IfAt E e o → IfAt E e2 o
    if_moved None at = tt
    if_moved (Some x) at = exprs x at

    frames_moved : (fs : List (Frame Mark CoreWork)) → InScope fs → FramesAt S E L H e fs → FramesAt S E L H e2 fs
    frames_moved (Rest xs ∷ Restore o ∷ fs) inside (at, below) = (stats xs at, below)
    frames_moved (LoopUpdate l ∷ fs) inside ((test, update, body), below) = ((if_moved l.test test, if_moved l.update update, stats l.body body), frames_moved fs inside below)
    frames_moved fs inside at = absurd inside

  copies_stay : CopiesStay S E L H
  copies_stay core s x xs n o is env inside stats exprs links_move (b, at) =
      let frames : FramesAt S E L H (n ∷ o) s.context.frames = subst (λ e. FramesAt S E L H e s.context.frames) env b.0 in
      let links_at : L (n ∷ o) (out-CoreExpr x).links = subst (λ e. L e (out-CoreExpr x).links) env (place.links s.context.environment x at) in
      subst (λ m. M m) (sym (copies_step core x xs s is ∙ ap (λ u. Goes (with_control (Go (Has (User value.Undefined)) (out-CoreExpr x).links) u)) (copied_at s n o env)))
      ((frames_moved (n ∷ o) (inner s o) stats exprs s.context.frames inside frames, b.1, b.2), links_move (out-CoreExpr x).links links_at)

  -- ---- calls

  -- a state that is entered: its code stands where it may, and its environment has the next record
  abbrev Entered1 : CoreState → Environment → Type 0
  Entered1 st e = StateAt S E L H st × (st.context.environment ≡ e)

  initialized_at : (x : Var) (v : CoreValue Mark) (st : CoreState) (e : Environment) (o : Option (Resolved Mark)) → Entered1 st e → Entered1 (initialize_found x v st o) e
  initialized_at x v st e None b = b
  initialized_at x v st e (Some r) b = b

  arguments_at : (o : Option Var) (args : List Value) (st : CoreState) (e : Environment) → Entered1 st e → Entered1 (with_arguments Sixth o args st) e
  unfolding initialized
  arguments_at None args st e b = b
  arguments_at (Some x) args st e b = initialized_at x _ (with_heap (arguments_heap Sixth st.heap args) st) e (resolve (with_heap (arguments_heap Sixth st.heap args) st) x) b

  bodies_at : (f : CoreFunction) (st : CoreState) (e : Environment) → S e f.setup → S e f.body → Entered1 st e → M (run_body f st)
  bodies_at f st e setup body ((frames, contexts, generators), is) =
      let setup2 : S st.context.environment f.setup = subst (λ a. S a f.setup) (sym is) setup in
      let body2 : S st.context.environment f.body = subst (λ a. S a f.body) (sym is) body in
      let both : S st.context.environment (f.setup ++ f.body) = place.joined st.context.environment f.setup f.body setup2 body2 in
      by_kind (is_generator f.kind) setup2 body2 both
    where
      by_resumption : (o : Option Names) → S st.context.environment f.setup → S st.context.environment f.body → S st.context.environment (f.setup ++ f.body) → M (body_by f st o)
      by_resumption None setup2 body2 both = (((body2, frames), contexts, generators), setup2)
      by_resumption (Some names) setup2 body2 both = ((frames, contexts, generators), both)

      by_kind : (b : Bool) → S st.context.environment f.setup → S st.context.environment f.body → S st.context.environment (f.setup ++ f.body) → M (if b then body_by f st f.resumption else controls (Run (f.setup ++ f.body)) st)
      by_kind true setup2 body2 both = by_resumption f.resumption setup2 body2 both
      by_kind false setup2 body2 both = ((frames, contexts, generators), both)

  generators_by : (a : Closure Own) (c : Call) (s : CoreState) (k : CoreKind) → AllGenerators S E L H s.store.generators → AllGenerators S E L H (entered_by a c s k).state.store.generators
  generators_by a c s kind.Arrow all = all
  generators_by a c s k all = all

  calls_stay : CallsStay S E L H
  calls_stay core s c r undeclared setup body (b, t) =
      let f = r.function in
      let a = r.closure in
      let inside : CoreState = record (entered a f c s).state {
        records = s.records ++ bindings_of f a c s ∷ [];
        callers = s.context ∷ s.callers;
        context = record { environment = length s.records ∷ a.environment; receiver = c.receiver; site = or_else c.site (place_of s); own = (entered a f c s).own; frames = [] };
      } in
      let source : core_step core (with_control (Calls c) s) ≡ run_body f (with_arguments Sixth f.arguments c.args inside) =
      calls_step core c s r.id r.number a f r.object r.class_is r.closure_at r.function_is ∙ ap (λ u. run_body f u) (within_is core f a c s undeclared) in
      subst (λ n. M n) (sym source)
      (bodies_at f (with_arguments Sixth f.arguments c.args inside) (inner s a.environment) setup body
      (arguments_at f.arguments c.args inside (inner s a.environment) ((tt, (b.0, b.1), generators_by a c s f.kind b.2), refl)))

  -- ---- bodies of modules

  hand_is : (core : Core) (s : CoreState) (b : List CoreStat) (bs : List (List CoreStat)) → s.context.frames ≡ [] → s.callers ≡ [] → s.ahead ≡ b ∷ bs
      → core_step core (with_control (Hand Done) s) ≡ Goes (with_control (Run b) (record s { ahead = bs }))
  unfolding step hand
  hand_is core s b bs frames callers ahead =
      ap (λ fs. hand (rows core) core s Done fs) frames ∙ ap (λ ks. returned s Done ks) callers ∙ ap (λ xs. next_body s xs) ahead

  bodies_stay : BodiesStay S E L H
  bodies_stay core s b bs frames callers ahead at (all, c) = subst (λ n. M n) (sym (hand_is core s b bs frames callers ahead)) (all, at)

  pub records_stay : RecordsStay S E L H
  records_stay = record { scopes = scopes_stay; handlers = handlers_stay; copies = copies_stay; calls = calls_stay; bodies = bodies_stay }
