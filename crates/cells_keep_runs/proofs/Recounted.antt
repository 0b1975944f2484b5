-- What a step that makes a record leaves of what code has.
use Rattle.std.proofs.Common.{◌≡◌, ℕ, ◌≤◌, ◌+◌, arith, Bool, true, false, List, [], ◌∷◌, ◌++◌, Option, None, Some, length, refl, sym, ap, subst, ◌∙◌}
use Rattle.std.specs.Prelude.{if◌then◌else◌}
use Rattle.runs.specs.Run.{Goes}
use Rattle.es_value.specs.declared.value.Value.{Value}
use Rattle.es_value.specs.declared.value.Value.TheVariants as value
use Rattle.es_realm.specs.declared.edition.Edition.TheVariants.{Sixth}
use Rattle.es_calls.specs.Making.{arguments_heap}
use Rattle.core_ast.specs.declared.parts.ScopedName.{ScopedName}
use Rattle.core_ast.specs.declared.parts.Var.{Var}
use Rattle.core_ast.specs.declared.tree.CoreExpr.{out-CoreExpr}
use Rattle.core_ast.specs.declared.tree.CoreLink.TheOpen as layer
use Rattle.core_ast.specs.declared.tree.CoreStat.{CoreStat, out-CoreStat}
use Rattle.core_ast.specs.declared.whole.Core.{Core}
use Rattle.core_ast.specs.Lawful.{is_generator}
use Rattle.core_ast.specs.declared.whole.CoreFunction.{CoreFunction}
use Rattle.core_ast.specs.declared.whole.CoreKind.{CoreKind}
use Rattle.core_ast.specs.declared.whole.Resumption.{Resumption as Names}
use Rattle.core_ast.specs.declared.whole.CoreKind.TheVariants as kind
use Rattle.core_meaning.specs.Calls.{with_arguments}
use Rattle.core_meaning.specs.Functions.{entered, entered_by}
use Rattle.core_meaning.specs.Generators.{body_by, run_body}
use Rattle.core_meaning.specs.Marks.{CoreNext, CoreState, CoreWork, Mark, Own}
use Rattle.core_meaning.specs.Modules.{core_step, rows, stat_of}
use Rattle.core_meaning.specs.Names.{Resolved, initialize_found, initialized, resolve}
use Rattle.core_meaning.specs.Rows.{controls, or_else, place_of, pushed, with_control, with_heap}
use Rattle.core_meaning.specs.State.{Call, Calls, Closure, CoreValue, Done, Environment, Frame, Hand, LoopUpdate, Rest, Go, Has, Restore, Run, User}
use Rattle.core_meaning.specs.Statements.{begin_stat}
use Rattle.core_meaning.specs.Step.{abrupt, hand, next_body, returned, step}
use Rattle.cells_keep_runs.specs.Copied.{InScope}
use Rattle.cells_keep_runs.specs.Recorded.{inner}
use Rattle.cells_keep_runs.specs.Recounted.{BodiesUse, CallsUse, CopiesUse, HandlersUse, NextHas, RecordsAreCounted, RecordsUse, ScopesUse}
use Rattle.cells_keep_runs.specs.Counted.{AllFit, AllGeneratorsFit, Limit, Measure, Measures, NextFits, OthersFit, bottom, counted, above, generator_counted, in_frames, in_head, in_stat, total}
use Rattle.cells_keep_runs.specs.Called.{bindings_of}
use Rattle.cells_keep_runs.proofs.Called.{calls_step, within_is}
use Rattle.cells_keep_runs.proofs.Copied.{copied_at, copies_step}

module _ (m : Measure) (lim : Limit) (measures : Measures m) (one : (e : Environment) → lim.most e ≤ 1) where
  abbrev S : List CoreStat → ℕ
  S xs = m.stats xs

  abbrev F : CoreState → ℕ
  F st = in_frames m st.context.frames

  abbrev D : CoreState → ℕ
  D st = lim.most (bottom st.context.environment st.context.frames)

  abbrev R : CoreState → Type 0
  R st = OthersFit m lim (counted lim st.context) st

  abbrev M : CoreNext → Type 0
  M next = NextFits m lim next

  -- ---- scopes and handlers

  scope_by : (core : Core) (s : CoreState) (x : CoreStat) (xs body : List CoreStat) (names : List ScopedName) → out-CoreStat x ≡ layer.Scoped names body
      → core_step core (with_control (Run (x ∷ xs)) s) ≡ stat_of (pushed (Rest xs) s) (layer.Scoped names body)
  unfolding step begin_stat
  scope_by core s x xs body names is = ap (λ y. begin_stat (rows core) x (pushed (Rest xs) s) y) is ∙ ap (λ y. stat_of (pushed (Rest xs) s) y) is

  scopes_use : ScopesUse m lim
  scopes_use core s x xs body names is (b, l) =
      let h : in_stat m (out-CoreStat x) + S xs ≤ S (x ∷ xs) = measures.stat x xs in
      let k : in_stat m (out-CoreStat x) ≡ m.names names + S body = ap (λ y. in_stat m y) is in
      subst (λ n. NextHas m lim (m.names names) n) (sym (scope_by core s x xs body names is)) (b, omega arith)

  handlers_use : HandlersUse m lim
  unfolding step hand abrupt
  handlers_use core s x names handler v (b, l) = (b, omega arith)

  -- ---- copies

  same_bottom : (n k : ℕ) (o : Environment) (fs : List (Frame Mark CoreWork)) → InScope fs → bottom (n ∷ o) fs ≡ bottom (k ∷ o) fs
  same_bottom n k o (Rest xs ∷ Restore e ∷ fs) inside = refl
  same_bottom n k o (LoopUpdate l ∷ fs) inside = same_bottom n k o fs inside
  same_bottom n k o fs inside = absurd inside

  copies_use : CopiesUse m lim
  copies_use core s x xs n o is env inside ((callers, gens, most), l) =
      let h : in_head (out-CoreExpr x).head + m.links (out-CoreExpr x).links ≤ m.expr x = measures.expr x in
      let same : bottom s.context.environment s.context.frames ≡ bottom (inner s o) s.context.frames = ap (λ e. bottom e s.context.frames) env ∙ same_bottom n (length s.records) o s.context.frames inside in
      let less : D s ≡ lim.most (bottom (inner s o) s.context.frames) = ap (λ e. lim.most e) same in
      let count : counted lim s.context ≡ lim.counts (bottom (inner s o) s.context.frames) = ap (λ e. lim.counts e) same in
      subst (λ next. M next) (sym (copies_step core x xs s is ∙ ap (λ u. Goes (with_control (Go (Has (User value.Undefined)) (out-CoreExpr x).links) u)) (copied_at s n o env)))
      ((callers, gens, omega arith), omega arith)

  -- ---- calls

  -- a state that is entered: nothing waits in its context
  pub record Entered1 (st : CoreState) (e : Environment) : Type 0 where
    callers : AllFit m lim st.callers
    gens : AllGeneratorsFit m lim st.store.generators
    most : lim.counts e + (total (counted lim) st.callers + total (generator_counted lim) st.store.generators) ≤ 1
    env : st.context.environment ≡ e
    frames : st.context.frames ≡ []

  initialized_at : (x : Var) (v : CoreValue Mark) (st : CoreState) (e : Environment) (o : Option (Resolved Mark)) → Entered1 st e → Entered1 (initialize_found x v st o) e
  initialized_at x v st e None b = b
  initialized_at x v st e (Some r) b = record { callers = b.callers; gens = b.gens; most = b.most; env = b.env; frames = b.frames }

  arguments_at : (o : Option Var) (args : List Value) (st : CoreState) (e : Environment) → Entered1 st e → Entered1 (with_arguments Sixth o args st) e
  unfolding initialized
  arguments_at None args st e b = b
  arguments_at (Some x) args st e b =
      initialized_at x _ (with_heap (arguments_heap Sixth st.heap args) st) e (resolve (with_heap (arguments_heap Sixth st.heap args) st) x)
      (record { callers = b.callers; gens = b.gens; most = b.most; env = b.env; frames = b.frames })

  bodies_at : (f : CoreFunction) (st : CoreState) (e : Environment) → S f.setup + S f.body ≤ lim.most e → Entered1 st e → M (run_body f st)
  bodies_at f st e fits b = by_kind (is_generator f.kind)
    where
      ends : bottom st.context.environment st.context.frames ≡ e
      ends = ap (λ fs. bottom st.context.environment fs) b.frames ∙ b.env

      none : F st ≡ 0
      none = ap (λ fs. in_frames m fs) b.frames

      over : above st.context.frames ≡ 0
      over = ap (λ fs. above fs) b.frames

      others : R st
      others = let same : counted lim st.context ≡ lim.counts e = ap (λ a. lim.counts a) ends in let h = b.most in (b.callers, b.gens, omega arith)

      most : D st ≡ lim.most e
      most = ap (λ a. lim.most a) ends

      both : S (f.setup ++ f.body) + F st ≤ D st
      both = let h : S (f.setup ++ f.body) ≤ S f.setup + S f.body = measures.joined f.setup f.body in let k : F st ≡ 0 = none in let q : D st ≡ lim.most e = most in omega arith

      apart : S f.setup + (S f.body + (above st.context.frames + F st)) ≤ D st
      apart = let k : F st ≡ 0 = none in let j : above st.context.frames ≡ 0 = over in let q : D st ≡ lim.most e = most in omega arith

      by_resumption : (o : Option Names) → M (body_by f st o)
      by_resumption None = (others, apart)
      by_resumption (Some names) = (others, both)

      by_kind : (g : Bool) → M (if g then body_by f st f.resumption else controls (Run (f.setup ++ f.body)) st)
      by_kind true = by_resumption f.resumption
      by_kind false = (others, both)

  generators_by : (a : Closure Own) (c : Call) (s : CoreState) (k : CoreKind) → (entered_by a c s k).state.store.generators ≡ s.store.generators
  generators_by a c s kind.Arrow = refl
  generators_by a c s k = refl

  calls_use : CallsUse m lim
  calls_use core s c r undeclared fits counts ((callers, gens, most), l) =
      let f = r.function in
      let a = r.closure in
      let inside : CoreState = record (entered a f c s).state {
        records = s.records ++ bindings_of f a c s ∷ [];
        callers = s.context ∷ s.callers;
        context = record { environment = length s.records ∷ a.environment; receiver = c.receiver; site = or_else c.site (place_of s); own = (entered a f c s).own; frames = [] };
      } in
      let same : inside.store.generators ≡ s.store.generators = generators_by a c s f.kind in
      let source : core_step core (with_control (Calls c) s) ≡ run_body f (with_arguments Sixth f.arguments c.args inside) =
      calls_step core c s r.id r.number a f r.object r.class_is r.closure_at r.function_is ∙ ap (λ u. run_body f u) (within_is core f a c s undeclared) in
      let e = inner s a.environment in
      let start : Entered1 inside e = record {
        callers = (l, callers);
        gens = subst (λ gs. AllGeneratorsFit m lim gs) (sym same) gens;
        most = subst (λ gs. lim.counts e + ((counted lim s.context + total (counted lim) s.callers) + total (generator_counted lim) gs) ≤ 1) (sym same) (omega arith);
        env = refl;
        frames = refl;
      } in
      subst (λ n. M n) (sym source) (bodies_at f (with_arguments Sixth f.arguments c.args inside) e fits (arguments_at f.arguments c.args inside e start))

  -- ---- bodies of modules

  hand_is : (core : Core) (s : CoreState) (b : List CoreStat) (bs : List (List CoreStat)) → s.context.frames ≡ [] → s.callers ≡ [] → s.ahead ≡ b ∷ bs
      → core_step core (with_control (Hand Done) s) ≡ Goes (with_control (Run b) (record s { ahead = bs }))
  unfolding step hand
  hand_is core s b bs frames callers ahead =
      ap (λ fs. hand (rows core) core s Done fs) frames ∙ ap (λ ks. returned s Done ks) callers ∙ ap (λ xs. next_body s xs) ahead

  bodies_use : BodiesUse m lim
  bodies_use core s stats ahead frames callers is fits (b, l) =
      let ends : bottom s.context.environment s.context.frames ≡ s.context.environment = ap (λ fs. bottom s.context.environment fs) frames in
      let none : F s ≡ 0 = ap (λ fs. in_frames m fs) frames in
      let most : D s ≡ lim.most s.context.environment = ap (λ a. lim.most a) ends in
      subst (λ n. M n) (sym (hand_is core s stats ahead frames callers is)) (b, omega arith)

  records_use : RecordsUse m lim
  records_use = record { scopes = scopes_use; handlers = handlers_use; copies = copies_use; calls = calls_use; bodies = bodies_use }

pub records_counted : RecordsAreCounted
records_counted m b measures one = records_use m b measures one
