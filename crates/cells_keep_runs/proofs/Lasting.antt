-- Steps that leave as many records as there were make none, so that all code goes on to stand where it may.
use Rattle.std.proofs.Common.{◌≡◌, ◌≤◌, ℕ, zero, suc, Bool, true, false, List, [], ◌∷◌, ◌++◌, map, length, Option, None, Some, refl, sym, subst, ap, ◌∙◌, arith}
use Rattle.std.specs.Prelude.{if◌then◌else◌}
use Rattle.std.proofs.lemmas.List.{length-set}
use Rattle.runs.specs.Run.{Asks, Goes}
use Rattle.runs.specs.Simulation.{Reaches}
use Rattle.es_outside.specs.declared.events.Event.{Event}
use Rattle.es_outside.specs.declared.host.Reply.{Reply}
use Rattle.es_value.specs.declared.value.Value.{Value}
use Rattle.es_calls.specs.Making.{arguments_heap}
use Rattle.es_realm.specs.declared.edition.Edition.TheVariants.{Sixth}
use Rattle.core_ast.specs.Lawful.{is_generator}
use Rattle.core_ast.specs.declared.parts.CoreHead.{CoreHead}
use Rattle.core_ast.specs.declared.parts.CoreHead.TheVariants as head
use Rattle.core_ast.specs.declared.parts.Var.{Var}
use Rattle.core_ast.specs.declared.tree.CoreCase.{CoreCase}
use Rattle.core_ast.specs.declared.tree.CoreExpr.{CoreExpr, out-CoreExpr}
use Rattle.core_ast.specs.declared.tree.CoreLink.{CoreLink}
use Rattle.core_ast.specs.declared.tree.CoreLink.TheOpen as layer
use Rattle.core_ast.specs.declared.tree.CoreLink.TheOpen.{CoreStat-F}
use Rattle.core_ast.specs.declared.tree.CoreStat.{CoreStat, out-CoreStat}
use Rattle.core_ast.specs.declared.whole.Core.{Core}
use Rattle.core_ast.specs.declared.whole.CoreFunction.{CoreFunction}
use Rattle.core_ast.specs.declared.whole.Resumption.{Resumption as Names}
use Rattle.core_meaning.specs.Calls.{with_arguments}
use Rattle.core_meaning.specs.Expressions.{begin_head}
use Rattle.core_meaning.specs.Functions.{entered}
use Rattle.core_meaning.specs.Generators.{body_by, run_body}
use Rattle.core_meaning.specs.Marks.{AtStart, AtYield, Completed, CoreNext, CoreState, CoreWork, Executing, Generator, Mark, Own}
use Rattle.core_meaning.specs.Modules.{core_step, rows, stat_of}
use Rattle.core_meaning.specs.Names.{Resolved, initialize_found, initialized, record_at, resolve, with_value}
use Rattle.core_meaning.specs.Rows.{controls, or_else, place_of, pushed, with_control, with_frames, with_heap}
use Rattle.core_meaning.specs.State.{Begin, Call, Calls, Catching, Closure, Completion, Context, Control, CoreValue, Done, Environment, EnvironmentRecord, Frame, Gives, Go, Hand, Jumps, Rest, Returns, Run, Throws, Turn}
use Rattle.core_meaning.specs.Statements.{begin_stat, run_stats}
use Rattle.core_meaning.specs.Step.{abrupt, hand, step}
use Rattle.cells_keep_runs.specs.Alike.{Config}
use Rattle.cells_keep_runs.specs.Called.{bindings_of}
use Rattle.cells_keep_runs.specs.Fitting.{IsFitting, Naming, any_shapes, fit_standing, fit_with}
use Rattle.cells_keep_runs.specs.Floors.{AllOf, Anew, BindingFits, BodyAt, ClosureAt, Everywhere, HandAnew, HeadAnew, ListAnew, NextAt, NoCells, Placed, RecordsFit, Standing, StatAnew, floor_of, names_in}
use Rattle.cells_keep_runs.specs.Ready.{ClosureCall}
use Rattle.cells_keep_runs.proofs.Anew.{floors_stay}
use Rattle.cells_keep_runs.proofs.Called.{calls_step, within_is}
use Rattle.cells_keep_runs.proofs.FitRuns.{Grows, Undeclared, fit_step}
use Rattle.cells_keep_runs.proofs.Moved.{Moves, SavedOk, contexts_moved, control_moved, generators_moved, present_moved}

-- ---- what makes a record

abbrev pub HeadMakes : CoreHead → Type 0
HeadMakes (head.Copy xs) = Unit {0}
HeadMakes h = ⊥

abbrev pub StatMakes : CoreStat-F CoreLink CoreStat CoreCase CoreExpr → Type 0
StatMakes (layer.Scoped names body) = Unit {0}
StatMakes y = ⊥

abbrev pub ListMakes : List CoreStat → Type 0
ListMakes [] = ⊥
ListMakes (x ∷ xs) = StatMakes (out-CoreStat x)

abbrev pub HandMakes : Completion Mark → List (Frame Mark CoreWork) → Type 0
HandMakes (Throws v) (Catching x names handler ∷ fs) = Unit {0}
HandMakes c fs = ⊥

abbrev pub MakesRecord : Core → CoreState → Control Mark → Type 0
MakesRecord core st (Begin x) = HeadMakes (out-CoreExpr x).head
MakesRecord core st (Run xs) = ListMakes xs
MakesRecord core st (Calls c) = ClosureCall core c st
MakesRecord core st (Hand c) = HandMakes c st.context.frames
MakesRecord core st c = ⊥

module _ (core : Core) (K : Standing) where
  head_none : (st : CoreState) (h : CoreHead) → (HeadMakes h → ⊥) → HeadAnew K st h
  head_none st (head.Copy xs) none = absurd (none tt)
  head_none st h none = tt

  stat_none : (st : CoreState) (y : CoreStat-F CoreLink CoreStat CoreCase CoreExpr) → (StatMakes y → ⊥) → StatAnew K st y
  stat_none st (layer.Scoped names body) none = absurd (none tt)
  stat_none st y none = tt

  list_none : (st : CoreState) (xs : List CoreStat) → (ListMakes xs → ⊥) → ListAnew K st xs
  list_none st [] none = tt
  list_none st (x ∷ xs) none = stat_none st (out-CoreStat x) none

  hand_none : (st : CoreState) (c : Completion Mark) (fs : List (Frame Mark CoreWork)) → (HandMakes c fs → ⊥) → HandAnew K st c fs
  hand_none st (Throws v) [] none = tt
  hand_none st (Throws v) (Catching x names handler ∷ fs) none = absurd (none tt)
  hand_none st (Throws v) (f ∷ fs) none = tt
  hand_none st (Gives v) fs none = tt
  hand_none st Done fs none = tt
  hand_none st (Returns v) fs none = tt
  hand_none st (Jumps goes_on label) fs none = tt

  -- where none is made nothing runs along a new environment
  pub none_anew : (st : CoreState) (c : Control Mark) → (MakesRecord core st c → ⊥) → Anew core K st c
  none_anew st (Begin x) none = head_none st (out-CoreExpr x).head none
  none_anew st (Go c links) none = tt
  none_anew st (Run xs) none = list_none st xs none
  none_anew st (Turn site c) none = tt
  none_anew st (Calls c) none = λ r made. absurd (none r)
  none_anew st (Hand c) none = hand_none st c st.context.frames none

-- ---- a step that makes a record leaves one more

length_more : (rs : List (EnvironmentRecord Mark)) (r : EnvironmentRecord Mark) → length (rs ++ r ∷ []) ≡ suc (length rs)
length_more [] r = refl
length_more (x ∷ rs) r = ap (λ n. suc n) (length_more rs r)

-- at least so many records
abbrev pub Leaves1 : ℕ → CoreNext → Type 0
Leaves1 n (Goes s) = n ≤ length s.state.records
Leaves1 n next = ⊥

module _ (core : Core) where
  one_more : (n : ℕ) (rs : List (EnvironmentRecord Mark)) (r : EnvironmentRecord Mark) → n ≡ length rs → suc n ≤ length (rs ++ r ∷ [])
  one_more n rs r is = let more = length_more rs r in omega arith

  head_more : (h : CoreHead) (links : List CoreLink) (st : CoreState) → HeadMakes h → Leaves1 (suc (length st.records)) (begin_head (rows core) core h links st)
  unfolding begin_head
  head_more (head.Copy xs) links st makes = one_more (length st.records) st.records _ refl
  head_more h links st makes = absurd makes

  stat_more : (x : CoreStat) (xs : List CoreStat) (st : CoreState) (y : CoreStat-F CoreLink CoreStat CoreCase CoreExpr) → out-CoreStat x ≡ y → StatMakes y → Leaves1 (suc (length st.records)) (begin_stat (rows core) x (pushed (Rest xs) st) y)
  unfolding begin_stat
  stat_more x xs st (layer.Scoped names body) is makes = subst (λ z. Leaves1 (suc (length st.records)) (stat_of (pushed (Rest xs) st) z)) (sym is) (one_more (length st.records) st.records _ refl)
  stat_more x xs st y is makes = absurd makes

  list_more : (xs : List CoreStat) (st : CoreState) → ListMakes xs → Leaves1 (suc (length st.records)) (run_stats (rows core) xs st)
  list_more [] st makes = absurd makes
  list_more (x ∷ xs) st makes = stat_more x xs st (out-CoreStat x) refl makes

  throw_more : (st : CoreState) (v : Value) (f : Frame Mark CoreWork) (fs : List (Frame Mark CoreWork)) → HandMakes (Throws v) (f ∷ fs) → Leaves1 (suc (length st.records)) (abrupt (rows core) (with_frames fs st) f (Throws v))
  unfolding abrupt
  throw_more st v (Catching x names handler) fs makes = one_more (length st.records) st.records _ refl
  throw_more st v f fs makes = absurd makes

  hand_more : (st : CoreState) (c : Completion Mark) (fs : List (Frame Mark CoreWork)) → HandMakes c fs → Leaves1 (suc (length st.records)) (hand (rows core) core st c fs)
  unfolding hand
  hand_more st (Throws v) [] makes = absurd makes
  hand_more st (Throws v) (f ∷ fs) makes = throw_more st v f fs makes
  hand_more st (Gives v) fs makes = absurd makes
  hand_more st Done fs makes = absurd makes
  hand_more st (Returns v) fs makes = absurd makes
  hand_more st (Jumps goes_on label) fs makes = absurd makes

  -- a state with so many records
  abbrev Many : ℕ → CoreState → Type 0
  Many n st = n ≤ length st.records

  bound_many : (n : ℕ) (x : Var) (v : CoreValue Mark) (st : CoreState) (o : Option (Resolved Mark)) → Many n st → Many n (initialize_found x v st o)
  bound_many n x v st None many = many
  bound_many n x v st (Some r) many = subst (λ m. n ≤ m) (sym (length-set st.records r.at (with_value (record_at st.records r.at) x v))) many

  arguments_many : (n : ℕ) (o : Option Var) (args : List Value) (st : CoreState) → Many n st → Many n (with_arguments Sixth o args st)
  unfolding initialized
  arguments_many n None args st many = many
  arguments_many n (Some x) args st many = bound_many n x _ (with_heap (arguments_heap Sixth st.heap args) st) (resolve (with_heap (arguments_heap Sixth st.heap args) st) x) many

  body_many : (n : ℕ) (f : CoreFunction) (st : CoreState) (o : Option Names) → Many n st → Leaves1 n (body_by f st o)
  body_many n f st None many = many
  body_many n f st (Some names) many = many

  run_many : (n : ℕ) (f : CoreFunction) (st : CoreState) (is : Bool) → Many n st → Leaves1 n (if is then body_by f st f.resumption else controls (Run (f.setup ++ f.body)) st)
  run_many n f st true many = body_many n f st f.resumption many
  run_many n f st false many = many

  call_more : (c : Call) (s : CoreState) (r : ClosureCall core c s) → r.function.declared ≡ [] → Leaves1 (suc (length s.records)) (core_step core (with_control (Calls c) s))
  call_more c s r undeclared =
      let f = r.function in
      let a = r.closure in
      let n = suc (length s.records) in
      let inside : CoreState = record (entered a f c s).state {
        records = s.records ++ bindings_of f a c s ∷ [];
        callers = s.context ∷ s.callers;
        context = record { environment = length s.records ∷ a.environment; receiver = c.receiver; site = or_else c.site (place_of s); own = (entered a f c s).own; frames = [] };
      } in
      let source : core_step core (with_control (Calls c) s) ≡ run_body f (with_arguments Sixth f.arguments c.args inside) =
      calls_step core c s r.id r.number a f r.object r.class_is r.closure_at r.function_is ∙ ap (λ u. run_body f u) (within_is core f a c s undeclared) in
      subst (λ m. Leaves1 n m) (sym source)
      (run_many n f (with_arguments Sixth f.arguments c.args inside) (is_generator f.kind) (arguments_many n f.arguments c.args inside (one_more (length s.records) s.records (bindings_of f a c s) refl)))

  control_more : Undeclared core → (s : CoreState) (c : Control Mark) → MakesRecord core s c → Leaves1 (suc (length s.records)) (core_step core (with_control c s))
  unfolding step
  control_more undeclared s (Begin x) makes = head_more (out-CoreExpr x).head (out-CoreExpr x).links s makes
  control_more undeclared s (Run xs) makes = list_more xs s makes
  control_more undeclared s (Calls c) r = call_more c s r (undeclared r.closure.function r.function r.function_is)
  control_more undeclared s (Hand c) makes = hand_more s c s.context.frames makes
  control_more undeclared s c makes = absurd makes

-- ---- steps of a core whose code fits

module _ (core : Core) (k : Naming) (fitting : IsFitting core k) (uncelled : NoCells core) (undeclared : Undeclared core) (K : Standing) (place : Placed core K) where
  abbrev count : Config → ℕ
  count s = length s.state.records

  -- a configuration of fitting code
  abbrev Fitting : Config → Type 0
  Fitting s = Everywhere (fit_standing core k) s

  same_count : (rs : List (EnvironmentRecord Mark)) → length (map names_in rs) ≡ length rs
  same_count [] = refl
  same_count (r ∷ rs) = ap (λ n. suc n) (same_count rs)

  -- at least so many records, by their names
  abbrev AtLeast : ℕ → List (List Var) → Type 0
  AtLeast n bound = n ≤ length bound

  bound_more : (bound : List (List Var)) (xs : List Var) → length (bound ++ xs ∷ []) ≡ suc (length bound)
  bound_more [] xs = refl
  bound_more (x ∷ bound) xs = ap (λ n. suc n) (bound_more bound xs)

  at_least : (n : ℕ) → Grows (AtLeast n)
  at_least n bound xs at = let more = bound_more bound xs in omega arith

  abbrev K2 : ℕ → Standing
  K2 n = fit_with core k (AtLeast n)

  abbrev Anywhere : Environment → Type 0
  Anywhere e = Unit {0}

  moves : (n : ℕ) → Moves (fit_standing core k) (K2 n) Anywhere
  moves n = record {
    stats = λ e own xs ok at. at;
    expr = λ e w in_scope x ok at. at;
    links = λ e w ls ok at. at;
    handler = λ e h ok at. at;
    unmade = λ e f ok at. at;
    leads = λ e o ok at. at;
    inside = λ e ok at. at;
    back = λ e o leads ok. tt;
  }

  oks : (ks : List (Context Mark Own CoreWork)) → AllOf (λ (c : Context Mark Own CoreWork). Anywhere c.environment) ks
  oks [] = tt
  oks (c ∷ ks) = (tt, oks ks)

  saved_oks : (n : ℕ) (gs : List Generator) → AllOf (SavedOk (fit_standing core k) (K2 n) Anywhere (moves n)) gs
  saved_oks n [] = tt
  saved_oks n (AtStart c ∷ gs) = (tt, saved_oks n gs)
  saved_oks n (AtYield c ∷ gs) = (tt, saved_oks n gs)
  saved_oks n (Executing ∷ gs) = (tt, saved_oks n gs)
  saved_oks n (Completed ∷ gs) = (tt, saved_oks n gs)

  counted : (s : Config) → Fitting s → Everywhere (K2 (count s)) s
  counted s (b, at) =
      let n = count s in
      let m = moves n in
      let same = same_count s.state.records in (
        (
          present_moved (fit_standing core k) (K2 n) Anywhere m (λ e ok here. here) s.state tt b.0,
          contexts_moved (fit_standing core k) (K2 n) Anywhere m (λ e ok here. here) s.state.callers (oks s.state.callers) b.1,
          record {
            inside = tt;
            generators_at = generators_moved (fit_standing core k) (K2 n) Anywhere m s.state.store.generators (saved_oks n s.state.store.generators) b.2.generators_at;
            records_fit = records_same s.state.records b.2.records_fit;
            shapes = omega arith;
            closures_at = closures_same s.state.closures b.2.closures_at;
            ahead_at = ahead_same s.state.ahead b.2.ahead_at;
          },
        ),
        control_moved (fit_standing core k) (K2 n) Anywhere m s.state.context.environment (floor_of s.state.context.frames) s.control tt at,
      )
    where
      bindings_same : (bs : EnvironmentRecord Mark) → AllOf (BindingFits (fit_standing core k)) bs → AllOf (BindingFits (K2 (count s))) bs
      bindings_same [] all = tt
      bindings_same (b ∷ bs) (here, all) = (here, bindings_same bs all)

      records_same : (rs : List (EnvironmentRecord Mark)) → RecordsFit (fit_standing core k) rs → RecordsFit (K2 (count s)) rs
      records_same [] all = tt
      records_same (r ∷ rs) (here, all) = (bindings_same r here, records_same rs all)

      closures_same : (cs : List (Closure Own)) → AllOf (ClosureAt (fit_standing core k)) cs → AllOf (ClosureAt (K2 (count s))) cs
      closures_same [] all = tt
      closures_same (c ∷ cs) (here, all) = (here, closures_same cs all)

      ahead_same : (bs : List (List CoreStat)) → AllOf (BodyAt (fit_standing core k)) bs → AllOf (BodyAt (K2 (count s))) bs
      ahead_same [] all = tt
      ahead_same (x ∷ bs) (here, all) = (here, ahead_same bs all)

  -- no step leaves fewer records
  keeps_count : (s v : Config) → Fitting s → core_step core s ≡ Goes v → count s ≤ count v
  keeps_count s v fits is =
      let n = count s in
      let next : Everywhere (K2 n) v = subst (λ m. NextAt (K2 n) m) is (fit_step core k (AtLeast n) (at_least n) fitting uncelled undeclared s (counted s fits)) in
      let same = same_count v.state.records in
      let at : n ≤ length (map names_in v.state.records) = next.0.2.shapes in
      omega arith

  pub goes_fitting : (s v : Config) → Fitting s → core_step core s ≡ Goes v → Fitting v
  goes_fitting s v fits is = subst (λ m. NextAt (fit_standing core k) m) is (fit_step core k any_shapes (λ bound xs at. tt) fitting uncelled undeclared s fits)

  keeps_along : (n : ℕ) (s v : Config) → Reaches (core_step core) n s v → Fitting s → count s ≤ count v
  keeps_along zero s v way fits = subst (λ a. count s ≤ count a) way (omega arith)
  keeps_along (suc n) s v (u, is, way) fits =
      let first = keeps_count s u fits is in
      let others = keeps_along n u v way (goes_fitting s u fits is) in
      omega arith

  pub more_count : (s v : Config) → MakesRecord core s.state s.control → core_step core s ≡ Goes v → suc (count s) ≤ count v
  more_count s v makes is = subst (λ m. Leaves1 (suc (count s)) m) is (control_more core undeclared s.state s.control makes)

  -- nor does one that asks make a record
  pub asks_none : (s : Config) (e : Event) (follow : Reply → Config) → MakesRecord core s.state s.control → core_step core s ≡ Asks e follow → ⊥
  asks_none s e follow makes is = subst (λ m. Leaves1 (suc (count s)) m) is (control_more core undeclared s.state s.control makes)

  pub asks_stay : (s : Config) (e : Event) (follow : Reply → Config) (a : Reply) → core_step core s ≡ Asks e follow → Everywhere K s → Everywhere K (follow a)
  asks_stay s e follow a is all =
      let next : NextAt K (Asks e follow) = subst (λ m. NextAt K m) is (floors_stay core K place s (none_anew core K s.state s.control (λ makes. asks_none s e follow makes is)) all) in
      next a

  -- Where no record is made on the way, all code goes on to stand where it may.
  pub stays_along : (n : ℕ) (s v : Config) → Reaches (core_step core) n s v → count v ≤ count s → Fitting s → Everywhere K s → Everywhere K v
  stays_along zero s v way few fits all = subst (λ a. Everywhere K a) way all
  stays_along (suc n) s v (u, is, way) few fits all =
      let goes : Fitting u = goes_fitting s u fits is in
      let others = keeps_along n u v way goes in
      let first = keeps_count s u fits is in
      let none : MakesRecord core s.state s.control → ⊥ = λ makes. (let more = more_count s u makes is in absurd (omega arith)) in
      let next : Everywhere K u = subst (λ m. NextAt K m) is (floors_stay core K place s (none_anew core K s.state s.control none) all) in
      stays_along n u v way (omega arith) goes next
