-- How code goes on to stand where it may along the course of the two runs, by seats and by the names of records.
use Rattle.std.proofs.Common.{◌≡◌, ◌≤◌, ◌⊎◌, inl, inr, ℕ, suc, Bool, List, [], ◌∷◌, map, length, refl, sym, subst, ap, arith}
use Rattle.runs.specs.Run.{Asks}
use Rattle.runs.specs.Simulation.{Reaches}
use Rattle.es_outside.specs.declared.events.Event.{Event}
use Rattle.es_outside.specs.declared.host.Reply.{Reply}
use Rattle.core_ast.specs.declared.parts.Var.{Var}
use Rattle.core_ast.specs.declared.parts.CoreHead.{CoreHead}
use Rattle.core_ast.specs.declared.parts.CoreHead.TheVariants as head
use Rattle.core_ast.specs.declared.parts.CoreOp.{CoreOp}
use Rattle.core_ast.specs.declared.parts.CoreOp.TheVariants as op
use Rattle.core_ast.specs.declared.parts.Primitive.TheVariants as primitive
use Rattle.core_ast.specs.declared.tree.CoreCase.{CoreCase}
use Rattle.core_ast.specs.declared.tree.CoreExpr.{CoreExpr, out-CoreExpr}
use Rattle.core_ast.specs.declared.tree.CoreLink.{CoreLink, out-CoreLink}
use Rattle.core_ast.specs.declared.tree.CoreLink.TheOpen as layer
use Rattle.core_ast.specs.declared.tree.CoreLink.TheOpen.{CoreLink-F, CoreStat-F}
use Rattle.core_ast.specs.declared.tree.CoreStat.{CoreStat, out-CoreStat}
use Rattle.core_ast.specs.declared.whole.Core.{Core}
use Rattle.core_meaning.specs.Marks.{AtStart, AtYield, Completed, CoreWork, Executing, Generator, Mark, Own}
use Rattle.core_meaning.specs.Modules.{core_step}
use Rattle.core_meaning.specs.State.{Closure, Context, Environment, EnvironmentRecord}
use Rattle.cells_keep_runs.specs.Alike.{Config}
use Rattle.cells_keep_runs.specs.Fitting.{IsFitting, Naming, fit_standing}
use Rattle.cells_keep_runs.specs.Floors.{AllOf, Anew, BindingFits, BodyAt, ClosureAt, Everywhere, HeadAt, LinkAt, NextAt, NoCells, OpAt, Placed, RecordsFit, StatAt, Standing, Wanted, floor_of, names_in, wanted_along}
use Rattle.cells_keep_runs.specs.Memory.{Seats}
use Rattle.cells_keep_runs.proofs.Anew.{floors_stay}
use Rattle.cells_keep_runs.proofs.Both.{both}
use Rattle.cells_keep_runs.proofs.FitRuns.{Undeclared}
use Rattle.cells_keep_runs.proofs.Lasting.{MakesRecord, asks_stay, goes_fitting, more_count, stays_along}
use Rattle.cells_keep_runs.proofs.Moved.{Moves, SavedOk, contexts_moved, control_moved, generators_moved, present_moved}

-- the same, where records may have such names
abbrev pub with_shapes : Standing → (List (List Var) → Type 0) → Standing
with_shapes A shapes = record {
  stats = A.stats;
  expr = A.expr;
  links = A.links;
  handler = A.handler;
  unmade = A.unmade;
  makes = A.makes;
  inside = A.inside;
  leads = A.leads;
  outermost = A.outermost;
  shapes = shapes;
  fixed = A.fixed;
}

abbrev Anywhere : Environment → Type 0
Anywhere e = Unit {0}

-- ---- other names of records

module _ (A : Standing) (one two : List (List Var) → Type 0) where
  abbrev K1 : Standing
  K1 = with_shapes A one

  abbrev K2 : Standing
  K2 = with_shapes A two

  same : Moves K1 K2 Anywhere
  same = record {
    stats = λ e own xs ok at. at;
    expr = λ e w in_scope x ok at. at;
    links = λ e w ls ok at. at;
    handler = λ e h ok at. at;
    unmade = λ e f ok at. at;
    leads = λ e o ok at. at;
    inside = λ e ok at. at;
    back = λ e o leads ok. tt;
  }

  oks : (ks : List (Context Mark Own CoreWork)) → AllOf (λ (c : Context Mark Own CoreWork). Anywhere c.environment) ks
  oks [] = tt
  oks (c ∷ ks) = (tt, oks ks)

  saved_oks : (gs : List Generator) → AllOf (SavedOk K1 K2 Anywhere same) gs
  saved_oks [] = tt
  saved_oks (AtStart c ∷ gs) = (tt, saved_oks gs)
  saved_oks (AtYield c ∷ gs) = (tt, saved_oks gs)
  saved_oks (Executing ∷ gs) = (tt, saved_oks gs)
  saved_oks (Completed ∷ gs) = (tt, saved_oks gs)

  bindings_same : (bs : EnvironmentRecord Mark) → AllOf (BindingFits K1) bs → AllOf (BindingFits K2) bs
  bindings_same [] all = tt
  bindings_same (b ∷ bs) (here, all) = (here, bindings_same bs all)

  records_same : (rs : List (EnvironmentRecord Mark)) → RecordsFit K1 rs → RecordsFit K2 rs
  records_same [] all = tt
  records_same (r ∷ rs) (here, all) = (bindings_same r here, records_same rs all)

  closures_same : (cs : List (Closure Own)) → AllOf (ClosureAt K1) cs → AllOf (ClosureAt K2) cs
  closures_same [] all = tt
  closures_same (c ∷ cs) (here, all) = (here, closures_same cs all)

  ahead_same : (bs : List (List CoreStat)) → AllOf (BodyAt K1) bs → AllOf (BodyAt K2) bs
  ahead_same [] all = tt
  ahead_same (x ∷ bs) (here, all) = (here, ahead_same bs all)

  pub reshaped : (s : Config) → two (map names_in s.state.records) → Everywhere K1 s → Everywhere K2 s
  reshaped s shapes (b, at) = (
    (
      present_moved K1 K2 Anywhere same (λ e ok here. here) s.state tt b.0,
      contexts_moved K1 K2 Anywhere same (λ e ok here. here) s.state.callers (oks s.state.callers) b.1,
      record {
        inside = b.2.inside;
        generators_at = generators_moved K1 K2 Anywhere same s.state.store.generators (saved_oks s.state.store.generators) b.2.generators_at;
        records_fit = records_same s.state.records b.2.records_fit;
        shapes = shapes;
        closures_at = closures_same s.state.closures b.2.closures_at;
        ahead_at = ahead_same s.state.ahead b.2.ahead_at;
      },
    ),
    control_moved K1 K2 Anywhere same s.state.context.environment (floor_of s.state.context.frames) s.control tt at,
  )

-- ---- code stands where it may, whatever the names of records

module _ (core : Core) (A : Standing) (shapes : List (List Var) → Type 0) (place : Placed core A) where
  abbrev K3 : Standing
  K3 = with_shapes A shapes

  stat_same : (e : Environment) (own : Bool) (y : CoreStat-F CoreLink CoreStat CoreCase CoreExpr) → StatAt A e own y → StatAt K3 e own y
  stat_same e own (layer.Do x) at = at
  stat_same e own (layer.If cases) at = at
  stat_same e own (layer.Switch subject cases) at = at
  stat_same e own (layer.Loop labels test update body) at = at
  stat_same e own (layer.Labelled label body) at = at
  stat_same e own (layer.Jump goes_on label) at = at
  stat_same e own (layer.Return x) at = at
  stat_same e own (layer.Throw x) at = at
  stat_same e own (layer.TryCatch block x names handler) at = at
  stat_same e own (layer.TryFinally block last) at = at
  stat_same e own (layer.Scoped names body) at = at
  stat_same e own (layer.Yield value kind result) at = at

  head_same : (e : Environment) (w : Wanted) (c : Bool) (h : CoreHead) → HeadAt A core e w c h → HeadAt K3 core e w c h
  head_same e w c (head.Function f) at = at
  head_same e w c head.ArgumentList at = at
  head_same e w c (head.Primitive primitive.GeneratorMake) at = at
  head_same e w c (head.Primitive q) at = tt
  head_same e w c (head.Copy xs) at = at
  head_same e w c h at = tt

  op_same : (o : CoreOp) (parts : List CoreExpr) → OpAt A o parts → OpAt K3 o parts
  op_same (op.Set x) parts at = at
  op_same (op.Init x) parts at = at
  op_same o parts at = at

  link_same : (e : Environment) (w : Wanted) (y : CoreLink-F CoreLink CoreStat CoreCase CoreExpr) → LinkAt A e w y → LinkAt K3 e w y
  link_same e w (layer.Strict o parts site) (at, all) = (op_same o parts at, all)
  link_same e w (layer.Lazy when taken other) at = at
  link_same e w (layer.Run body) at = at

  pub placed_with_shapes : Placed core K3
  placed_with_shapes = record {
    uncelled = place.uncelled;
    made = place.made;
    none = place.none;
    back = place.back;
    joined = place.joined;
    rest = place.rest;
    stat = λ e own x xs at. stat_same e own (out-CoreStat x) (place.stat e own x xs at);
    head = λ e w c x at. head_same e (wanted_along (out-CoreExpr x).links w) c (out-CoreExpr x).head (place.head e w c x at);
    links = place.links;
    further = place.further;
    link = λ e w l ls at. link_same e (wanted_along ls w) (out-CoreLink l) (place.link e w l ls at);
  }

-- ---- along the course

-- the names of the records of a configuration
abbrev pub bound_in : Config → List (List Var)
bound_in s = map names_in s.state.records

abbrev pub Exactly : List (List Var) → List (List Var) → Type 0
Exactly bound names = names ≡ bound

abbrev pub OneOf : List (List Var) → List (List Var) → List (List Var) → Type 0
OneOf bound bound2 names = (names ≡ bound) ⊎ (names ≡ bound2)

-- the standing of names, by seats and by the names of records, beside that of code that fits
abbrev pub beside : (Seats → List (List Var) → Standing) → Core → Naming → Seats → List (List Var) → (List (List Var) → Type 0) → Standing
beside N core k seats bound shapes = with_shapes (both (N seats bound) (fit_standing core k)) shapes

abbrev pub Stands : (Seats → List (List Var) → Standing) → Core → Naming → Seats → Config → Type 0
Stands N core k seats s = Everywhere (beside N core k seats (bound_in s) (Exactly (bound_in s))) s

module _ (core : Core) (k : Naming) (fitting : IsFitting core k) (uncelled : NoCells core) (undeclared : Undeclared core) (N : Seats → List (List Var) → Standing)
    (placed : (seats : Seats) (bound : List (List Var)) (shapes : List (List Var) → Type 0) → Placed core (beside N core k seats bound shapes)) where
  abbrev count : Config → ℕ
  count s = length s.state.records

  abbrev Fitting : Config → Type 0
  Fitting s = Everywhere (fit_standing core k) s

  abbrev Here : Seats → Config → Type 0
  Here seats s = Stands N core k seats s

  -- the names are those of the records
  named : (seats : Seats) (bound : List (List Var)) (s : Config) → bound_in s ≡ bound → Everywhere (beside N core k seats bound (Exactly bound)) s → Here seats s
  named seats bound s is all = subst (λ names. Everywhere (beside N core k seats names (Exactly names)) s) (sym is) all

  -- Steps that make no record leave all code where it may stand,
  pub quiet : (seats : Seats) (n : ℕ) (s s2 : Config) → Reaches (core_step core) n s s2 → count s2 ≤ count s → Fitting s → Here seats s → Here seats s2
  quiet seats n s s2 way few fits all =
      let bound = bound_in s in
      let next : Everywhere (beside N core k seats bound (Exactly bound)) s2 =
      stays_along core k fitting uncelled undeclared (beside N core k seats bound (Exactly bound)) (placed seats bound (Exactly bound)) n s s2 way few fits all in
      named seats bound s2 next.0.2.shapes next

  -- and so do those that ask,
  pub asked : (seats : Seats) (s : Config) (e : Event) (follow : Reply → Config) (a : Reply) → core_step core s ≡ Asks e follow → Here seats s → Here seats (follow a)
  asked seats s e follow a is all =
      let bound = bound_in s in
      let K = beside N core k seats bound (Exactly bound) in
      let next : Everywhere K (follow a) = asks_stay core k fitting uncelled undeclared K (placed seats bound (Exactly bound)) s e follow a is all in
      named seats bound (follow a) next.0.2.shapes next

  same_length : (rs : List (EnvironmentRecord Mark)) → length (map names_in rs) ≡ length rs
  same_length [] = refl
  same_length (r ∷ rs) = ap (λ n. suc n) (same_length rs)

  either_length : (bound bound2 : List (List Var)) (s : Config) → length bound2 ≡ suc (length bound) → count s ≡ suc (length bound) → OneOf bound bound2 (bound_in s) → bound_in s ≡ bound2
  either_length bound bound2 s longer more (inl is) = let same = same_length s.state.records in let length_is = ap (λ names. length names) is in absurd (omega arith)
  either_length bound bound2 s longer more (inr is) = is

  -- and steps of which the first makes one, if it may be made there, and code stands by the seats with its own.
  pub one_made : (seats2 : Seats) (bound2 : List (List Var)) (n : ℕ) (s s2 : Config) → Reaches (core_step core) (suc n) s s2 → MakesRecord core s.state s.control
      → count s2 ≡ suc (count s) → length bound2 ≡ suc (count s) → Fitting s
      → Everywhere (beside N core k seats2 bound2 (OneOf (bound_in s) bound2)) s → Anew core (beside N core k seats2 bound2 (OneOf (bound_in s) bound2)) s.state s.control
      → Here seats2 s2
  one_made seats2 bound2 n s s2 (v, is, way) makes more longer fits all anew =
      let K = beside N core k seats2 bound2 (OneOf (bound_in s) bound2) in
      let place : Placed core K = placed seats2 bound2 (OneOf (bound_in s) bound2) in
      let first : Everywhere K v = subst (λ m. NextAt K m) is (floors_stay core K place s anew all) in
      let grown = more_count core k fitting uncelled undeclared K place s v makes is in
      let fitting_there : Fitting v = goes_fitting core k fitting uncelled undeclared K place s v fits is in
      let next : Everywhere K s2 = stays_along core k fitting uncelled undeclared K place n v s2 way (omega arith) fitting_there first in
      let same = same_length s.state.records in
      let bound_is : bound_in s2 ≡ bound2 = either_length (bound_in s) bound2 s2 (omega arith) (omega arith) next.0.2.shapes in
      named seats2 bound2 s2 bound_is (reshaped (both (N seats2 bound2) (fit_standing core k)) (OneOf (bound_in s) bound2) (Exactly bound2) s2 bound_is next)
