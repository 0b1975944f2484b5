-- The code of a core that fits does so wherever its run comes to.
use Rattle.std.proofs.Common.{◌≡◌, ℕ, zero, suc, Bool, true, false, List, [], ◌∷◌, ◌++◌, map, Option, None, Some, slice_get, refl, subst}
use Rattle.std.specs.Prelude.{◌&&◌, cond, not}
use Rattle.std.proofs.lemmas.Bool.{and_parts}
use Rattle.runs.specs.Simulation.{Reaches}
use Rattle.es_value.specs.declared.value.Value.{Value}
use Rattle.es_value.specs.declared.value.Value.TheVariants as value
use Rattle.core_ast.specs.declared.parts.CoreHead.{CoreHead}
use Rattle.core_ast.specs.declared.parts.CoreHead.TheVariants as head
use Rattle.core_ast.specs.declared.parts.FunctionId.{FunctionId}
use Rattle.core_ast.specs.declared.parts.ScopedName.{ScopedName}
use Rattle.core_ast.specs.declared.parts.Var.{Var}
use Rattle.core_ast.specs.declared.tree.CoreCase.{CoreCase}
use Rattle.core_ast.specs.declared.tree.CoreExpr.{CoreExpr, out-CoreExpr}
use Rattle.core_ast.specs.declared.tree.CoreLink.{CoreLink}
use Rattle.core_ast.specs.declared.tree.CoreLink.TheOpen as layer
use Rattle.core_ast.specs.declared.tree.CoreLink.TheOpen.{CoreStat-F}
use Rattle.core_ast.specs.declared.tree.CoreStat.{CoreStat, out-CoreStat}
use Rattle.core_ast.specs.declared.whole.Core.{Core}
use Rattle.core_ast.specs.declared.whole.CoreFunction.{CoreFunction}
use Rattle.core_ast.specs.declared.whole.CorePart.{CorePart}
use Rattle.core_meaning.specs.Expressions.{function_at}
use Rattle.core_meaning.specs.Marks.{CoreState, CoreWork, Mark}
use Rattle.core_meaning.specs.Modules.{body_in, core_step, part_body, part_record, start}
use Rattle.core_meaning.specs.State.{Begin, Calls, Catching, Completion, Control, Done, Environment, Frame, Gives, Go, Hand, Jumps, Returns, Run, Throws, Turn, User}
use Rattle.pass_rules.specs.Cells.{is_among}
use Rattle.pass_rules.specs.Scopes.{vars}
use Rattle.pass_rules.proofs.pass_laws.Related.{in_stat}
use Rattle.cells_keep_runs.specs.Alike.{Config}
use Rattle.cells_keep_runs.specs.Fitting.{IsFitting, Naming, all_assign, are_some, fit_with, function_fits_in, functions_fit, is_marked, list_fits, may_assign, names_fit, own_fits, parts_fit, stat_step}
use Rattle.cells_keep_runs.specs.Floors.{AllOf, Anew, BindingFits, BodyAt, ControlAt, Everywhere, FramesAt, HandAnew, HeadAnew, ListAnew, NamesFit, NextAt, NoCells, Perhaps, RecordsFit, Standing, StatAnew, floor_of, names_in}
use Rattle.cells_keep_runs.proofs.Anew.{floors_stay}
use Rattle.cells_keep_runs.proofs.Fitted.{fitted, stat_fitting, test_fold}
use Rattle.cells_keep_runs.proofs.Floored.{St, all_joined, some_is}

-- no function is declared in another as in scripts
abbrev pub Undeclared : Core → Type 0
Undeclared core = (f : FunctionId) (function : CoreFunction) → function_at core f ≡ Some function → function.declared ≡ []

by_fixed : (fixed mutable : Bool) → cond fixed true mutable ≡ true → fixed ≡ false → mutable ≡ true
by_fixed true mutable is free = cc
by_fixed false mutable is free = is

-- a record more is as good
abbrev pub Grows : (List (List Var) → Type 0) → Type 0
Grows shapes = (bound : List (List Var)) (xs : List Var) → shapes bound → shapes (bound ++ xs ∷ [])

module _ (core : Core) (k : Naming) (shapes : List (List Var) → Type 0) (grows : Grows shapes) (fitting : IsFitting core k) (uncelled : NoCells core) (undeclared : Undeclared core) where
  abbrev K : Standing
  K = fit_with core k shapes

  -- the names of records are as they may be
  abbrev Shaped : CoreState → Type 0
  Shaped s = shapes (map names_in s.records)

  -- ---- names

  names_assign : (names : List ScopedName) → names_fit k names ≡ true → NamesFit K names
  names_assign [] is = tt
  names_assign (n ∷ names) is =
      let both = and_parts (is_marked k.owners n && may_assign k.fixed n) (not (is_among n.var (vars names)) && names_fit k names) is in
      let first = and_parts (is_marked k.owners n) (may_assign k.fixed n) both.0 in
      let more = and_parts (not (is_among n.var (vars names))) (names_fit k names) both.1 in
      (by_fixed (k.fixed n.var) n.mutable first.1, names_assign names more.1)

  own_of : (o : Option Var) → own_fits k o ≡ true → Perhaps (λ (x : Var). k.fixed x ≡ true) o
  own_of None is = tt
  own_of (Some x) is = is

  -- ---- what makes a record

  head_anew : (s : CoreState) (h : CoreHead) → Shaped s → HeadAnew K s h
  head_anew s (head.Copy xs) shaped = record {
    stats = λ own xs is. is;
    expr = λ w in_scope x is. is;
    links = λ w ls is. is;
    inside = tt;
    leads = λ o leads. tt;
    more = grows (map names_in s.records) _ shaped;
  }
  head_anew s h shaped = tt

  stat_anew : (s : CoreState) → Shaped s → (y : CoreStat-F CoreLink CoreStat CoreCase CoreExpr) (own : Bool) → stat_step k (in_stat (test_fold core k shapes) y) own ≡ true → StatAnew K s y
  stat_anew s shaped (layer.Scoped names body) own is =
      let both = and_parts (are_some names) (names_fit k names && list_fits core k body true) is in
      let more = and_parts (names_fit k names) (list_fits core k body true) both.1 in
      record { body_at = more.1; inside = tt; leads = tt; names_fit = names_assign names more.0; more = grows (map names_in s.records) _ shaped }
  stat_anew s shaped y own is = tt

  list_anew : (s : CoreState) → Shaped s → (xs : List CoreStat) (own : Bool) → list_fits core k xs own ≡ true → ListAnew K s xs
  list_anew s shaped [] own is = tt
  list_anew s shaped (x ∷ xs) own is = stat_anew s shaped (out-CoreStat x) own (stat_fitting core k shapes x xs own is)

  thrown_anew : (s : CoreState) → Shaped s → (v : Value) (below : Environment → Type 0) (fs : List (Frame Mark CoreWork)) → FramesAt K below s.context.environment fs → HandAnew K s (Throws v) fs
  thrown_anew s shaped v below [] all = tt
  thrown_anew s shaped v below (Catching x names handler ∷ fs) all =
      let both = and_parts (names_fit k names) (not (is_among x (vars names)) && list_fits core k handler true) all.0.1 in
      let more = and_parts (not (is_among x (vars names))) (list_fits core k handler true) both.1 in
      record { body_at = more.1; inside = tt; leads = tt; names_fit = names_assign names both.0; more = grows (map names_in s.records) _ shaped }
  thrown_anew s shaped v below (f ∷ fs) all = tt

  hand_anew : (s : CoreState) → Shaped s → (c : Completion Mark) (below : Environment → Type 0) → FramesAt K below s.context.environment s.context.frames → HandAnew K s c s.context.frames
  hand_anew s shaped (Throws v) below all = thrown_anew s shaped v below s.context.frames all
  hand_anew s shaped (Gives v) below all = tt
  hand_anew s shaped Done below all = tt
  hand_anew s shaped (Returns v) below all = tt
  hand_anew s shaped (Jumps goes_on label) below all = tt

  functions_in : (fs : List CoreFunction) (n : ℕ) (f : CoreFunction) → functions_fit core k fs ≡ true → slice_get fs n ≡ Some f → function_fits_in core k f ≡ true
  functions_in [] n f is at = cc
  functions_in (g ∷ fs) zero f is at = subst (λ h. function_fits_in core k h ≡ true) (some_is g f at) (and_parts (function_fits_in core k g) (functions_fit core k fs) is).0
  functions_in (g ∷ fs) (suc n) f is at = functions_in fs n f (and_parts (function_fits_in core k g) (functions_fit core k fs) is).1 at

  anew : (s : CoreState) (c : Control Mark) → St core K s → ControlAt K s.context.environment (floor_of s.context.frames) c → Anew core K s c
  anew s (Begin x) b at = head_anew s (out-CoreExpr x).head b.2.shapes
  anew s (Go c links) b at = tt
  anew s (Run xs) b at = list_anew s b.2.shapes xs (floor_of s.context.frames).own at.1
  anew s (Turn site c) b at = tt
  anew s (Calls c) b at = λ r made.
      let f = r.function in
      let is : function_fits_in core k f ≡ true = functions_in core.functions r.closure.function.0 f fitting.0 r.function_is in
      let both = and_parts (own_fits k f.own) (list_fits core k f.setup false && list_fits core k f.body false) is in
      let more = and_parts (list_fits core k f.setup false) (list_fits core k f.body false) both.1 in
      record {
        undeclared = undeclared r.closure.function f r.function_is;
        own = own_of f.own both.0;
        setup = more.0;
        body = more.1;
        inside = tt;
        more = grows (map names_in s.records) _ b.2.shapes;
      }
  anew s (Hand c) b at = hand_anew s b.2.shapes c _ b.0

  -- ---- a run

  pub fit_step : (s : Config) → Everywhere K s → NextAt K (core_step core s)
  fit_step s all = floors_stay core K (fitted core k shapes uncelled) s (anew s.state s.control all.0 all.1) all

  pub fit_reaches : (n : ℕ) (s s2 : Config) → Reaches (core_step core) n s s2 → Everywhere K s → Everywhere K s2
  fit_reaches zero s s2 way all = subst (λ a. Everywhere K a) way all
  fit_reaches (suc n) s s2 (v, is, way) all = fit_reaches n v s2 way (subst (λ m. NextAt K m) is (fit_step s all))

  -- ---- its beginning

  part_names : (names : List ScopedName) → all_assign k names ≡ true → AllOf (BindingFits K) (map (λ (n : ScopedName). record { var = n.var; value = User value.Undefined; mutable = n.mutable }) names)
  part_names [] is = tt
  part_names (n ∷ names) is =
      let both = and_parts (may_assign k.fixed n) (all_assign k names) is in
      ((tt, by_fixed (k.fixed n.var) n.mutable both.0), part_names names both.1)

  -- what fits of a module
  abbrev PartFits : CorePart → Type 0
  PartFits p = (all_assign k p.names ≡ true) × (list_fits core k p.instantiate false ≡ true) × (list_fits core k p.body false ≡ true)

  part_of : (p : CorePart) (ps : List CorePart) → parts_fit core k (p ∷ ps) ≡ true → PartFits p × (parts_fit core k ps ≡ true)
  part_of p ps is =
      let both = and_parts (all_assign k p.names && (list_fits core k p.instantiate false && list_fits core k p.body false)) (parts_fit core k ps) is in
      let first = and_parts (all_assign k p.names) (list_fits core k p.instantiate false && list_fits core k p.body false) both.0 in
      let more = and_parts (list_fits core k p.instantiate false) (list_fits core k p.body false) first.1 in
      ((first.0, more.0, more.1), both.1)

  parts_records : (ps : List CorePart) → parts_fit core k ps ≡ true → RecordsFit K (map part_record ps)
  parts_records [] is = tt
  parts_records (p ∷ ps) is = (part_names p.names (part_of p ps is).0.0, parts_records ps (part_of p ps is).1)

  instantiated : (ps : List CorePart) → parts_fit core k ps ≡ true → AllOf (BodyAt K) (map (λ (p : CorePart). p.instantiate) ps)
  instantiated [] is = tt
  instantiated (p ∷ ps) is = (λ e out. (part_of p ps is).0.1, instantiated ps (part_of p ps is).1)

  body_of : (ps : List CorePart) (n : ℕ) → parts_fit core k ps ≡ true → list_fits core k (body_in (slice_get ps n)) false ≡ true
  body_of [] n is = refl
  body_of (p ∷ ps) zero is = (part_of p ps is).0.2
  body_of (p ∷ ps) (suc n) is = body_of ps n (part_of p ps is).1

  ordered : (order : List ℕ) → AllOf (BodyAt K) (map (part_body core) order)
  ordered [] = tt
  ordered (n ∷ order) = (λ e out. body_of core.parts n fitting.1, ordered order)

  pub fit_start : shapes (map names_in (map part_record core.parts)) → Everywhere K (start core)
  fit_start first = (
    (
      tt,
      tt,
      record {
        inside = tt;
        generators_at = tt;
        records_fit = parts_records core.parts fitting.1;
        shapes = first;
        closures_at = tt;
        ahead_at = all_joined (BodyAt K) (map (λ (p : CorePart). p.instantiate) core.parts) (map (part_body core) core.order) (instantiated core.parts fitting.1) (ordered core.order);
      },
    ),
    tt,
  )
