-- Scopes, copies and handlers go on along the two runs, and so do steps that make no record.
use Rattle.std.proofs.Common.{◌≡◌, ℕ, suc, Bool, true, false, List, [], ◌∷◌, ◌++◌, get_or, Some, length, slice_get, refl, sym, ap, arith, subst, ◌∙◌}
use Rattle.runs.specs.Run.{Goes}
use Rattle.es_value.specs.declared.value.Value.{Value}
use Rattle.core_ast.specs.Lawful.{IsLawful}
use Rattle.core_ast.specs.declared.parts.CoreHead.TheVariants as head
use Rattle.core_ast.specs.declared.parts.FunctionId.{FunctionId}
use Rattle.core_ast.specs.declared.parts.ScopedName.{ScopedName}
use Rattle.core_ast.specs.declared.parts.Var.{Var}
use Rattle.core_ast.specs.declared.tree.CoreExpr.{CoreExpr, out-CoreExpr}
use Rattle.core_ast.specs.declared.tree.CoreLink.TheOpen as layer
use Rattle.core_ast.specs.declared.tree.CoreStat.{CoreStat, out-CoreStat}
use Rattle.core_ast.specs.declared.whole.Core.{Core}
use Rattle.core_meaning.specs.Marks.{CoreState, CoreWork, Mark, Own}
use Rattle.core_meaning.specs.Modules.{core_step}
use Rattle.core_meaning.specs.Names.{record_at}
use Rattle.core_meaning.specs.Rows.{pushed, with_control, with_frames}
use Rattle.core_meaning.specs.State.{Begin, Call, Calls, Catching, Closure, Frame, Hand, Run, Throws}
use Rattle.pass_rules.specs.Cells.{is_among, is_shared}
use Rattle.pass_rules.specs.Scopes.{without_scopes}
use Rattle.cells_keep_runs.specs.Alike.{Config}
use Rattle.cells_keep_runs.specs.Callings.{outer_for}
use Rattle.cells_keep_runs.specs.Copied.{copied_seats}
use Rattle.cells_keep_runs.specs.Course.{NewSeats, a_call_more, a_copy_more, a_handler_more, a_scope_more, no_more}
use Rattle.cells_keep_runs.specs.Entered.{entered_seats}
use Rattle.cells_keep_runs.specs.Entries.{call_seat}
use Rattle.cells_keep_runs.specs.Fitting.{IsFitting, any_shapes, fit_standing}
use Rattle.cells_keep_runs.specs.Floors.{NoCells, Placed}
use Rattle.cells_keep_runs.specs.Found.{Bound}
use Rattle.cells_keep_runs.specs.Kept.{NoneKept, kept_of}
use Rattle.cells_keep_runs.specs.KeptFound.{naming}
use Rattle.cells_keep_runs.specs.MayBeFlattened.{whole_of}
use Rattle.cells_keep_runs.specs.Memory.{Seats}
use Rattle.cells_keep_runs.specs.Named.{call_names, scoped_names}
use Rattle.cells_keep_runs.specs.Ready.{ClosureCall, CopyReady, ScopeReady}
use Rattle.cells_keep_runs.specs.Related.{Related}
use Rattle.cells_keep_runs.specs.Rounds.{once}
use Rattle.cells_keep_runs.specs.Started.{owners_of}
use Rattle.cells_keep_runs.proofs.Apart.{none_declared}
use Rattle.cells_keep_runs.proofs.FitRuns.{Undeclared}
use Rattle.cells_keep_runs.proofs.Fitted.{fitted}
use Rattle.cells_keep_runs.proofs.Lasting.{MakesRecord, asks_none}
use Rattle.scopes_keep_runs.specs.Counts.{AllCounts, Single}
use Rattle.scopes_keep_runs.specs.Instance.{ends_of, known_of}
use Rattle.scopes_keep_runs.proofs.CallMade.{called}
use Rattle.scopes_keep_runs.proofs.CopyMade.{copy_counts, copy_stands, copy_step}
use Rattle.scopes_keep_runs.proofs.FirstCounts.{counts_first}
use Rattle.scopes_keep_runs.proofs.HandlerMade.{handler_counts, handler_stands, handler_step, ready}
use Rattle.scopes_keep_runs.proofs.HandlerTaken.{handler_taken}
use Rattle.scopes_keep_runs.proofs.Instance.{At, Catches, Fitting, GoesOn, HandlerMatched, StandsBy}
use Rattle.scopes_keep_runs.proofs.KeptNames.{captured, table_kept}
use Rattle.scopes_keep_runs.proofs.NamesMay.{NamesMay}
use Rattle.scopes_keep_runs.proofs.PlacedBy.{placed_by}
use Rattle.scopes_keep_runs.proofs.Quiet.{counts_asked, counts_quiet}
use Rattle.scopes_keep_runs.proofs.ScopeMade.{scope_counts, scope_stands, scope_step}
use Rattle.scopes_keep_runs.proofs.Singles.{fresh, fresh_single, once_single}
use Rattle.scopes_keep_runs.proofs.Stay.{standing_at}

module _ (core : Core) (fixed : Var → Bool) (uncelled : NoCells core)
    (placed : (seats : Seats) (bound : Bound) (shapes : List (List Var) → Type 0) → Placed core (standing_at core (known_of core) (ends_of core) (naming core fixed) seats bound shapes))
    (captured : (f : FunctionId) (x : Var) → is_among x (outer_for (whole_of core) f.0) ≡ true → is_among x (whole_of core).captured ≡ true)
    (table : (f : FunctionId) (x : Var) → is_among x (get_or (whole_of core).kept f.0 []) ≡ true → is_among x (kept_of core f) ≡ true)
    (single : (x : Var) → is_shared (whole_of core).owners x ≡ false → once (whole_of core) x ≡ true → Single core x) (fresh : Var) (fresh_single : Single core fresh) where
  abbrev C : Seats → Config → Type 0
  C seats s = AllCounts core (whole_of core) seats s

  -- where code stands, and what is left to declare
  abbrev Both : Seats → Config → Type 0
  Both seats v = StandsBy core fixed seats v × C seats v

  -- the step goes where it goes
  there : (seats : Seats) (s v w : Config) → core_step core s ≡ Goes w → core_step core s ≡ Goes v → Both seats w → Both seats v
  there seats s v w is is2 at = let same : Goes w ≡ Goes v = sym is ∙ is2 in let here : w ≡ v = cc in subst (λ z. Both seats z) here at

  scope_by : (seats : Seats) (s : CoreState) (t v : Config) (x : CoreStat) (xs body : List CoreStat) (names : List ScopedName) (r : ScopeReady (owners_of core) seats s names) (j : ℕ) → out-CoreStat x ≡ layer.Scoped names body
      → Related (owners_of core) seats (with_control (Run (x ∷ xs)) s) t → core_step core (with_control (Run (x ∷ xs)) s) ≡ Goes v → At core fixed seats (with_control (Run (x ∷ xs)) s) → C seats (with_control (Run (x ∷ xs)) s)
      → Both (entered_seats seats r.home names j) v
  scope_by seats s t v x xs body names r j out related is (all, long) counts =
      there (entered_seats seats r.home names j) (with_control (Run (x ∷ xs)) s) v _
      (scope_step core (known_of core) (ends_of core) (naming core fixed) placed single fresh fresh_single seats s t x xs body names r j out related long all counts) is (
        scope_stands core (known_of core) (ends_of core) (naming core fixed) placed single fresh fresh_single seats s t x xs body names r j out related long all counts,
        scope_counts core (known_of core) (ends_of core) (naming core fixed) placed single fresh fresh_single seats s t x xs body names r j out related long all counts,
      )

  copy_by : (seats : Seats) (s : CoreState) (t v : Config) (x : CoreExpr) (xs : List Var) (r : CopyReady (owners_of core) seats s xs (out-CoreExpr x).links) (j : ℕ) → (out-CoreExpr x).head ≡ head.Copy xs
      → Related (owners_of core) seats (with_control (Begin x) s) t → core_step core (with_control (Begin x) s) ≡ Goes v → At core fixed seats (with_control (Begin x) s) → C seats (with_control (Begin x) s)
      → Both (copied_seats (owners_of core) seats r.copyable.seat (record_at s.records r.number) xs j) v
  copy_by seats s t v x xs r j head_is related is (all, long) counts =
      there (copied_seats (owners_of core) seats r.copyable.seat (record_at s.records r.number) xs j) (with_control (Begin x) s) v _
      (copy_step core (known_of core) (ends_of core) (naming core fixed) captured table (fitted core (naming core fixed) any_shapes uncelled) fresh fresh_single seats s t x xs r.number r.outer r.copyable.seat j head_is r.innermost r.copyable.seated r.inside related long all counts) is (
        copy_stands core (known_of core) (ends_of core) (naming core fixed) captured table (fitted core (naming core fixed) any_shapes uncelled) fresh fresh_single seats s t x xs r.number r.outer r.copyable.seat j head_is r.innermost r.copyable.seated r.inside related long all counts,
        copy_counts core (known_of core) (ends_of core) (naming core fixed) captured table (fitted core (naming core fixed) any_shapes uncelled) fresh fresh_single seats s t x xs r.number r.outer r.copyable.seat j head_is r.innermost r.copyable.seated r.inside related long all counts,
      )

  module _ (called : (seats : Seats) (s t v : Config) (c : Call) (r : ClosureCall core c s.state) (behind : Closure Own) → s.control ≡ Calls c → slice_get t.state.closures r.number ≡ Some behind
      → Related (owners_of core) seats s t → core_step core s ≡ Goes v → Fitting core fixed s → At core fixed seats s → C seats s
      → Both (seats ++ call_seat (length t.state.records) (scoped_names r.function) (call_names r.function behind.own.cells) behind.own.cells ∷ []) v) where
    -- A step that makes a record, but for a handler's.
    pub made_by : (seats : Seats) (s t v : Config) (seats2 : Seats) → Related (owners_of core) seats s t → core_step core s ≡ Goes v → MakesRecord core s.state s.control → length seats2 ≡ suc (length seats)
        → (Catches s.control s.state.context.frames → ⊥) → NewSeats core (kept_of core) (owners_of core) seats s t seats2 → Fitting core fixed s → At core fixed seats s → C seats s → Both seats2 v
    made_by seats s t v seats2 related is makes longer free no_more fits at counts = absurd (omega arith)
    made_by seats s t v seats2 related is makes longer free (a_scope_more x xs body names r control out) fits at counts =
        let here : s ≡ with_control (Run (x ∷ xs)) s.state = ap (λ c. with_control c s.state) control in
        scope_by seats s.state t v x xs body names r (length t.state.store.cells) out (subst (λ z. Related (owners_of core) seats z t) here related) (subst (λ z. core_step core z ≡ Goes v) here is)
        (subst (λ z. At core fixed seats z) here at) (subst (λ z. C seats z) here counts)
    made_by seats s t v seats2 related is makes longer free (a_copy_more x xs r control head_is) fits at counts =
        let here : s ≡ with_control (Begin x) s.state = ap (λ c. with_control c s.state) control in
        copy_by seats s.state t v x xs r (length t.state.store.cells) head_is (subst (λ z. Related (owners_of core) seats z t) here related) (subst (λ z. core_step core z ≡ Goes v) here is)
        (subst (λ z. At core fixed seats z) here at) (subst (λ z. C seats z) here counts)
    made_by seats s t v seats2 related is makes longer free (a_call_more c r behind control got) fits at counts = called seats s t v c r behind control got related is fits at counts
    made_by seats s t v seats2 related is makes longer free (a_handler_more w x names handler fs r control frames) fits at counts =
        absurd (free (subst (λ d. Catches d s.state.context.frames) (sym control) (subst (λ gs. Catches (Hand (Throws w)) gs) (sym frames) tt)))

  -- ---- a handler

  caught_here : (seats : Seats) (s : CoreState) (t : Config) (v : Value) (x : Var) (names : List ScopedName) (handler : List CoreStat) → Related (owners_of core) seats (with_control (Hand (Throws v)) (pushed (Catching x names handler) s)) t
      → At core fixed seats (with_control (Hand (Throws v)) (pushed (Catching x names handler) s)) → C seats (with_control (Hand (Throws v)) (pushed (Catching x names handler) s))
      → HandlerMatched core fixed C seats (with_control (Hand (Throws v)) (pushed (Catching x names handler) s)) t
  caught_here seats s t v x names handler related (all, long) counts =
      let rd = ready core (known_of core) (ends_of core) (naming core fixed) refl (λ y. refl) placed single fresh fresh_single seats s t v x names handler related long all counts in
      let took = handler_taken core (without_scopes core) (owners_of core) seats v x names handler s.context.frames (with_control (Hand (Throws v)) (pushed (Catching x names handler) s)) t related refl refl rd in
      let i = took.image in
      let j = took.cell in
      record {
        new = _;
        behind = _;
        target = took.target;
        steps = took.steps;
        is = handler_step core (known_of core) (ends_of core) (naming core fixed) refl (λ y. refl) placed single fresh fresh_single seats s t v x names handler related long all counts i j;
        way = took.way;
        related = took.related;
        standing = handler_stands core (known_of core) (ends_of core) (naming core fixed) refl (λ y. refl) placed single fresh fresh_single seats s t v x names handler related long all counts i j;
        counts = handler_counts core (known_of core) (ends_of core) (naming core fixed) refl (λ y. refl) placed single fresh fresh_single seats s t v x names handler related long all counts i j;
        unkeeping = λ f y. refl;
      }

  pub caught_by : (seats : Seats) (s t : Config) (v : Value) (x : Var) (names : List ScopedName) (handler : List CoreStat) (fs : List (Frame Mark CoreWork)) → Related (owners_of core) seats s t
      → s.control ≡ Hand (Throws v) → s.state.context.frames ≡ Catching x names handler ∷ fs → Fitting core fixed s → At core fixed seats s → C seats s → HandlerMatched core fixed C seats s t
  caught_by seats s t v x names handler fs related control frames fits at counts =
      let first : s ≡ with_control (Hand (Throws v)) s.state = ap (λ c. with_control c s.state) control in
      let second : with_control (Hand (Throws v)) s.state ≡ with_control (Hand (Throws v)) (pushed (Catching x names handler) (with_frames fs s.state)) =
      ap (λ gs. with_control (Hand (Throws v)) (with_frames gs s.state)) frames in
      let here : s ≡ with_control (Hand (Throws v)) (pushed (Catching x names handler) (with_frames fs s.state)) = first ∙ second in
      subst (λ z. HandlerMatched core fixed C seats z t) (sym here)
      (caught_here seats (with_frames fs s.state) t v x names handler (subst (λ z. Related (owners_of core) seats z t) here related) (subst (λ z. At core fixed seats z) here at) (subst (λ z. C seats z) here counts))

-- All goes on along the two runs of a lawful core whose code fits and whose names may be flattened.
pub goes_on : (core : Core) (fixed : Var → Bool) → IsLawful core → NoneKept core → IsFitting core (naming core fixed) → NamesMay core → GoesOn core fixed (AllCounts core (whole_of core))
goes_on core fixed lawful none_kept fitting may = record {
  first = counts_first core;
  quiet = λ seats s v step none fits at counts. counts_quiet core fixed seats s at counts v step none;
  asked = λ seats s e follow reply step fits at counts.
      counts_asked core fixed seats s at counts e follow reply step
      (λ makes. asks_none core (naming core fixed) fitting none_kept undeclared (fit_standing core (naming core fixed)) (fitted core (naming core fixed) any_shapes none_kept) s e follow makes step);
  made = λ seats seats2 s t v related step makes longer free new fits at counts.
      made_by core fixed none_kept place (captured core) (table_kept core) single (fresh core (naming core fixed) fitting may) new_single (called core fixed lawful may fitting place) seats s t v seats2 related step makes longer free new fits at counts;
  caught = λ seats s t v x names handler fs related control frames fits at counts.
      caught_by core fixed none_kept place (captured core) (table_kept core) single (fresh core (naming core fixed) fitting may) new_single seats s t v x names handler fs related control frames fits at counts;
}
  where
    place : (seats : Seats) (bound : Bound) (shapes : List (List Var) → Type 0) → Placed core (standing_at core (known_of core) (ends_of core) (naming core fixed) seats bound shapes)
    place = placed_by core fixed none_kept

    undeclared : Undeclared core
    undeclared f function at = none_declared core f function lawful at

    single : (x : Var) → is_shared (whole_of core).owners x ≡ false → once (whole_of core) x ≡ true → Single core x
    single = once_single core (naming core fixed) fitting may

    new_single : Single core (fresh core (naming core fixed) fitting may)
    new_single = fresh_single core (naming core fixed) fitting may
