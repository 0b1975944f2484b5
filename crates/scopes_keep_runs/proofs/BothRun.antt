-- The two runs, from what goes on along them.
use Rattle.std.proofs.Common.{◌≡◌, ◌<◌, ◌+◌, inl, inr, ℕ, zero, suc, Bool, List, [], ◌∷◌, ◌++◌, length, refl, sym, subst, arith}
use Rattle.runs.specs.Run.{run}
use Rattle.runs.specs.Same.{Same}
use Rattle.runs.specs.Simulation.{IsMatched, Rank, Reaches}
use Rattle.runs.proofs.Simulated.{simulated}
use Rattle.es_outside.specs.declared.events.Event.{Event}
use Rattle.es_value.specs.declared.value.Value.{Value}
use Rattle.core_ast.specs.Lawful.{IsLawful}
use Rattle.core_ast.specs.declared.parts.ScopedName.{ScopedName}
use Rattle.core_ast.specs.declared.parts.Var.{Var}
use Rattle.core_ast.specs.declared.tree.CoreStat.{CoreStat}
use Rattle.core_ast.specs.declared.whole.Core.{Core}
use Rattle.core_meaning.specs.Marks.{CoreNext, CoreWork, Mark}
use Rattle.core_meaning.specs.Modules.{core_step, runc, start}
use Rattle.core_meaning.specs.State.{Catching, Completion, Control, Frame, Hand, Throws}
use Rattle.pass_rules.specs.Scopes.{without_scopes}
use Rattle.cells_keep_runs.specs.Alike.{Config}
use Rattle.cells_keep_runs.specs.Course.{StepMatched, alone, asks, ends, leaves, measure, no_more, together}
use Rattle.cells_keep_runs.specs.Fitting.{IsFitting, any_shapes}
use Rattle.cells_keep_runs.specs.Kept.{NoneKept, first_seats, kept_of}
use Rattle.cells_keep_runs.specs.KeptFound.{naming}
use Rattle.cells_keep_runs.specs.Memory.{Seats}
use Rattle.cells_keep_runs.specs.Owed.{ReadyOrLeaves}
use Rattle.cells_keep_runs.specs.Places.{Below}
use Rattle.cells_keep_runs.specs.Related.{Related, at_copy, at_exit, at_expression, at_links, at_same, at_statements, past_cells}
use Rattle.cells_keep_runs.specs.Started.{owners_of}
use Rattle.cells_keep_runs.proofs.Apart.{functions_apart, kept_foreign, modules_apart, none_declared}
use Rattle.cells_keep_runs.proofs.Assembled.{seated}
use Rattle.cells_keep_runs.proofs.FitRuns.{Undeclared, fit_start}
use Rattle.cells_keep_runs.proofs.FunctionKinds.{functions_flattened, kinds_stay}
use Rattle.cells_keep_runs.proofs.Matched.{steps_matched}
use Rattle.cells_keep_runs.proofs.Readying.{fitting_ready}
use Rattle.cells_keep_runs.proofs.Started.{beginnings}
use Rattle.scopes_keep_runs.proofs.Instance.{Catches, GoesOn, HandlerMatched}
use Rattle.scopes_keep_runs.proofs.NamesMay.{NamesMay}
use Rattle.scopes_keep_runs.proofs.Onward.{Good, good_answered, good_behind, good_caught}
use Rattle.scopes_keep_runs.proofs.Outset.{stands_first}
use Rattle.scopes_keep_runs.proofs.PlacedBy.{found_by}
use Rattle.scopes_keep_runs.proofs.SeatsKeep.{parts_keep}

-- ---- whether a handler takes a throw

data Caught (c : Control Mark) (fs : List (Frame Mark CoreWork)) : Type 0 where
  caught : (v : Value) (x : Var) (names : List ScopedName) (handler : List CoreStat) (below : List (Frame Mark CoreWork)) → c ≡ Hand (Throws v) → fs ≡ Catching x names handler ∷ below → Caught c fs
  uncaught : (Catches c fs → ⊥) → Caught c fs

hand_caught : (c : Completion Mark) (fs : List (Frame Mark CoreWork)) → Caught (Hand c) fs
hand_caught (Throws v) [] = uncaught (λ h. h)
hand_caught (Throws v) (Catching x names handler ∷ fs) = caught v x names handler fs refl refl
hand_caught (Throws v) (f ∷ fs) = uncaught (λ h. h)
hand_caught c fs = uncaught (λ h. h)

is_caught : (c : Control Mark) (fs : List (Frame Mark CoreWork)) → Caught c fs
is_caught (Hand c) fs = hand_caught c fs
is_caught c fs = uncaught (λ h. h)

-- the environment of related configurations has records
below_by : (owners : List ℕ) (seats : Seats) (s t : Config) → Related owners seats s t → Below (length seats) s.state.context.environment
below_by owners seats s t (at_same c bare stand frames) = stand.below
below_by owners seats s t (at_copy n drops stand frames) = stand.below
below_by owners seats s t (at_expression x stand frames) = stand.below
below_by owners seats s t (at_links ls currents stand below) = stand.below
below_by owners seats s t (at_statements xs stand below) = stand.below
below_by owners seats s t (at_exit c early stand below) = stand.below
below_by owners seats s t (past_cells c ls early stand below) = stand.below

module _ (core : Core) (fixed : Var → Bool) (lawful : IsLawful core) (none_kept : NoneKept core) (fitting : IsFitting core (naming core fixed)) (may : NamesMay core) (C : Seats → Config → Type 0) (goes : GoesOn core fixed C) where
  abbrev core2 : Core
  core2 = without_scopes core

  abbrev owners : List ℕ
  owners = owners_of core

  abbrev All : Seats → Config → Config → Type 0
  All seats s t = Good core fixed lawful none_kept fitting C goes seats s t

  -- some steps before a configuration of the source that goes with the target's
  record Side (s t : Config) : Type 0 where
    seats : Seats
    ahead : Config
    steps : ℕ
    way : Reaches (core_step core) steps s ahead
    good : All seats ahead t

  abbrev rank : Rank Side
  rank s t side = side.steps + measure side.ahead

  abbrev Matches : ℕ → CoreNext → Config → Type 0
  Matches r n t = IsMatched (core_step core2) Side (λ (e f : Event). e ≡ f) rank r n t

  here : (seats : Seats) (s t : Config) → All seats s t → Side s t
  here seats s t good = record { seats = seats; ahead = s; steps = 0; way = refl; good = good }

  -- ---- a step

  by_step : (seats : Seats) (s t : Config) → All seats s t → (Catches s.control s.state.context.frames → ⊥) → StepMatched core core2 (kept_of core) owners seats s t → Matches (measure s) (core_step core s) t
  by_step seats s t good free (together k j s2 t2 (v, is, way) way2 (seats2, new, related)) =
      let side : Side v t2 = record { seats = seats2; ahead = s2; steps = k; way = way; good = good_behind core fixed lawful none_kept fitting C goes seats seats2 s t s2 t2 k good free (v, is, way) new related } in
      subst (λ n. Matches (measure s) n t) (sym is) (suc j, t2, way2, side, λ none. absurd (omega arith))
  by_step seats s t good free (alone k s2 (v, is, way) falls related) =
      let side : Side v t = record { seats = seats; ahead = s2; steps = k; way = way; good = good_behind core fixed lawful none_kept fitting C goes seats seats s t s2 t k good free (v, is, way) no_more related } in
      subst (λ n. Matches (measure s) n t) (sym is) (0, t, refl, side, λ none. falls)
  by_step seats s t good free (asks j u e follow follow2 is way is2 next) =
      subst (λ n. Matches (measure s) n t) (sym is)
      (j, u, e, follow2, way, is2, refl, λ a. here (next a).0 (follow a) (follow2 a) (good_answered core fixed lawful none_kept fitting C goes seats (next a).0 s t (follow2 a) e follow a good is (next a).1 (next a).2))
  by_step seats s t good free (ends j u ending is way is2) = subst (λ n. Matches (measure s) n t) (sym is) (j, u, way, is2)
  by_step seats s t good free (leaves exit is) = subst (λ n. Matches (measure s) n t) (sym is) tt

  by_ready : (seats : Seats) (s t : Config) → Related owners seats s t → ReadyOrLeaves core (kept_of core) owners seats s → StepMatched core core2 (kept_of core) owners seats s t
  by_ready seats s t related (inl at) = steps_matched core core2 (kept_of core) owners seats s t (functions_flattened core) (λ f function at. record { undeclared = none_declared core f function lawful at; names = functions_apart core f function lawful at; others = (none_kept f function at, λ x among. kept_foreign core f x among) }) (kinds_stay core) related at
  by_ready seats s t related (inr (exit, is)) = leaves exit is

  -- a handler takes a throw, or the step is matched
  by_control : (seats : Seats) (s t : Config) → All seats s t → Caught s.control s.state.context.frames → Matches (measure s) (core_step core s) t
  by_control seats s t good (caught v x names handler fs is frames_are) =
      let h : HandlerMatched core fixed C seats s t = goes.caught seats s t v x names handler fs good.related is frames_are good.fits good.at good.counts in
      let next = good_caught core fixed lawful none_kept fitting C goes seats s t good h in
      subst (λ n. Matches (measure s) n t) (sym h.is) (suc h.steps, h.target, h.way, here (seats ++ h.new ∷ []) h.behind h.target next, λ none. absurd (omega arith))
  by_control seats s t good (uncaught free) =
      by_step seats s t good free (by_ready seats s t good.related (fitting_ready core (naming core fixed) (kept_of core) seats s good.fits (found_by core fixed may seats good.keeps s good.at)))

  matched_at : (s t : Config) (seats : Seats) (ahead : Config) (steps : ℕ) → Reaches (core_step core) steps s ahead → All seats ahead t → Matches (steps + measure ahead) (core_step core s) t
  matched_at s t seats ahead zero way good =
      let at : Matches (measure ahead) (core_step core ahead) t = by_control seats ahead t good (is_caught ahead.control ahead.state.context.frames) in
      let none : measure ahead ≡ 0 + measure ahead = omega arith in
      subst (λ a. Matches (0 + measure ahead) (core_step core a) t) (sym way) (subst (λ r. Matches r (core_step core ahead) t) none at)
  matched_at s t seats ahead (suc steps) (v, is, way) good =
      let side : Side v t = record { seats = seats; ahead = ahead; steps = steps; way = way; good = good } in
      let falls : steps + measure ahead < suc steps + measure ahead = omega arith in
      subst (λ n. Matches (suc steps + measure ahead) n t) (sym is) (0, t, refl, side, λ none. falls)

  both_run : (s t : Config) → Side s t → Same (λ (e f : Event). e ≡ f) (run (core_step core) s) (run (core_step core2) t)
  both_run s t side =
      simulated (core_step core) (core_step core2) Side (λ (e f : Event). e ≡ f) rank
      (record { matched = λ a b x. matched_at a b x.seats x.ahead x.steps x.way x.good }) s t side

  -- ---- the beginning

  undeclared : Undeclared core
  undeclared f function at = none_declared core f function lawful at

  started : Related owners (first_seats core) (start core) (start core2)
  started = beginnings core (kept_of core) (modules_apart core lawful)

  first_good : All (first_seats core) (start core) (start core2)
  first_good = record {
    related = started;
    fits = fit_start core (naming core fixed) any_shapes (λ bound xs at. tt) fitting none_kept undeclared tt;
    at = (stands_first core fixed none_kept fitting undeclared may (below_by owners (first_seats core) (start core) (start core2) started), seated owners (first_seats core) (start core) (start core2) started);
    counts = goes.first;
    keeps = parts_keep (kept_of core) owners 0 core.parts;
  }

  pub runs_go_on : Same (λ (e f : Event). e ≡ f) (runc core) (runc core2)
  runs_go_on = both_run (start core) (start core2) (here (first_seats core) (start core) (start core2) first_good)
