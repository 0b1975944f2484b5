-- The two runs, from matched steps.
use Rattle.std.proofs.Common.{◌≡◌, ◌<◌, ◌+◌, inl, inr, ℕ, zero, suc, List, refl, sym, subst, arith}
use Rattle.runs.specs.Run.{run}
use Rattle.runs.specs.Same.{Same}
use Rattle.runs.specs.Simulation.{IsMatched, Rank, Reaches}
use Rattle.runs.proofs.Simulated.{simulated}
use Rattle.es_outside.specs.declared.events.Event.{Event}
use Rattle.core_ast.specs.Lawful.{IsLawful}
use Rattle.core_ast.specs.declared.whole.Core.{Core}
use Rattle.core_meaning.specs.Marks.{CoreNext}
use Rattle.core_meaning.specs.Modules.{core_step, runc, start}
use Rattle.pass_rules.specs.Scopes.{without_scopes}
use Rattle.cells_keep_runs.specs.Alike.{Config}
use Rattle.cells_keep_runs.specs.Course.{StepMatched, alone, answered, asks, begun, ends, gone_on, leaves, measure, no_more, together}
use Rattle.cells_keep_runs.specs.Owed.{ReadyOrLeaves}
use Rattle.cells_keep_runs.specs.KeptFound.{AllReadyOrLeave}
use Rattle.cells_keep_runs.specs.Kept.{IsReached, NoneKept, RunsAreKept, first_seats, kept_of}
use Rattle.cells_keep_runs.specs.Memory.{Seats}
use Rattle.cells_keep_runs.specs.Related.{Related}
use Rattle.cells_keep_runs.specs.Started.{owners_of}
use Rattle.cells_keep_runs.proofs.Apart.{functions_apart, kept_foreign, modules_apart, none_declared}
use Rattle.cells_keep_runs.proofs.FunctionKinds.{functions_flattened, kinds_stay}
use Rattle.cells_keep_runs.proofs.Matched.{steps_matched}
use Rattle.cells_keep_runs.proofs.Started.{beginnings}

module _ (core : Core) (lawful : IsLawful core) (none_kept : NoneKept core) (ready : AllReadyOrLeave core) where
  abbrev core2 : Core
  core2 = without_scopes core

  abbrev owners : List ℕ
  owners = owners_of core

  -- some steps before a configuration of the source that is reached together with the target's
  record Side (s t : Config) : Type 0 where
    seats : Seats
    ahead : Config
    steps : ℕ
    way : Reaches (core_step core) steps s ahead
    reached : IsReached core seats ahead t
    related : Related owners seats ahead t

  abbrev rank : Rank Side
  rank s t side = side.steps + measure side.ahead

  abbrev Matches : ℕ → CoreNext → Config → Type 0
  Matches r n t = IsMatched (core_step core2) Side (λ (e f : Event). e ≡ f) rank r n t

  here : (seats : Seats) (s t : Config) → IsReached core seats s t → Related owners seats s t → Side s t
  here seats s t reached related = record { seats = seats; ahead = s; steps = 0; way = refl; reached = reached; related = related }

  -- at a reached pair
  by_step : (seats : Seats) (s t : Config) → IsReached core seats s t → StepMatched core core2 (kept_of core) owners seats s t → Matches (measure s) (core_step core s) t
  by_step seats s t reached (together k j s2 t2 (v, is, way) way2 (seats2, new, related)) =
      let side : Side v t2 = record { seats = seats2; ahead = s2; steps = k; way = way; reached = gone_on k (suc j) reached (v, is, way) way2 new related; related = related } in
      subst (λ n. Matches (measure s) n t) (sym is) (suc j, t2, way2, side, λ none. absurd (omega arith))
  by_step seats s t reached (alone k s2 (v, is, way) falls related) =
      let side : Side v t = record { seats = seats; ahead = s2; steps = k; way = way; reached = gone_on k 0 reached (v, is, way) refl no_more related; related = related } in
      subst (λ n. Matches (measure s) n t) (sym is) (0, t, refl, side, λ none. falls)
  by_step seats s t reached (asks j u e follow follow2 is way is2 goes) =
      subst (λ n. Matches (measure s) n t) (sym is)
      (j, u, e, follow2, way, is2, refl, λ a. here (goes a).0 (follow a) (follow2 a) (answered j u a reached is way is2 (goes a).1 (goes a).2) (goes a).2)
  by_step seats s t reached (ends j u ending is way is2) = subst (λ n. Matches (measure s) n t) (sym is) (j, u, way, is2)
  by_step seats s t reached (leaves exit is) = subst (λ n. Matches (measure s) n t) (sym is) tt

  -- a configuration that is ready, or whose step leaves
  ready_matched : (seats : Seats) (s t : Config) → Related owners seats s t → ReadyOrLeaves core (kept_of core) owners seats s → StepMatched core core2 (kept_of core) owners seats s t
  ready_matched seats ahead t related (inl at) = steps_matched core core2 (kept_of core) owners seats ahead t (functions_flattened core) (λ f function at. record { undeclared = none_declared core f function lawful at; names = functions_apart core f function lawful at; others = (none_kept f function at, λ x among. kept_foreign core f x among) }) (kinds_stay core) related at
  ready_matched seats ahead t related (inr (exit, is)) = leaves exit is

  matched_at : (s t : Config) (seats : Seats) (ahead : Config) (steps : ℕ) → Reaches (core_step core) steps s ahead → IsReached core seats ahead t → Related owners seats ahead t
      → Matches (steps + measure ahead) (core_step core s) t
  matched_at s t seats ahead zero way reached related =
      let at : Matches (measure ahead) (core_step core ahead) t =
      by_step seats ahead t reached (ready_matched seats ahead t related (ready seats ahead t reached)) in
      let none : measure ahead ≡ 0 + measure ahead = omega arith in
      subst (λ a. Matches (0 + measure ahead) (core_step core a) t) (sym way) (subst (λ r. Matches r (core_step core ahead) t) none at)
  matched_at s t seats ahead (suc steps) (v, is, way) reached related =
      let side : Side v t = record { seats = seats; ahead = ahead; steps = steps; way = way; reached = reached; related = related } in
      let falls : steps + measure ahead < suc steps + measure ahead = omega arith in
      subst (λ n. Matches (suc steps + measure ahead) n t) (sym is) (0, t, refl, side, λ none. falls)

  both_run : (s t : Config) → Side s t → Same (λ (e f : Event). e ≡ f) (run (core_step core) s) (run (core_step core2) t)
  both_run s t side =
      simulated (core_step core) (core_step core2) Side (λ (e f : Event). e ≡ f) rank
      (record { matched = λ a b x. matched_at a b x.seats x.ahead x.steps x.way x.reached x.related }) s t side

pub runs_kept_or_left : (core : Core) → IsLawful core → NoneKept core → AllReadyOrLeave core → Same (λ (e f : Event). e ≡ f) (runc core) (runc (without_scopes core))
runs_kept_or_left core lawful none_kept ready =
    both_run core lawful none_kept ready (start core) (start (without_scopes core))
    (here core lawful none_kept ready (first_seats core) (start core) (start (without_scopes core)) begun (beginnings core (kept_of core) (modules_apart core lawful)))

pub runs_kept : RunsAreKept
runs_kept core lawful none_kept ready = runs_kept_or_left core lawful none_kept (λ seats s t reached. inl (ready seats s t reached))
