-- A handler takes a throw in both machines, with its pattern's names at a given home.
use Rattle.std.proofs.Common.{◌≡◌, ◌+◌, ℕ, zero, suc, List, [], ◌∷◌, ◌++◌, map, length, refl, sym, subst, ap}
use Rattle.runs.specs.Simulation.{Reaches}
use Rattle.es_value.specs.declared.value.Value.{Value}
use Rattle.core_ast.specs.declared.parts.ScopedName.{ScopedName}
use Rattle.core_ast.specs.declared.parts.Var.{Var}
use Rattle.core_ast.specs.declared.tree.CoreStat.{CoreStat}
use Rattle.core_ast.specs.declared.whole.Core.{Core}
use Rattle.core_meaning.specs.Marks.{CoreState, CoreWork, Mark}
use Rattle.core_meaning.specs.Modules.{core_step}
use Rattle.core_meaning.specs.Rows.{pushed, with_control, with_frames}
use Rattle.core_meaning.specs.State.{Catching, Completion, Control, Environment, Frame, Hand, Run, Throws}
use Rattle.pass_rules.specs.Scopes.{reset, stats_flat}
use Rattle.cells_keep_runs.specs.Alike.{Config}
use Rattle.cells_keep_runs.specs.Handled.{handled_seats, handler_entered}
use Rattle.cells_keep_runs.specs.Memory.{Seats}
use Rattle.cells_keep_runs.specs.Ready.{HandlerReady}
use Rattle.cells_keep_runs.specs.Related.{Frames, Related, Stand, Tail, a_scope, at_copy, at_exit, at_expression, at_links, at_same, at_statements, no_scope, past_cells}
use Rattle.cells_keep_runs.specs.Ways.{Way}
use Rattle.cells_keep_runs.proofs.Ended.{cells_passed, stand_under}
use Rattle.cells_keep_runs.proofs.Faced.{IsRun, handler_too, runs_too}
use Rattle.cells_keep_runs.proofs.Handled.{handlers_take}
use Rattle.cells_keep_runs.proofs.Readied.{new_scope}
use Rattle.cells_keep_runs.proofs.Seen.{further}

abbrev Frames1 : Type 0
Frames1 = List (Frame Mark CoreWork)

-- what both come to
pub record Took (core2 : Core) (owners : List ℕ) (seats : Seats) (h : ℕ) (x : Var) (names : List ScopedName) (handler : List CoreStat) (v : Value) (s : CoreState) (t : Config) : Type 0 where
  pub image : ℕ
  pub cell : ℕ
  pub steps : ℕ
  pub target : Config
  pub way : Reaches (core_step core2) (suc steps) t target
  pub related : Related owners (handled_seats seats image x h names cell) (with_control (Run handler) (handler_entered x v names s)) target

module _ (core core2 : Core) (owners : List ℕ) (seats : Seats) (v : Value) (x : Var) (names : List ScopedName) (handler : List CoreStat) (fs : Frames1) where
  abbrev here : Frames1
  here = Catching x names handler ∷ fs

  -- behind so many steps of the target that both stand at the handler
  taken_here : (a b : CoreState) (c : Completion Mark) (gs : Frames1) (k : ℕ) → c ≡ Throws v → a.context.frames ≡ here → (ready : HandlerReady owners seats a x names) → Stand owners seats a b
      → Frames owners seats a.context.environment a.context.frames gs → Way core2 k (Hand c) b (Hand c) (with_frames gs b)
      → Took core2 owners seats ready.pattern.home x names handler v (with_frames fs a) (with_control (Hand c) b)
  taken_here a b c gs k c_is fs_is ready stand r way =
      let e : Environment = a.context.environment in
      let h = handler_too owners seats e a.context.frames gs x names handler fs r fs_is in
      let t2 : CoreState = with_frames h.below b in
      let stand2 : Stand owners seats (with_frames fs a) t2 = stand_under core core2 owners seats e a.context.frames b.context.frames fs h.below a b stand in
      let took = handlers_take core core2 owners seats ready.pattern.home x names handler v (with_frames fs a) t2 (new_scope owners seats a b names stand ready.pattern) ready.pattern.at ready.apart stand2 h.related in
      let there : with_frames gs b ≡ pushed (Catching x [] (map reset names ++ stats_flat owners handler)) t2 = ap (λ hs. with_frames hs b) h.is in
      let way2 : Way core2 k (Hand c) b (Hand (Throws v)) (pushed (Catching x [] (map reset names ++ stats_flat owners handler)) t2) =
      subst (λ d. Way core2 k (Hand c) b (Hand d) (pushed (Catching x [] (map reset names ++ stats_flat owners handler)) t2)) c_is (subst (λ u. Way core2 k (Hand c) b (Hand c) u) there way) in
      by_steps t2 way2 took.0 took.1 took.3 took.4
    where
      by_steps : (t2 : CoreState) → Way core2 k (Hand c) b (Hand (Throws v)) (pushed (Catching x [] (map reset names ++ stats_flat owners handler)) t2) → (j : ℕ) (w : Config)
          → Reaches (core_step core2) j (with_control (Hand (Throws v)) (pushed (Catching x [] (map reset names ++ stats_flat owners handler)) t2)) w
          → Related owners (handled_seats seats (length t2.records) x ready.pattern.home names (length t2.store.cells)) (with_control (Run handler) (handler_entered x v names (with_frames fs a))) w
          → Took core2 owners seats ready.pattern.home x names handler v (with_frames fs a) (with_control (Hand c) b)
      by_steps t2 way2 zero w same related =
          absurd (subst (λ z. IsRun z.control) (sym same) (runs_too owners (handled_seats seats (length t2.records) x ready.pattern.home names (length t2.store.cells)) (with_control (Run handler) (handler_entered x v names (with_frames fs a))) w related tt))
      by_steps t2 way2 (suc j) w way3 related = record {
        image = length t2.records;
        cell = length t2.store.cells;
        steps = k + j;
        target = w;
        way = further core2 k j (with_control (Hand c) b) (with_control (Hand (Throws v)) (pushed (Catching x [] (map reset names ++ stats_flat owners handler)) t2)) w way2 way3;
        related = related;
      }

  -- no scope is left before a handler
  tail_here : (e e2 : Environment) (gs hs : Frames1) (ys : List CoreStat) → Tail owners seats e gs ys e2 hs → gs ≡ here → (P : Environment → Frames1 → Type 0) → P e2 hs → P e gs
  tail_here e e2 gs hs ys no_scope is P at = at
  tail_here e e2 gs hs ys (a_scope xs scope tail) is P at = cc

  pub handler_taken : (s t : Config) → Related owners seats s t → s.control ≡ Hand (Throws v) → s.state.context.frames ≡ here → (ready : HandlerReady owners seats s.state x names)
      → Took core2 owners seats ready.pattern.home x names handler v (with_frames fs s.state) t
  handler_taken s t (at_same {s = a} {t = b} c bare stand r) is fs_is ready = by_control c is
    where
      by_control : (d : Control Mark) → d ≡ Hand (Throws v) → Took core2 owners seats ready.pattern.home x names handler v (with_frames fs a) (with_control d b)
      by_control (Hand c2) is2 = let thrown : c2 ≡ Throws v = cc in taken_here a b c2 b.context.frames 0 thrown fs_is ready stand r refl
      by_control d is2 = cc
  handler_taken s t (at_copy n drops stand r) is fs_is ready = cc
  handler_taken s t (at_expression y stand r) is fs_is ready = cc
  handler_taken s t (at_links ls currents stand below) is fs_is ready = cc
  handler_taken s t (at_statements ys stand below) is fs_is ready = cc
  handler_taken s t (at_exit {s = a} {t = b} {ys = ys} c early stand (e, gs, tail, r)) is fs_is ready =
      let thrown : c ≡ Throws v = cc in
      taken_here a b c b.context.frames 0 thrown fs_is ready stand
      (tail_here a.context.environment e a.context.frames gs ys tail fs_is (λ e2 hs. Frames owners seats e2 hs b.context.frames) r) refl
  handler_taken s t (past_cells {s = a} {t = b} c ls early stand below) is fs_is ready =
      let (k, gs, way, r) = cells_passed core2 owners seats c ls a b early below in
      let thrown : c ≡ Throws v = cc in
      taken_here a b c gs k thrown fs_is ready stand r way
