-- The two machines side by side: how a step of the source is matched between related configurations, and the pairs of configurations that
-- both come to in this way.
use Rattle.std.specs.Prelude.{◌≡◌, ◌+◌, ◌<◌, List, [], ◌∷◌, ◌++◌, Some, length, slice_get, ℕ, suc}
use Rattle.runs.specs.Run.{Asks, Ends, Leaves}
use Rattle.runs.specs.Simulation.{Reaches}
use Rattle.shared_meaning.specs.Ending.{Exit, Finish}
use Rattle.es_outside.specs.declared.events.Event.{Event}
use Rattle.es_outside.specs.declared.host.Reply.{Reply}
use Rattle.es_value.specs.declared.value.Value.{Value}
use Rattle.core_ast.specs.declared.parts.CoreHead.TheVariants as head
use Rattle.core_ast.specs.declared.parts.ScopedName.{ScopedName}
use Rattle.core_ast.specs.declared.parts.Var.{Var}
use Rattle.core_ast.specs.declared.tree.CoreExpr.{CoreExpr, out-CoreExpr}
use Rattle.core_ast.specs.declared.tree.CoreLink.TheOpen as layer
use Rattle.core_ast.specs.declared.tree.CoreStat.{CoreStat, out-CoreStat}
use Rattle.core_ast.specs.declared.whole.Core.{Core}
use Rattle.core_meaning.specs.Marks.{CoreWork, Mark, Own}
use Rattle.core_meaning.specs.Modules.{core_step, start}
use Rattle.core_meaning.specs.Names.{record_at}
use Rattle.core_meaning.specs.State.{Begin, Call, Calls, Catching, Closure, Frame, Hand, Run, Throws}
use Rattle.cells_keep_runs.specs.Acted.{KindsAreKept}
use Rattle.cells_keep_runs.specs.Alike.{Config}
use Rattle.cells_keep_runs.specs.Copied.{copied_seats}
use Rattle.cells_keep_runs.specs.Entered.{entered_seats}
use Rattle.cells_keep_runs.specs.Entries.{call_seat}
use Rattle.cells_keep_runs.specs.Handled.{handled_seats}
use Rattle.cells_keep_runs.specs.Memory.{Seats}
use Rattle.cells_keep_runs.specs.Named.{call_names, scoped_names}
use Rattle.cells_keep_runs.specs.Ready.{AreApart, AreFlattened, ClosureCall, CopyReady, HandlerReady, Keeping, Ready, ScopeReady}
use Rattle.cells_keep_runs.specs.Related.{Related}

-- ---- the seats behind a step: those before it, and that of the record which it makes

pub data NewSeats (core : Core) (kept : Keeping) (owners : List ℕ) (seats : Seats) (s t : Config) : Seats → Type 0 where
  no_more : NewSeats core kept owners seats s t seats
  a_scope_more : (x : CoreStat) (xs body : List CoreStat) (names : List ScopedName) (r : ScopeReady owners seats s.state names)
      → s.control ≡ Run (x ∷ xs) → out-CoreStat x ≡ layer.Scoped names body
      → NewSeats core kept owners seats s t (entered_seats seats r.home names (length t.state.store.cells))
  a_copy_more : (x : CoreExpr) (xs : List Var) (r : CopyReady owners seats s.state xs (out-CoreExpr x).links)
      → s.control ≡ Begin x → (out-CoreExpr x).head ≡ head.Copy xs
      → NewSeats core kept owners seats s t (copied_seats owners seats r.copyable.seat (record_at s.state.records r.number) xs (length t.state.store.cells))
  a_call_more : (c : Call) (r : ClosureCall core c s.state) (behind : Closure Own)
      → s.control ≡ Calls c → slice_get t.state.closures r.number ≡ Some behind
      → NewSeats core kept owners seats s t
      (seats ++ call_seat (length t.state.records) (scoped_names r.function) (call_names r.function behind.own.cells) behind.own.cells ∷ [])
  a_handler_more : (v : Value) (x : Var) (names : List ScopedName) (handler : List CoreStat) (fs : List (Frame Mark CoreWork))
      (r : HandlerReady owners seats s.state x names)
      → s.control ≡ Hand (Throws v) → s.state.context.frames ≡ Catching x names handler ∷ fs
      → NewSeats core kept owners seats s t (handled_seats seats (length t.state.records) x r.pattern.home names (length t.state.store.cells))

abbrev pub Behind : Core → Keeping → List ℕ → Seats → Config → Config → Config → Config → Type 0
Behind core kept owners seats s t s2 t2 =
    (seats2 : Seats) × NewSeats core kept owners seats s t seats2 × Related owners seats2 s2 t2

-- ---- a step

-- what falls where the source goes on alone: it leaves scopes
abbrev pub measure : Config → ℕ
measure s = length s.state.context.frames + length s.state.context.frames

-- The source takes some steps, and the target too, at least one each, and they come to related configurations; or the source does so
-- alone, out of scopes; or both ask, or end, alike. A source that leaves claims nothing.
pub data StepMatched (core core2 : Core) (kept : Keeping) (owners : List ℕ) (seats : Seats) (s t : Config) : Type 0 where
  together : (k j : ℕ) (s2 t2 : Config) → Reaches (core_step core) (suc k) s s2 → Reaches (core_step core2) (suc j) t t2
      → Behind core kept owners seats s t s2 t2 → StepMatched core core2 kept owners seats s t
  alone : (k : ℕ) (s2 : Config) → Reaches (core_step core) (suc k) s s2 → k + measure s2 < measure s → Related owners seats s2 t
      → StepMatched core core2 kept owners seats s t
  asks : (j : ℕ) (u : Config) (e : Event) (follow follow2 : Reply → Config) → core_step core s ≡ Asks e follow
      → Reaches (core_step core2) j t u → core_step core2 u ≡ Asks e follow2
      → ((a : Reply) → Behind core kept owners seats s t (follow a) (follow2 a)) → StepMatched core core2 kept owners seats s t
  ends : (j : ℕ) (u : Config) (ending : Finish) → core_step core s ≡ Ends ending
      → Reaches (core_step core2) j t u → core_step core2 u ≡ Ends ending → StepMatched core core2 kept owners seats s t
  leaves : (exit : Exit) → core_step core s ≡ Leaves exit → StepMatched core core2 kept owners seats s t

-- Each step from related configurations that are ready is matched.
abbrev pub StepsAreMatched : Type 0
StepsAreMatched = (core core2 : Core) (kept : Keeping) (owners : List ℕ) (seats : Seats) (s t : Config)
    → AreFlattened core core2 owners kept → AreApart core kept owners → KindsAreKept core core2 → Related owners seats s t → Ready core kept owners seats s → StepMatched core core2 kept owners seats s t

-- ---- a course

-- the pairs that the two machines come to by matched steps, from the beginning with these seats on
pub data Reached (core core2 : Core) (kept : Keeping) (owners : List ℕ) (first : Seats) : Seats → Config → Config → Type 0 where
  begun : Reached core core2 kept owners first first (start core) (start core2)
  gone_on : {seats seats2 : Seats} {s t s2 t2 : Config} (k j : ℕ) → Reached core core2 kept owners first seats s t
      → Reaches (core_step core) (suc k) s s2 → Reaches (core_step core2) j t t2
      → NewSeats core kept owners seats s t seats2 → Related owners seats2 s2 t2
      → Reached core core2 kept owners first seats2 s2 t2
  answered : {seats seats2 : Seats} {s t : Config} {e : Event} {follow follow2 : Reply → Config} (j : ℕ) (u : Config) (a : Reply)
      → Reached core core2 kept owners first seats s t → core_step core s ≡ Asks e follow
      → Reaches (core_step core2) j t u → core_step core2 u ≡ Asks e follow2
      → NewSeats core kept owners seats s t seats2 → Related owners seats2 (follow a) (follow2 a)
      → Reached core core2 kept owners first seats2 (follow a) (follow2 a)
