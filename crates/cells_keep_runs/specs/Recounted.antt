-- What a step that makes a record leaves of what code has: a scope and a handler use up what their names have themselves, and a call is one context
-- more.
use Rattle.std.specs.Prelude.{◌≤◌, ◌+◌, ◌≡◌, List, [], ◌∷◌, ℕ}
use Rattle.es_value.specs.declared.value.Value.{Value}
use Rattle.runs.specs.Run.{Goes}
use Rattle.core_ast.specs.declared.parts.CoreHead.TheVariants as head
use Rattle.core_ast.specs.declared.parts.ScopedName.{ScopedName}
use Rattle.core_ast.specs.declared.parts.Var.{Var}
use Rattle.core_ast.specs.declared.tree.CoreExpr.{CoreExpr, out-CoreExpr}
use Rattle.core_ast.specs.declared.tree.CoreLink.TheOpen as layer
use Rattle.core_ast.specs.declared.tree.CoreStat.{CoreStat, out-CoreStat}
use Rattle.core_ast.specs.declared.whole.Core.{Core}
use Rattle.core_meaning.specs.Marks.{CoreNext, CoreState}
use Rattle.core_meaning.specs.Modules.{core_step}
use Rattle.core_meaning.specs.Rows.{pushed, with_control}
use Rattle.core_meaning.specs.State.{Begin, Call, Calls, Catching, Done, Environment, Hand, Run, Throws}
use Rattle.cells_keep_runs.specs.Alike.{Config}
use Rattle.cells_keep_runs.specs.Copied.{InScope}
use Rattle.cells_keep_runs.specs.Counted.{AllFits, Limit, Measure, Measures, NextFits, OthersFit, bottom, counted, generator_counted, going, in_frames, total, with_control as with_code}
use Rattle.cells_keep_runs.specs.Ready.{ClosureCall}
use Rattle.cells_keep_runs.specs.Recorded.{inner}

-- all fits, and so much is used up in the present context
abbrev pub AllHave : Measure → Limit → ℕ → Config → Type 0
AllHave m b n s =
    OthersFit m b (going s.control s.state.context.frames (counted b s.state.context)) s.state
    × (n + with_code m s.control (in_frames m s.state.context.frames) ≤ b.most (bottom s.state.context.environment s.state.context.frames))

abbrev pub NextHas : Measure → Limit → ℕ → CoreNext → Type 0
NextHas m b n (Goes s) = AllHave m b n s
NextHas m b n next = ⊥

abbrev pub ScopesUse : Measure → Limit → Type 0
ScopesUse m b = (core : Core) (s : CoreState) (x : CoreStat) (xs body : List CoreStat) (names : List ScopedName)
    → out-CoreStat x ≡ layer.Scoped names body → AllFits m b (with_control (Run (x ∷ xs)) s)
    → NextHas m b (m.names names) (core_step core (with_control (Run (x ∷ xs)) s))

abbrev pub HandlersUse : Measure → Limit → Type 0
HandlersUse m b = (core : Core) (s : CoreState) (x : Var) (names : List ScopedName) (handler : List CoreStat) (v : Value)
    → AllFits m b (with_control (Hand (Throws v)) (pushed (Catching x names handler) s))
    → NextHas m b (m.names names) (core_step core (with_control (Hand (Throws v)) (pushed (Catching x names handler) s)))

abbrev pub CopiesUse : Measure → Limit → Type 0
CopiesUse m b = (core : Core) (s : CoreState) (x : CoreExpr) (xs : List Var) (n : ℕ) (o : Environment)
    → (out-CoreExpr x).head ≡ head.Copy xs → s.context.environment ≡ n ∷ o → InScope s.context.frames
    → AllFits m b (with_control (Begin x) s) → NextFits m b (core_step core (with_control (Begin x) s))

-- where the new context may count, and may have what the function has
abbrev pub CallsUse : Measure → Limit → Type 0
CallsUse m b = (core : Core) (s : CoreState) (c : Call) (r : ClosureCall core c s) → r.function.declared ≡ []
    → m.stats r.function.setup + m.stats r.function.body ≤ b.most (inner s r.closure.environment)
    → b.counts (inner s r.closure.environment) + (counted b s.context + (total (counted b) s.callers + total (generator_counted b) s.store.generators)) ≤ 1
    → AllFits m b (with_control (Calls c) s) → NextFits m b (core_step core (with_control (Calls c) s))

abbrev pub BodiesUse : Measure → Limit → Type 0
BodiesUse m b = (core : Core) (s : CoreState) (stats : List CoreStat) (ahead : List (List CoreStat))
    → s.context.frames ≡ [] → s.callers ≡ [] → s.ahead ≡ stats ∷ ahead → m.stats stats ≤ b.most s.context.environment
    → AllFits m b (with_control (Hand Done) s) → NextFits m b (core_step core (with_control (Hand Done) s))

pub record RecordsUse (m : Measure) (b : Limit) : Type 0 where
  pub scopes : ScopesUse m b
  pub handlers : HandlersUse m b
  pub copies : CopiesUse m b
  pub calls : CallsUse m b
  pub bodies : BodiesUse m b

abbrev pub RecordsAreCounted : Type 0
RecordsAreCounted = (m : Measure) (b : Limit) → Measures m → ((e : Environment) → b.most e ≤ 1) → RecordsUse m b
