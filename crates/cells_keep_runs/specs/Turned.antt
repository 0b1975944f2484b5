-- How an operation goes on between related states, and a call that is none of a closure; how a context ends; and how a list of statements
-- runs out.
use Rattle.std.specs.Prelude.{◌≡◌, ◌⊎◌, List, [], Option, ℕ}
use Rattle.es_outside.specs.declared.events.Site.{Site}
use Rattle.es_value.specs.declared.value.Value.{Value}
use Rattle.es_value.specs.declared.value.Value.TheVariants as value
use Rattle.es_heap.specs.Heaps.{Heap, object_at}
use Rattle.es_heap.specs.declared.class.Class.{Class}
use Rattle.es_heap.specs.declared.class.Class.TheVariants as class
use Rattle.es_calls.specs.declared.call.BuiltinCall.{BuiltinCall}
use Rattle.core_ast.specs.declared.tree.CoreStat.{CoreStat}
use Rattle.core_ast.specs.declared.whole.Core.{Core}
use Rattle.core_meaning.specs.Marks.{CoreState, Mark}
use Rattle.core_meaning.specs.Modules.{core_step}
use Rattle.core_meaning.specs.Rows.{with_control}
use Rattle.core_meaning.specs.State.{Call, Calls, Completion, Hand, Run, Turn}
use Rattle.cells_keep_runs.specs.Alike.{Alike}
use Rattle.cells_keep_runs.specs.Memory.{Seats}
use Rattle.cells_keep_runs.specs.Related.{BelowScopes, Frames, Related, Stand}
use Rattle.cells_keep_runs.specs.Ways.{Way}

-- A turn of an operation does the same in both, and comes to related states.
abbrev pub TurnsAreAlike : Type 0
TurnsAreAlike = (core core2 : Core) (owners : List ℕ) (seats : Seats) (site : Option Site) (c : BuiltinCall) (s t : CoreState)
    → Stand owners seats s t → Frames owners seats s.context.environment s.context.frames t.context.frames
    → Alike (Related owners seats) (core_step core (with_control (Turn site c) s)) (core_step core2 (with_control (Turn site c) t))

abbrev pub IsNoClosure : Class → Type 0
IsNoClosure (class.Function n) = ⊥
IsNoClosure k = Unit {0}

abbrev pub CallsNoClosure : Heap → Value → Type 0
CallsNoClosure heap (value.Object id) = IsNoClosure (object_at heap id).class
CallsNoClosure heap v = Unit {0}

-- So does a call of a function of the library or of a host, and of what is no function.
abbrev pub OtherCallsAreAlike : Type 0
OtherCallsAreAlike = (core core2 : Core) (owners : List ℕ) (seats : Seats) (c : Call) (s t : CoreState)
    → CallsNoClosure s.heap c.function
    → Stand owners seats s t → Frames owners seats s.context.environment s.context.frames t.context.frames
    → Alike (Related owners seats) (core_step core (with_control (Calls c) s)) (core_step core2 (with_control (Calls c) t))

-- So does the end of a context: a call gives what it returns, and behind the outermost context the next body runs, or the run ends.
abbrev pub ContextsEndAlike : Type 0
ContextsEndAlike = (core core2 : Core) (owners : List ℕ) (seats : Seats) (c : Completion Mark) (s t : CoreState)
    → s.context.frames ≡ []
    → Stand owners seats s t → Frames owners seats s.context.environment s.context.frames t.context.frames
    → Alike (Related owners seats) (core_step core (with_control (Hand c) s)) (core_step core2 (with_control (Hand c) t))

-- A list that has run out ends in both, or it was that of a scope: then the source comes to what stands behind the scope, where the target
-- is already.
abbrev pub ListsRunOut : Type 0
ListsRunOut = (core core2 : Core) (owners : List ℕ) (seats : Seats) (ys : List CoreStat) (s t : CoreState)
    → Stand owners seats s t → BelowScopes owners seats s s.context.frames ys t
    → Alike (Related owners seats) (core_step core (with_control (Run []) s)) (core_step core2 (with_control (Run ys) t))
    ⊎ ((xs : List CoreStat) × (u : CoreState) × Way core 3 (Run []) s (Run xs) u
    × Related owners seats (with_control (Run xs) u) (with_control (Run ys) t))
