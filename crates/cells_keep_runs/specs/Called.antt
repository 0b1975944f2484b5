-- How a closure is called between related states.
use Rattle.std.specs.Prelude.{◌≡◌, List, [], ◌∷◌, ◌++◌, Option, None, Some, length, slice_get, ℕ}
use Rattle.es_value.specs.declared.value.ObjId.{ObjId}
use Rattle.es_value.specs.declared.value.Value.TheVariants as value
use Rattle.es_heap.specs.Heaps.{object_at}
use Rattle.es_heap.specs.declared.class.Class.TheVariants as class
use Rattle.core_ast.specs.declared.parts.Var.{Var}
use Rattle.core_ast.specs.declared.whole.Core.{Core}
use Rattle.core_ast.specs.declared.whole.CoreFunction.{CoreFunction}
use Rattle.core_meaning.specs.Calls.{names_of_call}
use Rattle.core_meaning.specs.Expressions.{function_at}
use Rattle.core_meaning.specs.Functions.{entered}
use Rattle.core_meaning.specs.Marks.{CoreState, Mark, Own}
use Rattle.core_meaning.specs.Modules.{core_step}
use Rattle.core_meaning.specs.Names.{binding_in}
use Rattle.core_meaning.specs.Rows.{with_control}
use Rattle.core_meaning.specs.State.{Binding, Call, Calls, Closure, EnvironmentRecord}
use Rattle.pass_rules.specs.Scopes.{function_flat}
use Rattle.cells_keep_runs.specs.Alike.{Alike}
use Rattle.cells_keep_runs.specs.Entries.{NewCall, call_seat}
use Rattle.cells_keep_runs.specs.Memory.{Seats}
use Rattle.cells_keep_runs.specs.Related.{Closures, Frames, Related, Stand}

-- the name of the arguments object, if there is one, is bound
abbrev pub ArgumentsBound : EnvironmentRecord Mark → Option Var → Type 0
ArgumentsBound bindings None = Unit {0}
ArgumentsBound bindings (Some x) = (b : Binding Mark) × (binding_in bindings x ≡ Some b)

-- the record that a call begins with
abbrev pub bindings_of : CoreFunction → Closure Own → Call → CoreState → EnvironmentRecord Mark
bindings_of f c now st = names_of_call f (entered c f now st).names now

-- the calls of a closure of the program, whose function isn't of a script
pub record Enters (core core2 : Core) (owners : List ℕ) (c : Call) (s t : CoreState) (a b : Closure Own) (f : CoreFunction) (kept : List Var) : Type 0 where
  pub id : ObjId
  pub number : ℕ
  pub object : c.function ≡ value.Object id
  pub class_is : (object_at s.heap id).class ≡ class.Function number
  pub before : slice_get s.closures number ≡ Some a
  pub behind : slice_get t.closures number ≡ Some b
  pub function : function_at core a.function ≡ Some f
  pub flat : function_at core2 b.function ≡ Some (function_flat owners kept f)
  pub undeclared : f.declared ≡ []

-- A call of a closure begins alike with related records, and comes to related states, with its record more.
abbrev pub CallsEnterAlike : Type 0
CallsEnterAlike = (core core2 : Core) (owners : List ℕ) (seats : Seats) (c : Call) (s t : CoreState) (a b : Closure Own) (f : CoreFunction) (kept locals has : List Var)
    → Enters core core2 owners c s t a b f kept → Closures owners seats a b
    → NewCall (bindings_of (function_flat owners kept f) b c t) (bindings_of f a c s) t.store.cells locals has b.own.cells
    → ArgumentsBound (bindings_of f a c s) f.arguments
    → Stand owners seats s t → Frames owners seats s.context.environment s.context.frames t.context.frames
    → Alike (Related owners (seats ++ call_seat (length t.records) locals has b.own.cells ∷ []))
    (core_step core (with_control (Calls c) s)) (core_step core2 (with_control (Calls c) t))
