-- Environment records (ECMA-262, 6th edition, 8.1): how names are found, read, written and initialized.
use Rattle.std.specs.Prelude.{Bool, List, None, Option, Some, [], if◌then◌else◌, length, slice_index_or, slice_set, ℕ, ◌++◌, ◌∷◌}
use Rattle.std.specs.Str.{bytes_eq}
use Rattle.es_value.specs.declared.value.Value.{Value}
use Rattle.es_value.specs.declared.value.Value.TheVariants as value
use Rattle.es_realm.specs.Globals.{global_of}
use Rattle.es_realm.specs.declared.globals.Global.{Global}
use Rattle.es_realm.specs.declared.globals.Global.TheVariants as global
use Rattle.es_realm.specs.declared.errors.ErrorKind.TheVariants.{ReferenceError, TypeError}
use Rattle.source_meaning.specs.State.{Binding, Environment, EnvironmentRecord, Held, Holds, Imported, OfHost, State, Uninitialized}
use Rattle.source_meaning.specs.Steps.{Next, gives, impossible, leaves, raises, within}
use Rattle.source_meaning.specs.Trees.{Lexical}

-- ---- bindings

abbrev pub bound : Bool → List ℕ → Value → Binding
bound mutable name v = record { name = name; mutable = mutable; held = Holds v }

abbrev pub unbound : Lexical → Binding
unbound x = record { name = x.name; mutable = x.mutable; held = Uninitialized }

-- ---- records

abbrev pub record_of : List Binding → EnvironmentRecord
record_of bindings = record { bindings = bindings; this = None }

-- a new record, which is the innermost of the scope (8.1.2.2)
abbrev pub with_record : EnvironmentRecord → State → State
with_record r st = within (length st.records ∷ st.context.environment) (record st { records = st.records ++ r ∷ [] })

abbrev pub with_bindings : List Binding → State → State
with_bindings bindings st = with_record (record_of bindings) st

abbrev pub record_at : List EnvironmentRecord → ℕ → EnvironmentRecord
record_at records n = slice_index_or records n (record_of [])

-- CreatePerIterationEnvironment (13.7.4.9): a copy of the innermost record takes its place
abbrev pub innermost : State → Environment → EnvironmentRecord
innermost st [] = record_of []
innermost st (n ∷ ns) = record_at st.records n

abbrev pub outer : Environment → Environment
outer [] = []
outer (n ∷ ns) = ns

abbrev pub copied : State → State
copied st =
    let e = st.context.environment in
    with_record (innermost st e) (within (outer e) st)

-- ---- GetIdentifierReference (8.1.2.1): the innermost record that has the name

abbrev pub binding_in : List Binding → List ℕ → Option Binding
binding_in [] x = None
binding_in (b ∷ bs) x = if bytes_eq b.name x then Some b else binding_in bs x

pub record Resolved : Type 0 where
  pub at : ℕ
  pub binding : Binding

abbrev pub or_outer : ℕ → Option Binding → Option Resolved → Option Resolved
or_outer n None outer = outer
or_outer n (Some b) outer = Some (record { at = n; binding = b })

abbrev pub resolved : List EnvironmentRecord → Environment → List ℕ → Option Resolved
resolved records [] x = None
resolved records (n ∷ ns) x = or_outer n (binding_in (record_at records n).bindings x) (resolved records ns x)

unfoldable pub resolve : State → List ℕ → Option Resolved
resolve st x = resolved st.records st.context.environment x

-- ---- GetBindingValue (8.1.1.1.6, 8.1.1.5.1): an import has the binding of another module

abbrev pub held_in : Option Binding → Held
held_in None = Uninitialized
held_in (Some b) = b.held

abbrev pub module_binding : List EnvironmentRecord → ℕ → List ℕ → Held
module_binding records home local = held_in (binding_in (record_at records home).bindings local)

abbrev pub held_there : List EnvironmentRecord → Held → Held
held_there records (Imported home local) = module_binding records home local
held_there records h = h

-- a binding that is exported may be the import of a namespace
abbrev pub held_by : List EnvironmentRecord → Held → Held
held_by records h = held_there records (held_there records h)

abbrev pub read_held : Held → State → Next
read_held (Holds v) st = gives v st
read_held Uninitialized st = raises ReferenceError st
read_held h st = impossible st

-- a name that no record has is one of the globals
abbrev pub read_global : Global → State → Next
read_global global.Undefined st = gives value.Undefined st
read_global (global.Object id) st = gives (value.Object id) st
read_global global.LeftOut st = leaves 7 st
read_global global.Unknown st = raises ReferenceError st

abbrev pub read_found : List ℕ → State → Option Resolved → Next
read_found x st None = read_global (global_of x) st
read_found x st (Some r) = read_held (held_by st.records r.binding.held) st

unfoldable pub read_name : List ℕ → State → Next
read_name x st = read_found x st (resolve st x)

-- the host that a name is of, if it is one of the host's
abbrev pub host_in : Held → Option ℕ
host_in (OfHost n) = Some n
host_in h = None

abbrev pub host_found : List EnvironmentRecord → Option Resolved → Option ℕ
host_found records None = None
host_found records (Some r) = host_in (held_by records r.binding.held)

abbrev pub host_named : List ℕ → State → Option ℕ
host_named x st = host_found st.records (resolve st x)

-- ---- SetMutableBinding (8.1.1.1.5) and InitializeBinding (8.1.1.1.4)

abbrev pub with_held : List Binding → List ℕ → Value → List Binding
with_held [] x v = []
with_held (b ∷ bs) x v = if bytes_eq b.name x then record b { held = Holds v } ∷ bs else b ∷ with_held bs x v

abbrev pub held_at : EnvironmentRecord → List ℕ → Value → EnvironmentRecord
held_at r x v = record r { bindings = with_held r.bindings x v }

abbrev pub stored_at : ℕ → List ℕ → Value → State → State
stored_at n x v st = record st { records = slice_set st.records n (held_at (record_at st.records n) x v) }

-- one that isn't initialized is a ReferenceError, and then one that can't be written a TypeError
abbrev pub write_held : Resolved → List ℕ → Value → State → (State → Next) → Held → Next
write_held r x v st next Uninitialized = raises ReferenceError st
write_held r x v st next h = if r.binding.mutable then next (stored_at r.at x v st) else raises TypeError st

abbrev pub write_found : List ℕ → Value → State → (State → Next) → Option Resolved → Next
write_found x v st next None = raises ReferenceError st
write_found x v st next (Some r) = write_held r x v st next r.binding.held

unfoldable pub write_name : List ℕ → Value → State → (State → Next) → Next
write_name x v st next = write_found x v st next (resolve st x)

abbrev pub initialize_found : List ℕ → Value → State → Option Resolved → State
initialize_found x v st None = st
initialize_found x v st (Some r) = stored_at r.at x v st

unfoldable pub initialized : List ℕ → Value → State → State
initialized x v st = initialize_found x v st (resolve st x)

-- ---- `this` (8.1.1.3.4, 8.1.1.5.4)

abbrev pub this_of : State → Option Value
this_of st = (record_at st.records st.context.own.this_record).this

abbrev pub with_this : State → (Value → Next) → Next
with_this st f = by_this (this_of st)
  where
    by_this : Option Value → Next
    by_this None = raises ReferenceError st
    by_this (Some v) = f v

-- BindThisValue (8.1.1.3.1), once
abbrev pub this_stored : ℕ → Value → State → State
this_stored n v st = record st { records = slice_set st.records n (record (record_at st.records n) { this = Some v }) }

abbrev pub bind_this : Value → State → Option Value → Next
bind_this v st None = gives v (this_stored st.context.own.this_record v st)
bind_this v st (Some w) = raises ReferenceError st
