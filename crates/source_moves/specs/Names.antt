-- What is found of a name.
use Rattle.std.specs.Prelude.{Bool, None, Option, Some, false, if◌then◌else◌, true, ℕ, List}
use Rattle.es_realm.specs.declared.errors.ErrorKind.TheVariants.{ReferenceError, TypeError}
use Rattle.es_value.specs.declared.value.Value.{Value}
use Rattle.source_meaning.specs.Environments.{Resolved, held_by, stored_at}
use Rattle.source_meaning.specs.State.{Binding, Held, State, Uninitialized}
use Rattle.source_meaning.specs.Steps.{Next, raises}
use Rattle.source_moves.specs.declared.assignment.Holder.{Holder}

abbrev pub resolved_of : ℕ → Binding → Resolved
resolved_of n b = record { at = n; binding = b }

-- what isn't there yet is None in code
abbrev pub held_or : Option Held → Held
held_or None = Uninitialized
held_or (Some h) = h

abbrev pub found_held : State → Resolved → Held
found_held st r = held_by st.records r.binding.held

-- ---- what a write asks of a binding

abbrev pub is_initialized : Held → Bool
is_initialized Uninitialized = false
is_initialized h = true

abbrev pub holder_of : Resolved → Holder
holder_of r = record { number = r.at; mutable = r.binding.mutable; is_initialized = is_initialized r.binding.held }

-- a write to the record that has the name
abbrev pub written_at : Holder → List ℕ → Value → State → (State → Next) → Next
written_at h x v st next =
    if h.is_initialized then (if h.mutable then next (stored_at h.number x v st) else raises TypeError st)
    else raises ReferenceError st
