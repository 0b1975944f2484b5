-- What is found of a name.
use Rattle.std.specs.Prelude.{ℕ}
use Rattle.core_meaning.specs.Names.{Resolved}
use Rattle.core_meaning.specs.State.{Binding}
use Rattle.core_moves.specs.declared.names.Holder.{Holder}

abbrev pub resolved_of : {M : Type 0} → ℕ → Binding M → Resolved M
resolved_of n b = record { at = n; binding = b }

abbrev pub holder_of : {M : Type 0} → Resolved M → Holder
holder_of r = record { number = r.at; mutable = r.binding.mutable }
