-- What code says of a function that is made.
use Rattle.std.specs.Prelude.{◌≡◌, Err, Ok, Result}
use Rattle.es_value.specs.declared.value.Value.{Value}
use Rattle.source_state.specs.declared.state.State.{State as StateOf}
use Rattle.source_meaning.specs.Functions.{Given}
use Rattle.source_meaning.specs.State.{Work}
use Rattle.source_moves.specs.Seen.{state_of}

-- the value and the state beside it are what a definition gives, or there was no memory
abbrev pub Makes : {W E : Type 0} → (W → Work) → Result Value E → StateOf W → Given → Type 0
Makes seen (Ok v) st given = record { value = v; state = state_of seen st } ≡ given
Makes seen (Err e) st given = Unit {0}
