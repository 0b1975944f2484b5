-- What a fault says of the tokens.
use Rattle.std.specs.Prelude.{ℕ, List}
use Rattle.first_forms.specs.declared.token.Token.{Token}
use Rattle.first_forms.specs.declared.reader.ReadFault.{ReadFault}
use Rattle.first_forms.specs.declared.reader.ReadFault.TheVariants as fault
use Rattle.first_forms.specs.Modules.{StopsAt}

abbrev pub IsFault : List (List ℕ) → List Token → ReadFault → Type 0
IsFault hosts tokens (fault.NotBuilt place) = StopsAt hosts tokens place
IsFault hosts tokens fault.OutOfMemory = Unit {0}
