-- What a name finds in scopes of which the last is the innermost.
use Rattle.std.proofs.Common.{◌≡◌, ℕ, ◌∷◌, ◌++◌, [], List, reverse, ap}
use Rattle.std.proofs.lemmas.List.{reverse-append}
use Rattle.scope_rules.specs.declared.scope_tables.binding.Binding.{Binding}
use Rattle.scope_rules.specs.declared.scope_tables.place.Place.{Place}
use Rattle.scope_rules.specs.scope_tables.Scoping.{found}

pub found-last : (name : List ℕ) (bs : List Binding) (rest : List Place) (p : Place) → found name bs (reverse (rest ++ p ∷ [])) ≡ found name bs (p ∷ reverse rest)
found-last name bs rest p = ap (found name bs) (reverse-append rest (p ∷ []))

pub ruleset finding = (found-last)
