-- Which tokens spell a module, and where a reader has to stop.
use Rattle.std.specs.Prelude.{◌≡◌, ℕ, List, [], ◌∷◌, ◌++◌, ◌⊎◌}
use Rattle.first_trees.specs.declared.Module.{Module}
use Rattle.first_forms.specs.declared.token.Token.{Token}
use Rattle.first_forms.specs.declared.token.TokenKind.TheVariants as kind
use Rattle.first_forms.specs.Spelling.{MatchesAll, module_tokens}
use Rattle.first_forms.specs.WellFormed.{IsWellFormed}

-- the tokens spell the module, where the program has these hosts
pub record Spells (hosts : List (List ℕ)) (tokens : List Token) (m : Module) : Type 0 where
  pub spelled : MatchesAll tokens (module_tokens m.items)
  pub well_formed : IsWellFormed hosts m

-- some tokens go on from these to the end of a module
abbrev pub IsAlive : List (List ℕ) → List Token → Type 0
IsAlive hosts tokens = (rest : List Token) × (m : Module) × Spells hosts (tokens ++ rest) m

-- none do
abbrev pub IsDead : List (List ℕ) → List Token → Type 0
IsDead hosts tokens = (rest : List Token) (m : Module) → Spells hosts (tokens ++ rest) m → ⊥

-- the token at this place is the first that no module allows after those before it
pub record StopsAt (hosts : List (List ℕ)) (tokens : List Token) (place : ℕ) : Type 0 where
  pub before : List Token
  pub token : Token
  pub after : List Token
  pub split : tokens ≡ before ++ token ∷ after
  pub stands : token.at ≡ place
  pub alive : IsAlive hosts before
  pub dead : IsDead hosts (before ++ token ∷ [])

-- the list ends with the end of a text, or where no token begins
abbrev pub IsClosed : List Token → Type 0
IsClosed [] = ⊥
IsClosed (t ∷ []) = (t.kind ≡ kind.End) ⊎ (t.kind ≡ kind.Bad)
IsClosed (t ∷ u ∷ ts) = IsClosed (u ∷ ts)
