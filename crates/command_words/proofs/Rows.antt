-- What stands in the rows of a parse.
use Rattle.std.proofs.Common.{◌≡◌, ◌∙◌, Bool, true, false, refl, ap, List, [], ◌∷◌, ◌++◌, cond, Option, Some, None, inl, inr}
use Rattle.std.specs.List.{find}
use Rattle.std.specs.Option.{option_map, option_map_or, unwrap_or}
use Rattle.std.specs.Str.{bytes_eq}
use Rattle.std.proofs.lemmas.Bool.{cases_Bool}
use Rattle.std.proofs.lemmas.Slice.Eq.{bytes_eq-Decides}
use Rattle.clap.specs.Walk.{Row, Text, row_of, rows_of, with_values}
use Rattle.clap.specs.Facts.{Entry}
use Rattle.clap.specs.Matches.{raw_values}
use Rattle.clap.specs.declared.builder.value_parser.Reading.{Reading}
use Rattle.clap.specs.declared.parser.matches.Found.{Found}
use Rattle.clap.specs.declared.parser.matches.ValueSource.{ValueSource}
use Rattle.clap.proofs.WalkLemmas.{find_row}
use Rattle.command_words.specs.Grammar.{values_or_none}

-- the values of an argument
abbrev pub values : Text → List Row → List Text
values id rows = option_map_or (λ r. r.values) (find (λ r. bytes_eq r.id id) rows) []

-- a use adds its values behind the others
pub values-more : (id : Text) (how : Reading) (s : ValueSource) (vs : List Text) (rows : List Row) → bytes_eq id id ≡ true → values id (with_values id how s vs rows) ≡ values id rows ++ vs
values-more id how s vs [] same = rw same refl
values-more id how s vs (r ∷ rs) same = elim (cases_Bool (bytes_eq r.id id)) [
  | inl t ↦ rw (t) (rw (t) refl)
  | inr f ↦ rw (f) (rw (f) (values-more id how s vs rs same))
]

-- and changes no other
pub values-other : (id other : Text) (how : Reading) (s : ValueSource) (vs : List Text) (rows : List Row) → bytes_eq id other ≡ false → values other (with_values id how s vs rows) ≡ values other rows
values-other id other how s vs [] apart = rw apart refl
values-other id other how s vs (r ∷ rs) apart = elim (cases_Bool (bytes_eq r.id id)) [
  | inl t ↦
      let is : r.id ≡ id = (bytes_eq-Decides r.id id).0 t in
      let no : bytes_eq r.id other ≡ false = ap (λ x. bytes_eq x other) is ∙ apart in
      rw t (rw no refl)
  | inr f ↦ rw f (go (bytes_eq r.id other) (values-other id other how s vs rs apart))
]
  where
    go : (b : Bool) → values other (with_values id how s vs rs) ≡ values other rs
        → option_map_or (λ r. r.values) (cond b (Some r) (find (λ r. bytes_eq r.id other) (with_values id how s vs rs))) []
        ≡ option_map_or (λ r. r.values) (cond b (Some r) (find (λ r. bytes_eq r.id other) rs)) []
    go true e = refl
    go false e = e

-- what is found is what stands in the rows
pub values-found : (f : Found) (id : Text) → values id (rows_of f) ≡ values_or_none f id
values-found f id = ap (λ o. option_map_or (λ r. r.values) o []) (find_row f.entries.items id) ∙ go (find (λ e. bytes_eq e.0.now id) f.entries.items)
  where
    go : (o : Option Entry) → option_map_or (λ r. r.values) (option_map row_of o) [] ≡ unwrap_or (option_map raw_values (option_map (λ e. e.1) o)) []
    go None = refl
    go (Some e) = refl
