-- What a look-up by hash says of the homes of specifiers.
use Rattle.std.specs.Prelude.{ℕ, List, Option, Some, None}
use Rattle.std.specs.Str.{bytes_eq}
use Rattle.std.specs.HashMap.{get_by}
use Rattle.module_endings.specs.declared.place.Home.{Home}
use Rattle.module_endings.specs.declared.place.Home.TheVariants.{Nowhere}
use Rattle.module_summaries.specs.declared.homes.Homes.{Homes}

abbrev pub home_or_none : Option Home → Home
home_or_none None = Nowhere
home_or_none (Some home) = home

abbrev pub home_in : Homes → List ℕ → Home
home_in homes from = home_or_none (get_by (λ key. bytes_eq from key.now) homes.index)
