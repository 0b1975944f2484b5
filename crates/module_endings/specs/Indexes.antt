-- What a look-up by hash says of a list of exports.
use Rattle.std.specs.Prelude.{◌≡◌, ℕ, List, Option, option_map}
use Rattle.std.specs.Str.{bytes_eq}
use Rattle.std.specs.HashMap.{get_by}
use Rattle.module_endings.specs.declared.place.Place.{Place}
use Rattle.module_endings.specs.declared.summary.Export.{Export}
use Rattle.module_endings.specs.declared.sources.Sources.{Sources}
use Rattle.module_endings.specs.Ends.{first_source}

abbrev pub source_in : Sources → List ℕ → Option Place
source_in sources name = option_map (λ p. p.now) (get_by (λ key. bytes_eq name key.now) sources.index)

abbrev pub Indexes : Sources → List Export → Type 0
Indexes sources exports = (name : List ℕ) → source_in sources name ≡ first_source exports name
