-- What namespace objects have, over the summaries of the modules of a graph in place of the graph: proofs/Graphs.antt has that both agree.
use Rattle.std.specs.List.{filter, filter_map, list_any}
use Rattle.std.specs.Prelude.{List, None, Option, Some, [], if◌then◌else◌, length, map, not, slice_get, suc, sum_by, zero, ℕ, ◌*◌, ◌++◌, ◌∷◌}
use Rattle.std.specs.Str.{bytes_eq}
use Rattle.es6_static_semantics.specs.Findings.{joined}
use Rattle.module_endings.specs.declared.place.Home.{Home}
use Rattle.module_endings.specs.declared.place.Home.TheVariants.{Binding, Module}
use Rattle.module_endings.specs.declared.place.Place.{Place}
use Rattle.module_endings.specs.declared.summary.Export.{Export}
use Rattle.module_endings.specs.declared.summary.Summary.{Summary}
use Rattle.source_meaning.specs.Modules.{Pair, alone, is_default, is_number, is_pair}
use Rattle.source_meaning.specs.State.{Exported}
use Rattle.source_meaning.specs.Trees.{name_units}

abbrev pub pair : ℕ → List ℕ → Pair
pair home name = record { home = home; name = name }

-- ---- what a module exports

abbrev pub exports_in : Option Summary → List Export
exports_in None = []
exports_in (Some s) = s.exports

abbrev pub exports_of : List Summary → ℕ → List Export
exports_of known n = exports_in (slice_get known n)

abbrev pub module_home : Home → List ℕ
module_home (Module n) = n ∷ []
module_home h = []

abbrev pub stars_in : Option Summary → List ℕ
stars_in None = []
stars_in (Some s) = joined module_home s.stars

abbrev pub stars_of : List Summary → ℕ → List ℕ
stars_of known n = stars_in (slice_get known n)

-- ---- where a name leads in one step

abbrev pub binding_home : Home → List ℕ
binding_home (Binding n) = n ∷ []
binding_home h = []

abbrev pub place_pairs : Place → List Pair
place_pairs p = map (λ home. pair home p.name) (module_home p.home)

abbrev pub place_ends : Place → List Pair
place_ends p = map (λ home. pair home p.name) (binding_home p.home)

abbrev pub star_pairs : List Summary → ℕ → List ℕ → List Pair
star_pairs known n name = if is_default name then [] else map (λ home. pair home name) (stars_of known n)

abbrev pub entries_named : List Summary → Pair → List Export
entries_named known p = filter (λ e. bytes_eq e.name p.name) (exports_of known p.home)

abbrev pub entry_pairs : List Export → List Pair
entry_pairs es = joined (λ e. place_pairs e.source) es

abbrev pub entry_ends : List Export → List Pair
entry_ends es = joined (λ e. place_ends e.source) es

abbrev pub pairs_by : List Summary → Pair → List Export → List Pair
pairs_by known p [] = star_pairs known p.home p.name
pairs_by known p (e ∷ es) = entry_pairs (e ∷ es)

-- ---- where it ends

abbrev pub endings_within : ℕ → List Summary → List Pair → Pair → List Pair
endings_within zero known seen p = []
endings_within (suc depth) known seen p =
    if list_any (is_pair p) seen then []
    else entry_ends (entries_named known p)
    ++ joined (endings_within depth known (p ∷ seen)) (pairs_by known p (entries_named known p))

abbrev pub path_limit : List Summary → ℕ
path_limit known = suc (length known * suc (sum_by (λ s. length s.exports) known))

abbrev pub ends_alone : List Summary → ℕ → List ℕ → Option Pair
ends_alone known n name = alone (endings_within (path_limit known) known [] (pair n name))

-- ---- the names

abbrev pub other_names : List (List ℕ) → List (List ℕ)
other_names names = filter (λ x. not (is_default x)) names

abbrev pub names_within : ℕ → List Summary → List ℕ → ℕ → List (List ℕ)
names_within zero known seen n = []
names_within (suc depth) known seen n =
    if is_number n seen then []
    else map (λ e. e.name) (exports_of known n)
    ++ other_names (joined (names_within depth known (n ∷ seen)) (stars_of known n))

abbrev pub exported_by : List ℕ → Option Pair → Option Exported
exported_by name None = None
exported_by name (Some p) = Some (record { name = name_units name; home = p.home; local = p.name })

abbrev pub namespace_of : List Summary → ℕ → List Exported
namespace_of known n =
    filter_map (λ name. exported_by name (ends_alone known n name)) (names_within (suc (length known)) known [] n)
