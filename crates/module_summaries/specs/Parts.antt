-- The parts of summaries, item by item, where the homes of specifiers are looked up by a function.
use Rattle.std.specs.Prelude.{ℕ, List, [], ◌∷◌, Option, codes, map}
use Rattle.es6_ast.specs.declared.module.ExportName.{ExportName}
use Rattle.es6_ast.specs.declared.module.ImportName.{ImportName}
use Rattle.es6_ast.specs.declared.module.Item.{Item}
use Rattle.es6_ast.specs.declared.module.Item.TheVariants as item
use Rattle.es6_ast.specs.declared.module.Specifier.{Specifier}
use Rattle.es6_ast.specs.declared.tree.Statement.{Statement}
use Rattle.es6_static_semantics.specs.Early.{exporting, of_statement, statement_found}
use Rattle.es6_static_semantics.specs.Endings.{Elsewhere, ExportEntry, ImportEntry, Source, OwnBinding, OtherName, Wanted, default_binding, export_source, import_entry, item_imports, item_stars, item_wants, source_of, wanted}
use Rattle.module_endings.specs.declared.place.Home.{Home}
use Rattle.module_endings.specs.declared.place.Home.TheVariants.{Binding}
use Rattle.module_endings.specs.declared.place.Place.{Place}
use Rattle.module_endings.specs.declared.summary.Export.{Export}
use Rattle.module_endings.specs.Indexes.{Indexes}
use Rattle.module_endings.specs.Places.{at_place}
use Rattle.module_summaries.specs.declared.exports.Exporter.{Exporter}
use Rattle.module_summaries.specs.Homes.{home_in}

-- the names that a declaration exports (BoundNames, 15.2.3.2)
abbrev pub declared_names : Statement → List (List ℕ)
declared_names s = map (λ n. n.name) (exporting (of_statement (statement_found s))).exported

abbrev pub placed : (List ℕ → Home) → Elsewhere → Place
placed look other = at_place (look other.from) other.name

abbrev pub import_at : (List ℕ → Home) → ImportEntry → Export
import_at look e = record { name = e.local; source = placed look e.imported }

abbrev pub imports_at : (List ℕ → Home) → Item → List Export
imports_at look item = map (import_at look) (item_imports item)

abbrev pub listed_import : (List ℕ → Home) → Specifier → ImportName → Export
listed_import look from n = import_at look (import_entry from n.imported.name n.local)

abbrev pub stars_at : (List ℕ → Home) → Item → List Home
stars_at look item = map look (item_stars item)

abbrev pub want_at : (List ℕ → Home) → Wanted → Place
want_at look w = placed look w.other

abbrev pub wants_at : (List ℕ → Home) → Item → List Place
wants_at look item = map (want_at look) (item_wants item)

abbrev pub want_offsets : Item → List ℕ
want_offsets item = map (λ w. w.at) (item_wants item)

abbrev pub listed_want : (List ℕ → Home) → Specifier → ImportName → Place
listed_want look from n = want_at look (wanted from n.imported n.imported.name)

abbrev pub passed_want : (List ℕ → Home) → Specifier → ExportName → Place
passed_want look from n = want_at look (wanted from n.local n.local.name)

-- the module's imports are known by what each binds
abbrev pub Knows : List ImportEntry → Exporter → Type 0
Knows known x = Indexes x.imports (map (import_at (home_in x.homes)) known)

abbrev pub binding_at : Exporter → List ℕ → Place
binding_at x name = at_place (Binding x.number) name

abbrev pub source_at : Exporter → Source → Place
source_at x (OwnBinding name) = binding_at x name
source_at x (OtherName other) = placed (home_in x.homes) other

abbrev pub export_at : Exporter → ExportEntry → Export
export_at x e = record { name = e.name; source = source_at x e.source }

abbrev pub own_export : Exporter → List ℕ → List ℕ → Export
own_export x name binding = record { name = name; source = binding_at x binding }

abbrev pub listed_exports : List ImportEntry → Exporter → Option Specifier → List ExportName → List Export
listed_exports known x from names = map (λ n. record { name = n.exported.name; source = source_at x (export_source known from n) }) names

abbrev pub local_export : List ImportEntry → Exporter → ExportName → Export
local_export known x n = record { name = n.exported.name; source = source_at x (source_of known n.local.name) }

abbrev pub passed_export : Exporter → Specifier → ExportName → Export
passed_export x from n = record { name = n.exported.name; source = placed (home_in x.homes) (record { from = from.text; name = n.local.name }) }

-- what an item exports, by the entries of `item_exports`
abbrev pub exports_at : List ImportEntry → Exporter → Item → List Export
exports_at known x (item.ExportNames span names from) = listed_exports known x from names
exports_at known x (item.ExportDeclaration span s) = map (λ name. own_export x name name) (declared_names s)
exports_at known x (item.ExportDefault span word value) = own_export x (codes "default") (default_binding value) ∷ []
exports_at known x _ = []
