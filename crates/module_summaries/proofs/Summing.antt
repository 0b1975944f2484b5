-- The parts of a summary are those of the module.
use Rattle.std.proofs.Common.{◌≡◌, ℕ, List, map, refl, sym, ap, ◌∙◌, subst}
use Rattle.es6_ast.specs.declared.graph.LoadedModule.{LoadedModule}
use Rattle.es6_ast.specs.declared.module.Item.{Item}
use Rattle.es6_ast.specs.declared.module.Item.TheVariants as item
use Rattle.es6_static_semantics.specs.Findings.{joined}
use Rattle.es6_static_semantics.specs.Early.{exporting, of_statement, statement_found}
use Rattle.es6_static_semantics.specs.Endings.{ImportEntry, Source, OwnBinding, OtherName, export_source, exports, imports, item_exports, item_imports, item_stars, item_wants, own_entry, stars, wants}
use Rattle.module_endings.specs.declared.place.Home.{Home}
use Rattle.module_endings.specs.declared.place.Place.{Place}
use Rattle.module_endings.specs.declared.summary.Export.{Export}
use Rattle.module_endings.specs.declared.summary.Summary.{Summary}
use Rattle.module_endings.specs.Indexes.{Indexes}
use Rattle.module_endings.specs.Places.{at_place}
use Rattle.module_resolution.specs.Summaries.{export_of, requested_home, source_place, summary_of}
use Rattle.module_summaries.specs.declared.exports.Exporter.{Exporter}
use Rattle.module_summaries.specs.Homes.{home_in}
use Rattle.module_summaries.specs.Parts.{Knows, export_at, exports_at, import_at, imports_at, own_export, source_at, stars_at, want_at, wants_at}
use Rattle.module_requests.proofs.Joined.{joined_mapped}
use Rattle.module_summaries.proofs.Maps.{map_twice}

export-entries : (known : List ImportEntry) (x : Exporter) (i : Item) → exports_at known x i ≡ map (export_at x) (item_exports known i)
export-entries known x (item.ExportNames span names from) = sym (map_twice (export_at x) (λ n. record { name = n.exported.name; source = export_source known from n }) names)
export-entries known x (item.ExportDeclaration span s) =
    map_twice (λ name. own_export x name name) (λ n. n.name) (exporting (of_statement (statement_found s))).exported
    ∙ sym (map_twice (export_at x) (λ n. own_entry n.name n.name) (exporting (of_statement (statement_found s))).exported)
export-entries known x (item.ExportDefault span word value) = refl
export-entries known x (item.Import span default_ names from) = refl
export-entries known x (item.ExportAll span from) = refl
export-entries known x (item.Statement s) = refl

source-is : (x : Exporter) (m : LoadedModule) → home_in x.homes ≡ requested_home m.requests → (s : Source) → source_at x s ≡ source_place x.number m.requests s
source-is x m look (OwnBinding name) = refl
source-is x m look (OtherName other) = ap (λ f. at_place (f other.from) other.name) look

exports-are : (x : Exporter) (m : LoadedModule) → home_in x.homes ≡ requested_home m.requests → joined (exports_at (imports m.tree) x) m.tree.items ≡ map (export_of x.number m.requests) (exports m.tree)
exports-are x m look =
    (λ j. joined (λ i. export-entries (imports m.tree) x i j) m.tree.items)
    ∙ joined_mapped (export_at x) (item_exports (imports m.tree)) m.tree.items
    ∙ (λ j. map (λ e. record { name = e.name; source = source-is x m look e.source j }) (exports m.tree))

pub summary-is : (x : Exporter) (m : LoadedModule) (items : List Item) (bound own : List Export) (homes : List Home) (places : List Place) → items ≡ m.tree.items
    → ((from : List ℕ) → home_in x.homes from ≡ requested_home m.requests from) → Indexes x.imports bound → bound ≡ joined (imports_at (home_in x.homes)) items
    → ((known : List ImportEntry) → Knows known x → own ≡ joined (exports_at known x) items) → homes ≡ joined (stars_at (home_in x.homes)) items → places ≡ joined (wants_at (home_in x.homes)) items
    → ◌≡◌ {A = Summary} (record { exports = own; stars = homes; wants = places }) (summary_of x.number m)
summary-is x m items bound own homes places are found indexed bound-are own-are homes-are places-are =
    let look : home_in x.homes ≡ requested_home m.requests = λ j from. found from j in
    let of-items : bound ≡ map (import_at (home_in x.homes)) (imports m.tree)
    = bound-are ∙ ap (λ list. joined (imports_at (home_in x.homes)) list) are ∙ joined_mapped (import_at (home_in x.homes)) item_imports m.tree.items in
    let P : List Export → Type 0 = λ list. Indexes x.imports list in
    let e1 : own ≡ map (export_of x.number m.requests) (exports m.tree)
    = own-are (imports m.tree) (subst P of-items indexed) ∙ ap (λ list. joined (exports_at (imports m.tree) x) list) are ∙ exports-are x m look in
    let e2 : homes ≡ map (requested_home m.requests) (stars m.tree)
    = homes-are ∙ ap (λ list. joined (stars_at (home_in x.homes)) list) are ∙ joined_mapped (home_in x.homes) item_stars m.tree.items ∙ ap (λ f. map f (stars m.tree)) look in
    let e3 : places ≡ map (want_at (requested_home m.requests)) (wants m.tree)
    = places-are ∙ ap (λ list. joined (wants_at (home_in x.homes)) list) are ∙ joined_mapped (want_at (home_in x.homes)) item_wants m.tree.items ∙ ap (λ f. map (want_at f) (wants m.tree)) look in
    λ j. record { exports = e1 j; stars = e2 j; wants = e3 j }
