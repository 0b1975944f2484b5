-- Where the names that modules export end, over a graph, and graphs that are linked. The rule is this project's own, in place of
-- ResolveExport (ECMA-262, 6th edition, 15.2.1.16.3): a module's own exports hide its star exports, and every path counts.
use Rattle.std.specs.Prelude.{◌≡◌, ℕ, Bool, false, List, [], ◌∷◌, ◌++◌, codes, cond, map, Option, Some, None, Contains, slice_get}
use Rattle.std.specs.List.{list_any}
use Rattle.std.specs.Str.{bytes_eq}
use Rattle.es6_ast.specs.declared.tree.Identifier.{Identifier}
use Rattle.es6_ast.specs.declared.module.Module.{Module}
use Rattle.es6_ast.specs.declared.module.Item.{Item}
use Rattle.es6_ast.specs.declared.module.Item.TheVariants as item
use Rattle.es6_ast.specs.declared.module.ImportedNames.{ImportedNames}
use Rattle.es6_ast.specs.declared.module.ImportedNames.TheVariants.{NoNames, Namespace, Listed}
use Rattle.es6_ast.specs.declared.module.ExportName.{ExportName}
use Rattle.es6_ast.specs.declared.module.Specifier.{Specifier}
use Rattle.es6_ast.specs.declared.module.DefaultExport.{DefaultExport}
use Rattle.es6_ast.specs.declared.module.DefaultExport.TheVariants.{DefaultFunction, DefaultClass, DefaultValue}
use Rattle.es6_ast.specs.declared.graph.Graph.{Graph}
use Rattle.es6_ast.specs.declared.graph.LoadedModule.{LoadedModule}
use Rattle.es6_ast.specs.declared.graph.Request.{Request}
use Rattle.es6_ast.specs.declared.graph.EndOf.{EndOf}
use Rattle.es6_ast.specs.declared.graph.EndOf.TheVariants.{Local, Host}
use Rattle.es6_static_semantics.specs.Findings.{joined}
use Rattle.es6_static_semantics.specs.Early.{function_found, class_found, item_found}

-- the name of another module under a specifier
pub record Elsewhere : Type 0 where
  pub from : List ℕ
  pub name : List ℕ

-- a name that an import binds, and what it imports (ImportEntries, 15.2.2.3); a namespace is a binding of the module itself
pub record ImportEntry : Type 0 where
  pub local : List ℕ
  pub imported : Elsewhere

abbrev pub import_entry : Specifier → List ℕ → Identifier → ImportEntry
import_entry from name local = record { local = local.name; imported = record { from = from.text; name = name } }

abbrev pub listed_entries : Specifier → ImportedNames → List ImportEntry
listed_entries from NoNames = []
listed_entries from (Namespace n) = []
listed_entries from (Listed ns) = map (λ n. import_entry from n.imported.name n.local) ns

abbrev pub default_entry : Specifier → Option Identifier → List ImportEntry
default_entry from None = []
default_entry from (Some n) = import_entry from (codes "default") n ∷ []

abbrev pub item_imports : Item → List ImportEntry
item_imports (item.Import span default_ names from) = default_entry from default_ ++ listed_entries from names
item_imports _ = []

abbrev pub imports : Module → List ImportEntry
imports m = joined item_imports m.items

-- what stands behind a name that a module exports: a binding of its own, or a name of another module (15.2.3.5)
pub data Source : Type 0 where
  OwnBinding : List ℕ → Source
  OtherName : Elsewhere → Source

pub record ExportEntry : Type 0 where
  pub name : List ℕ
  pub source : Source

-- a local name that an import binds stands for what it imports
abbrev pub source_of : List ImportEntry → List ℕ → Source
source_of [] name = OwnBinding name
source_of (e ∷ es) name = cond (bytes_eq e.local name) (OtherName e.imported) (source_of es name)

abbrev pub export_source : List ImportEntry → Option Specifier → ExportName → Source
export_source known None n = source_of known n.local.name
export_source known (Some from) n = OtherName (record { from = from.text; name = n.local.name })

abbrev pub first_name : List Identifier → List ℕ
first_name [] = codes "*default*"
first_name (n ∷ ns) = n.name

-- a default export without a name has the binding that the standard calls *default*
abbrev pub default_binding : DefaultExport → List ℕ
default_binding (DefaultFunction f) = named (function_found f).name
  where
    named : Option Identifier → List ℕ
    named None = codes "*default*"
    named (Some n) = n.name
default_binding (DefaultClass c) = first_name (class_found c).names
default_binding (DefaultValue x) = codes "*default*"

abbrev pub own_entry : List ℕ → List ℕ → ExportEntry
own_entry name binding = record { name = name; source = OwnBinding binding }

abbrev pub item_exports : List ImportEntry → Item → List ExportEntry
item_exports known (item.ExportNames span names from) = map (λ n. record { name = n.exported.name; source = export_source known from n }) names
item_exports known (item.ExportDeclaration span s) = map (λ n. own_entry n.name n.name) (item_found (item.ExportDeclaration span s)).exported
item_exports known (item.ExportDefault span word x) = own_entry (codes "default") (default_binding x) ∷ []
item_exports known _ = []

abbrev pub exports : Module → List ExportEntry
exports m = joined (item_exports (imports m)) m.items

abbrev pub item_stars : Item → List (List ℕ)
item_stars (item.ExportAll span from) = from.text ∷ []
item_stars _ = []

abbrev pub stars : Module → List (List ℕ)
stars m = joined item_stars m.items

abbrev pub is_exported : Module → List ℕ → Bool
is_exported m name = list_any (λ e. bytes_eq e.name name) (exports m)

-- the module that a specifier of a loaded module names: none for the host
abbrev pub requested : List Request → List ℕ → Option (Option ℕ)
requested [] from = None
requested (r ∷ rs) from = cond (bytes_eq r.specifier from) (Some r.module) (requested rs from)

-- A path from a module and a name to an ending. A path that comes back to where it was ends nowhere by itself, so such paths
-- add no ending. A name of the host ends at the host that has it.
mutual
  pub data Ends (g : Graph) (hosts : List (List ℕ)) : ℕ → List ℕ → EndOf → Type 0 where
    at_binding : {i : ℕ} {name : List ℕ} (m : LoadedModule) (binding : List ℕ) (end : EndOf) → slice_get g.modules i ≡ Some m → Contains (exports m.tree) (own_entry name binding) → end ≡ Local i binding → Ends g hosts i name end
    at_other_name : {i : ℕ} {name : List ℕ} (m : LoadedModule) (other : Elsewhere) (end : EndOf) → slice_get g.modules i ≡ Some m → Contains (exports m.tree) (record { name = name; source = OtherName other }) → EndsElsewhere g hosts m other end → Ends g hosts i name end
    by_star : {i : ℕ} {name : List ℕ} (m : LoadedModule) (from : List ℕ) (end : EndOf) → slice_get g.modules i ≡ Some m → bytes_eq name (codes "default") ≡ false → is_exported m.tree name ≡ false → Contains (stars m.tree) from → EndsElsewhere g hosts m (record { from = from; name = name }) end → Ends g hosts i name end

  pub data EndsElsewhere (g : Graph) (hosts : List (List ℕ)) : LoadedModule → Elsewhere → EndOf → Type 0 where
    in_module : {m : LoadedModule} {other : Elsewhere} (i : ℕ) (end : EndOf) → requested m.requests other.from ≡ Some (Some i) → Ends g hosts i other.name end → EndsElsewhere g hosts m other end
    in_host : {m : LoadedModule} {other : Elsewhere} (i : ℕ) (end : EndOf) → requested m.requests other.from ≡ Some None → slice_get hosts i ≡ Some other.name → end ≡ Host i → EndsElsewhere g hosts m other end

-- one ending resolves a name, none leaves it unresolved, and more make it ambiguous
pub record Resolves (g : Graph) (hosts : List (List ℕ)) (m : LoadedModule) (other : Elsewhere) (end : EndOf) : Type 0 where
  pub ends : EndsElsewhere g hosts m other end
  pub alone : (e : EndOf) → EndsElsewhere g hosts m other e → e ≡ end

abbrev pub IsUnresolved : Graph → List (List ℕ) → LoadedModule → Elsewhere → Type 0
IsUnresolved g hosts m other = (end : EndOf) → EndsElsewhere g hosts m other end → ⊥

pub record IsAmbiguous (g : Graph) (hosts : List (List ℕ)) (m : LoadedModule) (other : Elsewhere) : Type 0 where
  pub one : EndOf
  pub another : EndOf
  pub one_ends : EndsElsewhere g hosts m other one
  pub another_ends : EndsElsewhere g hosts m other another
  pub differ : one ≡ another → ⊥

-- a name that is resolved at linking, with the place at which it is reported: each imported name, and each name of an
-- `export { .. } from`, in text order
pub record Wanted : Type 0 where
  pub at : ℕ
  pub other : Elsewhere

abbrev pub wanted : Specifier → Identifier → List ℕ → Wanted
wanted from place name = record { at = place.span.begin; other = record { from = from.text; name = name } }

abbrev pub wanted_default : Specifier → Option Identifier → List Wanted
wanted_default from None = []
wanted_default from (Some n) = wanted from n (codes "default") ∷ []

abbrev pub wanted_listed : Specifier → ImportedNames → List Wanted
wanted_listed from NoNames = []
wanted_listed from (Namespace n) = []
wanted_listed from (Listed ns) = map (λ n. wanted from n.imported n.imported.name) ns

abbrev pub wanted_exports : Option Specifier → List ExportName → List Wanted
wanted_exports None ns = []
wanted_exports (Some from) ns = map (λ n. wanted from n.local n.local.name) ns

abbrev pub item_wants : Item → List Wanted
item_wants (item.Import span default_ names from) = wanted_default from default_ ++ wanted_listed from names
item_wants (item.ExportNames span names from) = wanted_exports from names
item_wants _ = []

abbrev pub wants : Module → List Wanted
wants m = joined item_wants m.items

-- the endings of a module are those of the names that it wants, each the only one
pub data AllResolve (g : Graph) (hosts : List (List ℕ)) (m : LoadedModule) : List Wanted → List EndOf → Type 0 where
  none_wanted : AllResolve g hosts m [] []
  one_wanted : {w : Wanted} {ws : List Wanted} {e : EndOf} {es : List EndOf} → Resolves g hosts m w.other e → AllResolve g hosts m ws es → AllResolve g hosts m (w ∷ ws) (e ∷ es)
