-- Modules: how they are instantiated and evaluated, and namespace objects (ECMA-262, 6th edition, 9.4.6, 15.2).
use Rattle.std.specs.Cmp.Lexicographic.{pointwise}
use Rattle.std.specs.List.{filter, filter_map, list_all, list_any}
use Rattle.std.specs.Prelude.{Bool, List, None, Option, Some, [], codes, false, fold, if◌then◌else◌, is_some, length, map, nat_eq, not, slice_get, slice_index_or, suc, sum_by, true, zero, ℕ, ◌&&◌, ◌*◌, ◌++◌, ◌∷◌}
use Rattle.std.specs.Str.{bytes_eq}
use Rattle.es_value.specs.declared.value.ObjId.{ObjId}
use Rattle.es_value.specs.declared.value.Value.TheVariants as value
use Rattle.es_heap.specs.Heaps.{next_id, object_at}
use Rattle.es_heap.specs.declared.class.Class.{Class as ObjectClass}
use Rattle.es_heap.specs.declared.class.Class.TheVariants as class
use Rattle.es_heap.specs.declared.key.Key.{Key as PropertyKey}
use Rattle.es_heap.specs.declared.key.Key.TheVariants.{Iterator, Text}
use Rattle.es_realm.specs.Realms.{fresh6}
use Rattle.es_operations.specs.Making.{made_namespace}
use Rattle.es6_ast.specs.declared.graph.EndOf.{EndOf}
use Rattle.es6_ast.specs.declared.graph.EndOf.TheVariants as ending
use Rattle.es6_ast.specs.declared.graph.Graph.{Graph}
use Rattle.es6_ast.specs.declared.graph.LoadedModule.{LoadedModule}
use Rattle.es6_ast.specs.declared.graph.Request.{Request}
use Rattle.es6_ast.specs.declared.module.DefaultExport.{DefaultExport}
use Rattle.es6_ast.specs.declared.module.DefaultExport.TheVariants.{DefaultClass, DefaultFunction, DefaultValue}
use Rattle.es6_ast.specs.declared.module.ExportName.{ExportName}
use Rattle.es6_ast.specs.declared.module.ImportedNames.{ImportedNames}
use Rattle.es6_ast.specs.declared.module.ImportedNames.TheVariants.{Listed, Namespace}
use Rattle.es6_ast.specs.declared.module.Item.{Item}
use Rattle.es6_ast.specs.declared.module.Item.TheVariants as item
use Rattle.es6_ast.specs.declared.module.Specifier.{Specifier}
use Rattle.es6_ast.specs.declared.tree.Class.{out-Class}
use Rattle.es6_ast.specs.declared.tree.Function.{Function, out-Function}
use Rattle.es6_ast.specs.declared.tree.Identifier.{Identifier}
use Rattle.es6_ast.specs.declared.tree.Statement.{Statement}
use Rattle.es6_static_semantics.specs.Endings.{Elsewhere, ExportEntry, OtherName, OwnBinding, Source, exports, requested, stars}
use Rattle.es6_static_semantics.specs.Findings.{joined}
use Rattle.module_order.specs.Order.{evaluation_order}
use Rattle.source_meaning.specs.Environments.{held_by, initialized, read_held, unbound}
use Rattle.source_meaning.specs.Functions.{closed, named_given, undefined_binding}
use Rattle.source_meaning.specs.State.{Binding, Configuration, Context, Done, Due, EnvironmentRecord, Exported, Hand, Held, Imported, OfHost, PlainCode, State, Uninitialized}
use Rattle.source_meaning.specs.Steps.{Next, gives, with_control, with_heap}
use Rattle.source_meaning.specs.Trees.{functions_in, lexical, lexicals_in, name_units, optional_name, variables_in}

abbrev pub module_at : Graph → ℕ → Option LoadedModule
module_at g n = slice_get g.modules n

abbrev pub default_name : List ℕ
default_name = codes "*default*"

-- the name under which a module's record has its namespace object; no program has it
abbrev pub namespace_name : List ℕ
namespace_name = codes "*namespace*"

-- ---- imports (15.2.1.16.4, step 12): a name has the binding where it ends, and a namespace is the other module's

abbrev pub held_at_end : EndOf → Held
held_at_end (ending.Local home local) = Imported home local
held_at_end (ending.Host n) = OfHost n

abbrev pub imported_binding : List ℕ → Held → Binding
imported_binding name h = record { name = name; mutable = false; held = h }

-- the names that are wanted of other modules, in text order; an `export { .. } from` binds none
abbrev pub optional_names : Option Identifier → List (Option (List ℕ))
optional_names None = []
optional_names (Some x) = Some x.name ∷ []

abbrev pub listed_names : ImportedNames → List (Option (List ℕ))
listed_names (Listed ns) = map (λ n. Some n.local.name) ns
listed_names names = []

abbrev pub exported_names : Option Specifier → List ExportName → List (Option (List ℕ))
exported_names None ns = []
exported_names (Some from) ns = map (λ n. None) ns

abbrev pub wanted_names : Item → List (Option (List ℕ))
wanted_names (item.Import span default_ names from) = optional_names default_ ++ listed_names names
wanted_names (item.ExportNames span names from) = exported_names from names
wanted_names i = []

abbrev pub ended_bindings : List (Option (List ℕ)) → List EndOf → List Binding
ended_bindings (Some x ∷ xs) (e ∷ es) = imported_binding x (held_at_end e) ∷ ended_bindings xs es
ended_bindings (None ∷ xs) (e ∷ es) = ended_bindings xs es
ended_bindings xs es = []

abbrev pub home_in : Option (Option ℕ) → List ℕ
home_in (Some (Some n)) = n ∷ []
home_in m = []

abbrev pub namespace_bindings : List Request → Item → List Binding
namespace_bindings rs (item.Import span default_ (Namespace x) from) =
    map (λ home. imported_binding x.name (Imported home namespace_name)) (home_in (requested rs from.text))
namespace_bindings rs i = []

-- ---- what a module declares (15.2.1.11, 15.2.1.12): a function at its top level is a lexical name

abbrev pub item_statements : Item → List Statement
item_statements (item.Statement s) = s ∷ []
item_statements (item.ExportDeclaration span s) = s ∷ []
item_statements i = []

abbrev pub name_or_default : Option (List ℕ) → List ℕ
name_or_default None = default_name
name_or_default (Some x) = x

abbrev pub default_declared : DefaultExport → List ℕ
default_declared (DefaultFunction f) = name_or_default (optional_name (out-Function f).name)
default_declared (DefaultClass c) = name_or_default (optional_name (out-Class c).name)
default_declared (DefaultValue x) = default_name

abbrev pub default_names : Item → List (List ℕ)
default_names (item.ExportDefault span word x) = default_declared x ∷ []
default_names i = []

abbrev pub function_name : Function → List ℕ
function_name f = name_or_default (optional_name (out-Function f).name)

abbrev pub default_functions : DefaultExport → List Function
default_functions (DefaultFunction f) = f ∷ []
default_functions x = []

abbrev pub item_functions : Item → List Function
item_functions (item.ExportDefault span word x) = default_functions x
item_functions i = functions_in (item_statements i)

abbrev pub declared_bindings : List Item → List Binding
declared_bindings items =
    let ss = joined item_statements items in
    map undefined_binding (variables_in ss) ++ map unbound (lexicals_in ss)
    ++ map (λ x. unbound (lexical true x)) (joined default_names items ++ map function_name (functions_in ss))

abbrev pub module_bindings : LoadedModule → List Binding
module_bindings m =
    ended_bindings (joined wanted_names m.tree.items) m.endings
    ++ joined (namespace_bindings m.requests) m.tree.items
    ++ declared_bindings m.tree.items
    ++ imported_binding namespace_name Uninitialized ∷ []

-- `this` of a module is undefined (8.1.1.5.4)
abbrev pub module_record : LoadedModule → EnvironmentRecord
module_record m = record { bindings = module_bindings m; this = Some value.Undefined }

-- ---- which names a namespace object has, and where they end (15.2.1.16.2, 15.2.1.18; the endings by this project's own rule: all paths
-- through star exports count, and one that comes back ends nowhere)

pub record Pair : Type 0 where
  pub home : ℕ
  pub name : List ℕ

abbrev pub is_pair : Pair → Pair → Bool
is_pair p q = nat_eq p.home q.home && bytes_eq p.name q.name

abbrev pub exports_of : Graph → ℕ → List ExportEntry
exports_of g n = exports_in (module_at g n)
  where
    exports_in : Option LoadedModule → List ExportEntry
    exports_in None = []
    exports_in (Some m) = exports m.tree

-- the modules of which all names are exported
abbrev pub star_homes : Option LoadedModule → List ℕ
star_homes None = []
star_homes (Some m) = joined (λ from. home_in (requested m.requests from)) (stars m.tree)

abbrev pub stars_of : Graph → ℕ → List ℕ
stars_of g n = star_homes (module_at g n)

abbrev pub elsewhere_homes : Option LoadedModule → Elsewhere → List Pair
elsewhere_homes None other = []
elsewhere_homes (Some m) other =
    map (λ home. record { home = home; name = other.name }) (home_in (requested m.requests other.from))

-- where a name leads in one step: to a binding, or to names of other modules
abbrev pub source_pairs : Graph → ℕ → Source → List Pair
source_pairs g n (OwnBinding local) = []
source_pairs g n (OtherName other) = elsewhere_homes (module_at g n) other

abbrev pub source_ends : ℕ → Source → List Pair
source_ends n (OwnBinding local) = record { home = n; name = local } ∷ []
source_ends n s = []

abbrev pub is_default : List ℕ → Bool
is_default name = bytes_eq name (codes "default")

abbrev pub star_pairs : Graph → ℕ → List ℕ → List Pair
star_pairs g n name = if is_default name then [] else map (λ home. record { home = home; name = name }) (stars_of g n)

abbrev pub entries_named : Graph → Pair → List ExportEntry
entries_named g p = filter (λ e. bytes_eq e.name p.name) (exports_of g p.home)

abbrev pub pairs_by : Graph → Pair → List ExportEntry → List Pair
pairs_by g p [] = star_pairs g p.home p.name
pairs_by g p es = joined (λ e. source_pairs g p.home e.source) es

abbrev pub endings_within : ℕ → Graph → List Pair → Pair → List Pair
endings_within zero g seen p = []
endings_within (suc depth) g seen p =
    if list_any (is_pair p) seen then []
    else joined (λ e. source_ends p.home e.source) (entries_named g p)
    ++ joined (endings_within depth g (p ∷ seen)) (pairs_by g p (entries_named g p))

-- no path without a return is longer than there are modules and names
abbrev pub path_limit : Graph → ℕ
path_limit g = suc (length g.modules * suc (sum_by (λ m. length (exports m.tree)) g.modules))

abbrev pub alone : List Pair → Option Pair
alone [] = None
alone (p ∷ ps) = if list_all (is_pair p) ps then Some p else None

abbrev pub ends_alone : Graph → ℕ → List ℕ → Option Pair
ends_alone g n name = alone (endings_within (path_limit g) g [] (record { home = n; name = name }))

-- GetExportedNames: a default isn't exported by a star
abbrev pub is_number : ℕ → List ℕ → Bool
is_number n ns = list_any (nat_eq n) ns

abbrev pub names_within : ℕ → Graph → List ℕ → ℕ → List (List ℕ)
names_within zero g seen n = []
names_within (suc depth) g seen n =
    if is_number n seen then []
    else map (λ e. e.name) (exports_of g n)
    ++ filter (λ x. not (is_default x)) (joined (names_within depth g (n ∷ seen)) (stars_of g n))

abbrev pub exported_at : Graph → ℕ → List ℕ → Option Exported
exported_at g n name = by_end (ends_alone g n name)
  where
    by_end : Option Pair → Option Exported
    by_end None = None
    by_end (Some p) = Some (record { name = name_units name; home = p.home; local = p.name })

abbrev pub namespace_of : Graph → ℕ → List Exported
namespace_of g n = filter_map (exported_at g n) (names_within (suc (length g.modules)) g [] n)

-- ---- instantiation (15.2.1.16.4): the functions of each module, and its namespace object, where one is imported

abbrev pub in_module : ℕ → Context → Context
in_module n c = record c {
  environment = n ∷ [];
  home = n;
  own = record { this_record = n; callee = value.Undefined; home = value.Undefined; target = value.Undefined };
}

abbrev pub within_module : ℕ → State → State
within_module n st = record st { context = in_module n st.context }

abbrev pub with_item_function : State → Function → State
with_item_function st f = named_given (function_name f ∷ []) (closed (PlainCode f) value.Undefined st)

abbrev pub imports_namespace : ℕ → LoadedModule → Bool
imports_namespace n m = list_any (λ i. is_number n (namespace_homes i)) m.tree.items
  where
    namespace_homes : Item → List ℕ
    namespace_homes (item.Import span default_ (Namespace x) from) = home_in (requested m.requests from.text)
    namespace_homes i = []

abbrev pub with_namespace : Graph → ℕ → State → State
with_namespace g n st =
    if list_any (imports_namespace n) g.modules
    then initialized namespace_name (value.Object (next_id st.heap))
    (record (with_heap (made_namespace st.heap (length st.namespaces)) st) { namespaces = st.namespaces ++ namespace_of g n ∷ [] })
    else st

abbrev pub instantiated : Graph → ℕ → List LoadedModule → State → State
instantiated g n [] st = st
instantiated g n (m ∷ ms) st =
    instantiated g (suc n) ms
    (with_namespace g n (fold with_item_function (within_module n st) (joined item_functions m.tree.items)))

-- ---- where a run starts: all modules are instantiated, and none is evaluated

abbrev pub request_homes : LoadedModule → List ℕ
request_homes m = joined (λ r. request_home r.module) m.requests
  where
    request_home : Option ℕ → List ℕ
    request_home None = []
    request_home (Some n) = n ∷ []

abbrev pub due_of : Graph → ℕ → List Due
due_of g n = due_in (module_at g n)
  where
    due_in : Option LoadedModule → List Due
    due_in None = []
    due_in (Some m) = record { home = n; items = m.tree.items } ∷ []

abbrev pub bare_context : Context
bare_context = record {
  environment = [];
  home = 0;
  own = record { this_record = 0; callee = value.Undefined; home = value.Undefined; target = value.Undefined };
  place = record { «module» = 0; at = 0 };
  frames = [];
}

abbrev pub bare : Graph → State
bare g = record {
  heap = fresh6;
  records = map module_record g.modules;
  closures = [];
  generators = [];
  namespaces = [];
  templates = [];
  statics = [];
  context = bare_context;
  callers = [];
  due = joined (due_of g) (evaluation_order (map request_homes g.modules) 0);
}

abbrev pub start : Graph → Configuration
start g = with_control (Hand Done) (instantiated g 0 g.modules (bare g))

-- ---- namespace objects are read (9.4.6.7, 9.4.6.8): a binding, or only whether the name is there

abbrev pub is_export : List ℕ → Exported → Bool
is_export units e = pointwise nat_eq units e.name

abbrev pub export_in : List Exported → PropertyKey → Option Exported
export_in es Iterator = None
export_in [] (Text units) = None
export_in (e ∷ es) (Text units) = if is_export units e then Some e else export_in es (Text units)

abbrev pub exports_at : State → ObjectClass → List Exported
exports_at st (class.Namespace n) = slice_index_or st.namespaces n []
exports_at st k = []

abbrev pub read_export : Bool → State → Option Exported → Next
read_export true st e = gives (value.Bool (is_some e)) st
read_export false st None = gives value.Undefined st
read_export false st (Some e) = read_held (held_by st.records (Imported e.home e.local)) st

abbrev pub read_out : Bool → ObjId → PropertyKey → State → Next
read_out presence id k st = read_export presence st (export_in (exports_at st (object_at st.heap id).class) k)
