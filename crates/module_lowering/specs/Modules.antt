-- Modules and graphs (ECMA-262, 6th edition, 15.2).
use Rattle.std.specs.Prelude.{ℕ, ◌+◌, Bool, true, false, cond, length, nat_eq, replicate, List, [], ◌∷◌, ◌++◌, map, Option, Some, None, slice_get, sum_by}
use Rattle.std.specs.List.{filter, flat_map, list_any}
use Rattle.es6_ast.specs.declared.tree.Identifier.{Identifier}
use Rattle.es6_ast.specs.declared.module.DefaultExport.{DefaultExport}
use Rattle.es6_ast.specs.declared.module.DefaultExport.TheVariants.{DefaultClass, DefaultFunction, DefaultValue}
use Rattle.es6_ast.specs.declared.module.ImportedNames.{ImportedNames}
use Rattle.es6_ast.specs.declared.module.ImportedNames.TheVariants.{Listed as ListedNames, Namespace, NoNames}
use Rattle.es6_ast.specs.declared.module.Item.{Item}
use Rattle.es6_ast.specs.declared.module.Item.TheVariants as item
use Rattle.es6_ast.specs.declared.module.Module.{Module}
use Rattle.es6_ast.specs.declared.graph.Graph.{Graph}
use Rattle.es6_ast.specs.declared.graph.LoadedModule.{LoadedModule}
use Rattle.es6_ast.specs.declared.graph.Request.{Request}
use Rattle.es6_static_semantics.specs.Endings.{requested}
use Rattle.es6_static_semantics.specs.Findings.{joined}
use Rattle.core_ast.specs.declared.naming.Fresh.{Fresh}
use Rattle.core_ast.specs.declared.parts.ScopedName.{ScopedName}
use Rattle.core_ast.specs.declared.parts.Var.{Var}
use Rattle.core_ast.specs.declared.tree.CoreStat.{CoreStat}
use Rattle.core_ast.specs.declared.whole.Core.{Core}
use Rattle.core_ast.specs.declared.whole.CorePart.{CorePart}
use Rattle.binding_tables.specs.declared.ids.BindingId.{BindingId}
use Rattle.binding_tables.specs.declared.ids.BindingId.TheVariants.{Global, Host, Own}
use Rattle.scope_rules.specs.declared.kinds.Kind.{Kind}
use Rattle.scope_rules.specs.declared.kinds.Kind.TheVariants as kind
use Rattle.scope_rules.specs.declared.scope_tables.binding.Binding.{Binding}
use Rattle.scope_analysis.specs.declared.scopes.Scopes.{Scopes}
use Rattle.scope_analysis.specs.declared.tables.ModuleScopes.{ModuleScopes}
use Rattle.scope_analysis.specs.Answers.{end_ids, own_binding}
use Rattle.scope_analysis.specs.Ends.{named_in}
use Rattle.lowering_rules.specs.declared.statement_rules.bodies.Export.{Export}
use Rattle.lowering_rules.specs.declared.statement_rules.bodies.ModuleScope.{ModuleScope}
use Rattle.lowering_rules.specs.declared.statement_rules.bodies.Namespace.{Namespace as NamespaceObject}
use Rattle.lowering_rules.specs.declared.reference_rules.references.NamedValue.{NamedValue}
use Rattle.lowering_rules.specs.declared.reference_rules.references.NamedValue.TheVariants.{HostName, UndefinedName}
use Rattle.lowering_rules.specs.statement_rules.Bodies.{default_exported, export_getter, part}
use Rattle.lowering_rules.specs.reference_rules.References.{found, value_of}
use Rattle.module_lowering.specs.declared.context.Context.{Context}
use Rattle.module_lowering.specs.declared.context.FunctionForm.TheVariants.{PlainForm}
use Rattle.module_lowering.specs.declared.context.ThisKind.TheVariants.{OfModule}
use Rattle.module_lowering.specs.declared.lowerer.Lowerer.{Lowerer}
use Rattle.module_lowering.specs.declared.meaning.Entry.{Entry}
use Rattle.module_lowering.specs.declared.meaning.Meaning.{Meaning}
use Rattle.module_lowering.specs.declared.meaning.Meaning.TheVariants.{Elsewhere, Itself, NamespaceOf, OfHost}
use Rattle.module_lowering.specs.declared.meaning.NamespaceEntries.{NamespaceEntries}
use Rattle.module_lowering.specs.Bindings.{Bindings, can_be_unready, declares_first, first_id, imported_value, meaning, own_var}
use Rattle.module_lowering.specs.Expressions.{valued}
use Rattle.module_lowering.specs.Functions.{all_hoisted}
use Rattle.module_lowering.specs.Lowered.{class_lowered, expression_lowered, function_lowered, statement_lowered}
use Rattle.module_lowering.specs.Lowering.{all_by, asks, define, each, each_by, inside, pure, unseen, within, Lowering, ◌>>=◌}
use Rattle.module_lowering.specs.Names.{declared_at, places, scoped_names, units_of}
use Rattle.module_lowering.specs.Nodes.{Classed, Expressed, Functioned, Listed, nothing}
use Rattle.module_lowering.specs.Statements.{class_at}

-- ---- items (15.2.1.11)

-- what has no name of its own is declared at its `default` (15.2.3.2)
abbrev pub place_or : ℕ → Option Identifier → ℕ
place_or at None = at
place_or at (Some x) = x.span.begin

abbrev pub default_function : ℕ → Functioned → Listed
default_function at f =
    record nothing { functions = record { at = place_or at f.name; made = f.lowered PlainForm } ∷ [] }

abbrev pub default_class : ℕ → Classed → Listed
default_class at c =
    record nothing { lexicals = place_or at c.name ∷ []; statements = class_at (place_or at c.name) c }

-- 15.2.3.11
abbrev pub value_exported : ℕ → Expressed → Lowering (List CoreStat)
value_exported at x = do
  y ← valued x
  v ← declared_at at
  pure (default_exported v y ∷ [])

abbrev pub default_value : ℕ → Expressed → Listed
default_value at x = record nothing { lexicals = at ∷ []; statements = value_exported at x }

abbrev pub default_listed : ℕ → DefaultExport → Listed
default_listed at (DefaultFunction f) = default_function at (function_lowered f)
default_listed at (DefaultClass c) = default_class at (class_lowered c)
default_listed at (DefaultValue x) = default_value at (expression_lowered x)

abbrev pub item_listed : Item → Listed
item_listed (item.Import span default_ names from) = nothing
item_listed (item.ExportNames span names from) = nothing
item_listed (item.ExportAll span from) = nothing
item_listed (item.ExportDeclaration span s) = (statement_lowered s).listed
item_listed (item.ExportDefault span word x) = default_listed word.begin x
item_listed (item.Statement s) = (statement_lowered s).listed

abbrev pub items_listed : List Listed → Listed
items_listed ls = record {
  variables = joined (λ l. l.variables) ls;
  lexicals = joined (λ l. l.lexicals) ls;
  functions = joined (λ l. l.functions) ls;
  statements = all_by (λ l. l.statements) ls;
}

abbrev pub module_listed : Module → Listed
module_listed m = items_listed (map item_listed m.items)

-- ---- what is instantiated (15.2.1.16.4)

abbrev pub own_places : Listed → Bindings → Context → List ℕ
own_places l b c = filter (declares_first b c) (places l.variables) ++ l.lexicals ++ map (λ h. h.at) l.functions

abbrev pub module_names : Listed → Bindings → Context → List ScopedName
module_names l b c = scoped_names (own_places l b c) b c

-- the binding that a name of a namespace object ends at
abbrev pub exported_by : Bindings → Var → Option Binding → Meaning → NamedValue
exported_by b x None m = UndefinedName
exported_by b x (Some y) Itself = imported_value x (can_be_unready y.kind false)
exported_by b x (Some y) (Elsewhere z) = imported_value z true
exported_by b x (Some y) (NamespaceOf z) = imported_value z false
exported_by b x (Some y) (OfHost host) = HostName host

abbrev pub exported_own : Bindings → ℕ → Option ℕ → NamedValue
exported_own b home None = UndefinedName
exported_own b home (Some n) =
    exported_by b (own_var b home n) (own_binding b.scopes (Own home n)) (meaning b (own_var b home n))

abbrev pub exported_value : Entry → Bindings → Context → NamedValue
exported_value e b c = exported_own b e.home (named_in e.local (slice_get b.scopes.modules.items e.home))

abbrev pub exported : Entry → Lowering Export
exported e = do
  x ← asks (exported_value e)
  getter ← define (export_getter (value_of (found x)))
  pure (record { name = units_of e.name; getter = getter })

-- a module has a namespace object where one is imported (15.2.1.18)
abbrev pub namespace_objects : Bool → Var → List Entry → Lowering (List NamespaceObject)
namespace_objects false x es = pure []
namespace_objects true x es = do
  exports ← each_by exported es
  pure (record { var = x; exports = exports } ∷ [])

-- ---- the part of a module

pub record ModuleParts : Type 0 where
  pub scope : ModuleScope
  pub statements : List CoreStat

abbrev pub module_parts : Bool → Var → List Entry → Listed → Lowering ModuleParts
module_parts is_wanted x es l = do
  names ← asks (module_names l)
  lexical ← asks (scoped_names l.lexicals)
  functions ← all_hoisted l.functions
  namespaces ← namespace_objects is_wanted x es
  statements ← l.statements
  pure (record {
    scope = record {
      names = names ++ map namespace_name namespaces;
      lexical = lexical;
      functions = functions;
      namespaces = namespaces;
    };
    statements = statements;
  })
  where
    namespace_name : NamespaceObject → ScopedName
    namespace_name n = record { var = n.var; shared = false; mutable = true }

abbrev pub module_part : Bool → Bool → Var → List Entry → Listed → Lowering CorePart
module_part is_entry is_wanted x es l = do
  m ← inside (module_parts is_wanted x es l)
  pure (part is_entry m.value.scope m.value.statements m.locals)

-- ---- namespaces that are imported

abbrev pub namespace_at : ImportedNames → List ℕ
namespace_at NoNames = []
namespace_at (Namespace n) = n.span.begin ∷ []
namespace_at (ListedNames ns) = []

abbrev pub module_in : Option (Option ℕ) → Option ℕ
module_in None = None
module_in (Some m) = m

-- the places of the names of imported namespaces, and their modules
pub record ImportedSpace : Type 0 where
  pub at : ℕ
  pub home : Option ℕ

abbrev pub item_spaces : List Request → Item → List ImportedSpace
item_spaces rs (item.Import span default_ names from) =
    map (λ at. record { at = at; home = module_in (requested rs from.text) }) (namespace_at names)
item_spaces rs _ = []

abbrev pub imported_spaces : LoadedModule → List ImportedSpace
imported_spaces m = joined (item_spaces m.requests) m.tree.items

abbrev pub is_module : ℕ → Option ℕ → Bool
is_module n None = false
is_module n (Some m) = nat_eq n m

abbrev pub is_wanted : List LoadedModule → ℕ → Bool
is_wanted ms n = list_any (λ s. is_module n s.home) (joined imported_spaces ms)

abbrev pub space_at : ℕ → List ImportedSpace → Option ℕ
space_at at [] = None
space_at at (s ∷ ss) = cond (nat_eq s.at at) s.home (space_at at ss)

abbrev pub space_in : ℕ → Option LoadedModule → Option ℕ
space_in at None = None
space_in at (Some m) = space_at at (imported_spaces m)

-- ---- what the bindings of a graph stand for

abbrev pub offsets_from : ℕ → List ModuleScopes → List ℕ
offsets_from n [] = []
offsets_from n (s ∷ ss) = n ∷ offsets_from (n + length s.names) ss

abbrev pub bindings_count : Scopes → ℕ
bindings_count s = sum_by (λ m. length m.names) s.modules.items

-- the namespace object of each module has a variable behind those of all bindings
abbrev pub namespace_var : Scopes → ℕ → Var
namespace_var s n = record { 0 = bindings_count s + n }

abbrev pub is_import : Option Binding → Bool
is_import None = false
is_import (Some b) = of_kind b.kind
  where
    of_kind : Kind → Bool
    of_kind kind.Import = true
    of_kind k = false

-- an import without an ending is that of a namespace
abbrev pub space_of : Scopes → Option ℕ → Meaning
space_of s None = Itself
space_of s (Some n) = NamespaceOf (namespace_var s n)

abbrev pub own_meaning : Graph → Scopes → ℕ → Option Binding → Meaning
own_meaning g s home None = Itself
own_meaning g s home (Some b) = space_of s (space_in b.at (slice_get g.modules home))

abbrev pub unless_itself : Var → Meaning → Meaning
unless_itself x Itself = Elsewhere x
unless_itself x (Elsewhere y) = Elsewhere y
unless_itself x (NamespaceOf y) = NamespaceOf y
unless_itself x (OfHost host) = OfHost host

abbrev pub if_import : Bool → Meaning → Meaning
if_import true m = m
if_import false m = Itself

abbrev pub name_meaning : Graph → Scopes → ℕ → ℕ → Meaning
name_meaning g s home number =
    if_import (is_import (own_binding s (Own home number))) (own_meaning g s home (own_binding s (Own home number)))

abbrev pub variable_of : Scopes → ℕ → ℕ → Var
variable_of s home number = own_var (record { scopes = s; offsets = offsets_from 0 s.modules.items; meanings = [] }) home number

-- what it imports, or else what it is itself
abbrev pub ended_at : Graph → Scopes → ℕ → ℕ → Option BindingId → Meaning
ended_at g s home number None = name_meaning g s home number
ended_at g s home number (Some (Own h n)) = unless_itself (variable_of s h n) (name_meaning g s h n)
ended_at g s home number (Some (Global n)) = Itself
ended_at g s home number (Some (Host host)) = OfHost host

abbrev pub meaning_of : Graph → Scopes → ℕ → ℕ → Meaning
meaning_of g s home number = ended_at g s home number (first_id (end_ids s (Own home number)))

abbrev pub meanings_from : Graph → Scopes → ℕ → ℕ → List Binding → List Meaning
meanings_from g s home number [] = []
meanings_from g s home number (x ∷ xs) = meaning_of g s home number ∷ meanings_from g s home (number + 1) xs

abbrev pub all_meanings : Graph → Scopes → ℕ → List ModuleScopes → List Meaning
all_meanings g s home [] = []
all_meanings g s home (m ∷ ms) = meanings_from g s home 0 m.names ++ all_meanings g s (home + 1) ms

abbrev pub bindings_of : Graph → Scopes → Bindings
bindings_of g s = record {
  scopes = s;
  offsets = offsets_from 0 s.modules.items;
  meanings = all_meanings g s 0 s.modules.items;
}

-- each binding has its name as a hint
abbrev pub hints : List ModuleScopes → List (Option (List ℕ))
hints ms = flat_map (λ m. map (λ b. Some b.name) m.names) ms

abbrev pub first_names : Graph → Scopes → Fresh
first_names g s = record { hints = hints s.modules.items ++ replicate (length g.modules) None }

-- ---- the core of a graph

abbrev pub is_zero : ℕ → Bool
is_zero n = nat_eq n 0

-- in the module of this number, and in nothing else
abbrev pub in_module : ℕ → Context
in_module n = record { home = n; this = OfModule; heads = []; dead = []; targets = [] }

abbrev pub numbered_part : Graph → Scopes → ℕ → LoadedModule → NamespaceEntries → Lowering CorePart
numbered_part g s n m es = within (λ c. in_module n)
    (module_part (is_zero n) (is_wanted g.modules n) (namespace_var s n) es.entries (module_listed m.tree))

abbrev pub parts_from : Graph → Scopes → ℕ → List LoadedModule → List NamespaceEntries → List (Lowering CorePart)
parts_from g s n [] es = []
parts_from g s n (m ∷ ms) [] = []
parts_from g s n (m ∷ ms) (e ∷ es) = numbered_part g s n m e ∷ parts_from g s (n + 1) ms es

abbrev pub start : Graph → Scopes → Lowerer
start g s = record {
  names = record { fresh = first_names g s; locals = [] };
  functions = [];
  seen = unseen;
}

abbrev pub core_of : List ℕ → List CorePart × Lowerer → Core
core_of order x = record {
  functions = x.1.functions;
  parts = x.0;
  order = order;
  fresh = x.1.names.fresh;
}

-- of a linked graph, its scopes, the names of the namespace object of each module (specs/Namespaces.antt), and the order in which the
-- modules are evaluated (15.2.1.16.5)
abbrev pub lowered : Graph → Scopes → List NamespaceEntries → List ℕ → Core
lowered g s es order =
    core_of order (each (parts_from g s 0 g.modules es) (bindings_of g s) (in_module 0) (start g s))
