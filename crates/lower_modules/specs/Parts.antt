-- The parts of modules, in steps.
use Rattle.std.specs.Prelude.{ℕ, ◌+◌, Bool, false, true, List, [], ◌∷◌, ◌++◌, map}
use Rattle.core_ast.specs.declared.parts.ScopedName.{ScopedName}
use Rattle.core_ast.specs.declared.parts.Var.{Var}
use Rattle.core_ast.specs.declared.whole.CorePart.{CorePart}
use Rattle.es6_ast.specs.declared.graph.LoadedModule.{LoadedModule}
use Rattle.es6_ast.specs.declared.module.Item.{Item}
use Rattle.lowering_rules.specs.declared.statement_rules.bodies.ModuleScope.{ModuleScope}
use Rattle.lowering_rules.specs.declared.statement_rules.bodies.Namespace.{Namespace}
use Rattle.module_lowering.specs.declared.context.Context.{Context}
use Rattle.module_lowering.specs.declared.meaning.Entry.{Entry}
use Rattle.module_lowering.specs.declared.meaning.NamespaceEntries.{NamespaceEntries}
use Rattle.module_lowering.specs.Bindings.{Bindings}
use Rattle.module_lowering.specs.Functions.{all_hoisted}
use Rattle.module_lowering.specs.Lowering.{asks, pure, within, Lowering, ◌>>=◌}
use Rattle.module_lowering.specs.Modules.{ModuleParts, in_module, is_zero, module_listed, module_names, module_part, namespace_objects}
use Rattle.module_lowering.specs.Names.{scoped_names}
use Rattle.module_lowering.specs.Nodes.{Listed, nothing}
use Rattle.lower_listed.specs.Hoisted.{hoisted_of}
use Rattle.lower_modules.specs.declared.parts.ModuleParts.{ModuleParts as MadeParts}
use Rattle.lower_modules.specs.declared.scope.Declarations.{Declarations}
use Rattle.lower_modules.specs.declared.scope.ScopeNames.{ScopeNames}
use Rattle.lower_modules.specs.declared.scope.ScopeValues.{ScopeValues}
use Rattle.lower_modules.specs.Items.{functions_listed, lexicals_listed, variables_listed}

abbrev pub declared_in : List Item → Listed
declared_in items = record nothing {
  variables = variables_listed items;
  lexicals = lexicals_listed items;
  functions = functions_listed items;
}

-- what is declared, as it is borrowed from a tree
abbrev pub listed_of : Declarations → Listed
listed_of d = record nothing { variables = d.variables; lexicals = d.lexicals; functions = map hoisted_of d.functions }

abbrev pub scope_names : Listed → Bindings → Context → ScopeNames
scope_names l b c = record { names = module_names l b c; lexical = scoped_names l.lexicals b c }

abbrev pub scope_values : Bool → Var → List Entry → Listed → Lowering ScopeValues
scope_values is_wanted x es l = do
  functions ← all_hoisted l.functions
  namespaces ← namespace_objects is_wanted x es
  pure (record { functions = functions; namespaces = namespaces })

abbrev pub namespace_names : List Namespace → List ScopedName
namespace_names ns = map (λ n. record { var = n.var; shared = false; mutable = true }) ns

abbrev pub scope_made : Bool → Var → List Entry → Listed → Lowering ModuleScope
scope_made is_wanted x es l = do
  own ← asks (scope_names l)
  values ← scope_values is_wanted x es l
  pure (record {
    names = own.names ++ namespace_names values.namespaces;
    lexical = own.lexical;
    functions = values.functions;
    namespaces = values.namespaces;
  })

-- what code makes, as the parts of a module
abbrev pub parts_made : MadeParts → ModuleParts
parts_made p = record { scope = p.scope; statements = p.statements }

-- by which modules' namespaces are wanted, and how many bindings there are
abbrev pub numbered_by : (ℕ → Bool) → ℕ → ℕ → LoadedModule → NamespaceEntries → Lowering CorePart
numbered_by wanted count n m es = within (λ c. in_module n)
    (module_part (is_zero n) (wanted n) (record { 0 = count + n }) es.entries (module_listed m.tree))

abbrev pub parts_by : (ℕ → Bool) → ℕ → ℕ → List LoadedModule → List NamespaceEntries → List (Lowering CorePart)
parts_by wanted count n [] es = []
parts_by wanted count n (m ∷ ms) [] = []
parts_by wanted count n (m ∷ ms) (e ∷ es) = numbered_by wanted count n m e ∷ parts_by wanted count (n + 1) ms es
