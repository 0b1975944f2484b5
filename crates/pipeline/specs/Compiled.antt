-- What the script of a linked graph is.
use Rattle.std.specs.Prelude.{◌≡◌, true, List, ℕ, map}
use Rattle.std.specs.List.{filter_map}
use Rattle.core_ast.specs.declared.whole.Core.{Core}
use Rattle.core_primitives.specs.Used.{used_primitives}
use Rattle.emission_rules.specs.Functions.{emitted}
use Rattle.es5_ast.specs.declared.tree.Stat5.{Stat5}
use Rattle.es5_printable.specs.Printable.{is_printable}
use Rattle.es5_printer.specs.Layout.{text_of}
use Rattle.es6_ast.specs.declared.graph.Graph.{Graph}
use Rattle.es6_ast.specs.declared.graph.LoadedModule.{LoadedModule}
use Rattle.helpers.specs.Definitions.{AreDefinitions}
use Rattle.helpers.specs.Wanted.{wanted}
use Rattle.module_lowering.specs.declared.meaning.NamespaceEntries.{NamespaceEntries}
use Rattle.module_lowering.specs.Modules.{lowered}
use Rattle.module_lowering.specs.Namespaces.{AreNamespaces}
use Rattle.module_order.specs.Order.{evaluation_order}
use Rattle.pass_rules.specs.Scopes.{without_scopes}
use Rattle.scope_analysis.specs.Answers.{AreScopes}
use Rattle.scope_analysis.specs.declared.scopes.Scopes.{Scopes}
use Rattle.script_maps.specs.Mapped.{IsMapped}
use Rattle.pass_rules.specs.state_rules.States.{with_machines}
use Rattle.pass_rules.specs.yield_rules.Yields.{with_yields_flat}

-- the modules that a module requests, in the order of its requests; the host is none (15.2.1.16.5, step 6)
abbrev pub requested_modules : LoadedModule → List ℕ
requested_modules m = filter_map (λ r. r.module) m.requests

abbrev pub order_of : Graph → List ℕ
order_of g = evaluation_order (map requested_modules g.modules) 0

-- what the passes leave of the core that the modules are lowered to
abbrev pub core_of : Graph → Scopes → List NamespaceEntries → Core
core_of g s es = with_machines (with_yields_flat (without_scopes (lowered g s es (order_of g))))

-- The bytes are the text of a core's script, which is one of the grammar of scripts, with the line of its map behind it.
pub record IsWrittenOf (modules : List LoadedModule) (core : Core) (hosts : List (List ℕ)) (bytes : List ℕ) : Type 0 where
  pub helpers : List Stat5
  pub are_helpers : AreDefinitions (wanted (used_primitives core)) helpers
  pub printable : is_printable (emitted core hosts helpers) ≡ true
  pub mapped : IsMapped modules (text_of (emitted core hosts helpers).statements).marks (text_of (emitted core hosts helpers).statements).bytes bytes

-- The bytes are those of the core of a linked graph, by its scopes and the names of its namespace objects.
pub record IsCompiled (g : Graph) (hosts : List (List ℕ)) (bytes : List ℕ) : Type 0 where
  pub scopes : Scopes
  pub are_scopes : AreScopes g scopes
  pub namespaces : List NamespaceEntries
  pub are_namespaces : AreNamespaces g hosts 0 g.modules namespaces
  pub written : IsWrittenOf g.modules (core_of g scopes namespaces) hosts bytes
