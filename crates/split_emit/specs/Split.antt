-- What the scripts of a linked graph are: the loader, one for each module in load order, and the start, each with a map of its own.
use Rattle.std.specs.Prelude.{◌≡◌, ℕ, ◌+◌, ◌-◌, true, cond, nat_eq, nat_lt, codes, decimal, length, take, drop, List, [], ◌∷◌, ◌++◌, map, string_bytes}
use Rattle.std.specs.List.{flat_map}
use Rattle.es_outside.specs.declared.events.Site.{Site}
use Rattle.core_ast.specs.declared.whole.Core.{Core}
use Rattle.core_primitives.specs.Used.{used_primitives}
use Rattle.emit_list.specs.Scripts.{scripts}
use Rattle.es5_ast.specs.declared.tree.Script.{Script}
use Rattle.es5_ast.specs.declared.tree.Stat5.{Stat5}
use Rattle.es5_printable.specs.Printable.{is_printable}
use Rattle.es5_printer.specs.declared.mark.Mark.{Mark}
use Rattle.es5_printer.specs.Layout.{text_of}
use Rattle.es6_ast.specs.declared.graph.Graph.{Graph}
use Rattle.es6_ast.specs.declared.graph.LoadedModule.{LoadedModule}
use Rattle.helpers.specs.Definitions.{AreDefinitions}
use Rattle.helpers.specs.Wanted.{wanted}
use Rattle.module_lowering.specs.declared.meaning.NamespaceEntries.{NamespaceEntries}
use Rattle.module_lowering.specs.Modules.{lowered}
use Rattle.module_lowering.specs.Namespaces.{AreNamespaces}
use Rattle.pass_rules.specs.Scopes.{without_scopes}
use Rattle.pipeline.specs.Compiled.{order_of}
use Rattle.scope_analysis.specs.Answers.{AreScopes}
use Rattle.scope_analysis.specs.declared.scopes.Scopes.{Scopes}
use Rattle.script_maps.specs.Mapped.{IsMapped}
use Rattle.shared_cells.specs.Cells.{shared, without_holder}
use Rattle.split_emit.specs.declared.scripts.SplitScript.{SplitScript}
use Rattle.pass_rules.specs.state_rules.States.{with_machines}
use Rattle.pass_rules.specs.yield_rules.Yields.{with_yields_flat}

-- ---- the script at each place: the loader at 0, then the modules, and the start behind them

-- where so many modules are
abbrev pub name_at : ℕ → ℕ → List ℕ
name_at count place =
    cond (nat_eq place 0) (codes "loader.js")
    (cond (nat_lt count place) (codes "start.js") (decimal (place - 1) ++ codes ".js"))

-- the module whose script stands there, which is the one source of its map
abbrev pub sources_at : List LoadedModule → ℕ → List LoadedModule
sources_at modules place = cond (nat_eq place 0) [] (take 1 (drop (place - 1) modules))

-- a site in that module, which is the map's first; one that isn't there leads nowhere
abbrev pub site_in : ℕ → Site → Site
site_in number s = record s { «module» = cond (nat_eq s.module number) 0 1 }

abbrev pub mark_in : ℕ → Mark → Mark
mark_in number m = record m { site = site_in number m.site }

abbrev pub marks_at : ℕ → List Mark → List Mark
marks_at place marks = map (mark_in (place - 1)) marks

-- the bytes are the text of the script at this place, with the line of its map behind it
abbrev pub IsTextAt : List LoadedModule → ℕ → Script → List ℕ → Type 0
IsTextAt modules place script bytes =
    let text = text_of script.statements in
    IsMapped (sources_at modules place) (marks_at place text.marks) text.bytes bytes

-- which is one of the grammar of scripts
pub record IsScriptAt (modules : List LoadedModule) (place : ℕ) (script : Script) (s : SplitScript) : Type 0 where
  pub name : string_bytes s.name ≡ name_at (length modules) place
  pub printable : is_printable script ≡ true
  pub written : IsTextAt modules place script s.bytes.items

-- from this place on
abbrev pub AreScriptsFrom : List LoadedModule → ℕ → List Script → List SplitScript → Type 0
AreScriptsFrom modules place [] [] = Unit {0}
AreScriptsFrom modules place (x ∷ xs) (s ∷ ss) = IsScriptAt modules place x s × AreScriptsFrom modules (place + 1) xs ss
AreScriptsFrom modules place _ _ = ⊥

-- ---- a graph

-- what the passes leave of a core in which the names that several modules mention hold cells
abbrev pub passed : Core → Core
passed core = without_holder (with_machines (with_yields_flat (without_scopes (shared core))))

abbrev pub core_of : Graph → Scopes → List NamespaceEntries → Core
core_of g s es = passed (lowered g s es (order_of g))

pub record AreWrittenOf (modules : List LoadedModule) (core : Core) (hosts : List (List ℕ)) (ss : List SplitScript) : Type 0 where
  pub helpers : List Stat5
  pub are_helpers : AreDefinitions (wanted (used_primitives core)) helpers
  pub written : AreScriptsFrom modules 0 (scripts core hosts helpers) ss

-- The scripts are those of a linked graph, by its scopes and the names of its namespace objects.
pub record AreSplit (g : Graph) (hosts : List (List ℕ)) (ss : List SplitScript) : Type 0 where
  pub scopes : Scopes
  pub are_scopes : AreScopes g scopes
  pub namespaces : List NamespaceEntries
  pub are_namespaces : AreNamespaces g hosts 0 g.modules namespaces
  pub written : AreWrittenOf g.modules (core_of g scopes namespaces) hosts ss

-- ---- the text of a list: for each script a line with its name and the number of its bytes, and its bytes

abbrev pub script_text : SplitScript → List ℕ
script_text s = string_bytes s.name ++ 32 ∷ decimal (length s.bytes.items) ++ 10 ∷ s.bytes.items

abbrev pub split_text : List SplitScript → List ℕ
split_text ss = flat_map script_text ss

-- the bytes are the text of a graph's scripts
pub record IsSplitText (g : Graph) (hosts : List (List ℕ)) (bytes : List ℕ) : Type 0 where
  pub scripts : List SplitScript
  pub are_split : AreSplit g hosts scripts
  pub bytes_are : bytes ≡ split_text scripts
