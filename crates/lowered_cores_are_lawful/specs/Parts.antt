-- What is asked of modules and of the names of their namespace objects.
use Rattle.std.specs.Prelude.{ℕ, length, ◌+◌, ◌&&◌, Bool, true, not, nat_lt, List, [], ◌∷◌, Option, None, Some, IsTrue, slice_get}
use Rattle.std.specs.List.{list_all}
use Rattle.es6_ast.specs.declared.graph.LoadedModule.{LoadedModule}
use Rattle.core_ast.specs.declared.whole.Core.{Core}
use Rattle.core_ast.specs.Lawful.{functions_lawful, part_lawful, round_part}
use Rattle.scope_analysis.specs.Ends.{named_in}
use Rattle.module_lowering.specs.Bindings.{Bindings, meaning, own_var}
use Rattle.module_lowering.specs.Modules.{in_module, module_listed}
use Rattle.module_lowering.specs.declared.meaning.Entry.{Entry}
use Rattle.module_lowering.specs.declared.meaning.NamespaceEntries.{NamespaceEntries}
use Rattle.lowered_cores_are_lawful.specs.Conditions.{is_host}
use Rattle.lowered_cores_are_lawful.specs.Nodes.{ListedIs}

-- a name of a namespace object ends at a variable, not at a function of the host (15.2.1.18)
abbrev pub ends_well : Bindings → ℕ → ℕ → Option ℕ → Bool
ends_well b names home None = true
ends_well b names home (Some n) = nat_lt (own_var b home n).0 names && not (is_host (meaning b (own_var b home n)))

abbrev pub entry_ends_well : Bindings → ℕ → Entry → Bool
entry_ends_well b names e = ends_well b names e.home (named_in e.local (slice_get b.scopes.modules.items e.home))

-- of the modules from this number on: the variable of the namespace object of each is drawn, and its items are lowered to lawful ones
abbrev pub ModulesAre : Bindings → ℕ → ℕ → ℕ → List LoadedModule → List NamespaceEntries → Type 0
ModulesAre b hosts names n [] es = Unit {0}
ModulesAre b hosts names n (m ∷ ms) [] = Unit {0}
ModulesAre b hosts names n (m ∷ ms) (e ∷ es) =
    ListedIs b (in_module n) (round_part 0 hosts 0) (module_listed m.tree) × IsTrue (list_all (entry_ends_well b names) e.entries) × ModulesAre b hosts names (n + 1) ms es

-- the functions and the parts of a core are lawful, for so many hosts, so that a jump, a return and a yield has its target, an operation its
-- parts, and names are drawn: of what makes a core lawful, that it declares a name once and holds a function once isn't said here
abbrev pub CoreIs : ℕ → Core → Type 0
CoreIs hosts core =
    let names = length core.fresh.hints in
    let functions = length core.functions in
    IsTrue (functions_lawful names hosts 0 core.functions) × IsTrue (list_all (part_lawful names hosts functions) core.parts)
