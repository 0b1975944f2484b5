-- The scripts that a core is written as: the loader, one for each of its parts, and the start. They share one global object, the table,
-- which has what parts call, the cells of the names that several parts mention, and under its number what is left to do of each part.
use Rattle.std.specs.Prelude.{ℕ, ◌+◌, ◌&&◌, Bool, codes, cond, filter, List, [], ◌∷◌, ◌++◌, map, Option, None, Some}
use Rattle.std.specs.List.{flat_map}
use Rattle.es_outside.specs.HostNames.{is_among}
use Rattle.core_ast.specs.declared.parts.Primitive.{Primitive}
use Rattle.core_ast.specs.declared.parts.Primitive.TheVariants as primitive
use Rattle.core_ast.specs.declared.parts.ScopedName.{ScopedName}
use Rattle.core_ast.specs.declared.whole.Core.{Core}
use Rattle.core_ast.specs.declared.whole.CorePart.{CorePart}
use Rattle.es5_ast.specs.declared.tree.Declared5.{Declared5}
use Rattle.es5_ast.specs.declared.tree.Expr5.{Expr5}
use Rattle.es5_ast.specs.declared.tree.Expr5.TheVariants as expr
use Rattle.es5_ast.specs.declared.tree.Identifier5.{Identifier5}
use Rattle.es5_ast.specs.declared.tree.Property5.{Property5}
use Rattle.es5_ast.specs.declared.tree.Script.{Script}
use Rattle.es5_ast.specs.declared.tree.Stat5.{Stat5}
use Rattle.es5_ast.specs.declared.tree.Stat5.TheVariants as stat
use Rattle.emission_rules.specs.declared.scene.Scene.{Scene}
use Rattle.emission_rules.specs.Functions.{functions_emitted, generator_name, handed, module_emitted, own_declarations, property, scene_by}
use Rattle.emission_rules.specs.Naming.{helped_names, sign}
use Rattle.emission_rules.specs.Nodes.{called, declared, expression, function, identifier, index, integer, member, name, nothing, nowhere, stored, text, variables}
use Rattle.emission_rules.specs.Primitives.{apply_name, call_name, cell_key, empty_name, helper_name}
use Rattle.emission_rules.specs.Scenes.{Emits, gives, name_of}

-- ---- names

-- The table's name, the one that the scripts have at their top level. It ends in more `$` than stand side by side in any name of a
-- host or helper, and no name of a core ends in one.
abbrev pub table_name : List (List ℕ) → List Stat5 → List ℕ
table_name hosts helpers = codes "es5c" ++ sign (helped_names helpers ++ hosts)

unfoldable pub primitives : List Primitive
primitives =
    primitive.CheckReady ∷ primitive.RefuseConst ∷ primitive.CellMake (record { 0 = 0 }) ∷ primitive.ToText ∷ primitive.IterStart
    ∷ primitive.IterStep ∷ primitive.IterValue ∷ primitive.IterClose ∷ primitive.RestList ∷ primitive.SpreadList
    ∷ primitive.Construct ∷ primitive.NamespaceMake ∷ primitive.ClassMake ∷ primitive.ClassGuard ∷ primitive.NewTarget
    ∷ primitive.SuperConstruct ∷ primitive.ThisBind ∷ primitive.SuperGet ∷ primitive.MethodPut ∷ primitive.AccessorPut
    ∷ primitive.ArgumentsPut ∷ primitive.GeneratorMake ∷ primitive.GeneratorResume ∷ primitive.DelegateStep ∷ primitive.Power
    ∷ primitive.TemplateObject ∷ primitive.IncludesPut ∷ []

-- what is written for a part can mention these names of the script's own and of helpers
unfoldable pub callable : List (List ℕ)
callable = empty_name ∷ call_name ∷ apply_name ∷ generator_name ∷ map helper_name primitives

abbrev pub is_callable : List ℕ → Bool
is_callable name = is_among callable name

abbrev pub called_names : List Stat5 → List (List ℕ)
called_names helpers = filter is_callable (helped_names helpers)

-- ---- the loader

-- a name that holds a cell is made for the part that may write it; the other parts that mention it have it, too
abbrev pub is_made : ScopedName → Bool
is_made n = n.shared && n.mutable

-- its content is undefined at first, as a variable is
abbrev pub new_cell : Expr5
new_cell = expr.ObjectList nowhere (property cell_key nothing ∷ [])

abbrev pub cell_property : Scene → ScopedName → Property5
cell_property s n = property (name_of s n.var) new_cell

abbrev pub cells_made : Scene → List ScopedName → List Property5
cells_made s names = map (cell_property s) (filter is_made names)

abbrev pub cells : Scene → List CorePart → List Property5
cells s parts = flat_map (λ p. cells_made s p.names) parts

abbrev pub shown : List (List ℕ) → List Property5
shown names = map (λ n. property n (name n)) names

abbrev pub returned : Expr5 → Stat5
returned x = stat.Return nowhere (Some x)

-- the properties that the table has at first
abbrev pub properties : List (List ℕ) → Scene → List CorePart → List Property5
properties names s parts = shown names ++ cells s parts

-- the helpers stand in a function, so that no name of theirs is the program's
abbrev pub loading : List Stat5 → List Property5 → Expr5
loading helpers ps = called
    (function None [] (variables own_declarations ++ helpers ++ returned (expr.ObjectList nowhere ps) ∷ [])) [] None

-- 14.1
abbrev pub strict : List Stat5 → Script
strict body = record { span = nowhere; statements = expression (text (codes "use strict")) ∷ body }

abbrev pub declaring : List ℕ → Expr5 → Script
declaring table value = strict (variables (declared table (Some value) ∷ []))

abbrev pub loader : List ℕ → List (List ℕ) → Scene → List CorePart → List Stat5 → Script
loader table names s parts helpers = declaring table (loading helpers (properties names s parts))

-- ---- a part

abbrev pub of_table : List ℕ → List ℕ → Expr5
of_table table n = member (name table) n

abbrev pub taken_names : List ℕ → List (List ℕ) → List Declared5
taken_names table names = map (λ n. declared n (Some (of_table table n))) names

-- a cell is the table's
abbrev pub scoped_value : List ℕ → List ℕ → Bool → Option Expr5
scoped_value table n shared = cond shared (Some (of_table table n)) None

abbrev pub scoped_name : List ℕ → Scene → ScopedName → Declared5
scoped_name table s n = declared (name_of s n.var) (scoped_value table (name_of s n.var) n.shared)

abbrev pub part_names : List ℕ → List (List ℕ) → Scene → CorePart → List Declared5
part_names table names s p = taken_names table names ++ map (scoped_name table s) p.names

-- the part begins at once, and gives a function that does the rest
abbrev pub part_body : List Declared5 → CorePart → Emits (List Stat5)
part_body ds p s =
    let begun = module_emitted p.instantiate [] s in
    let run = module_emitted p.body [] begun.scene in
    gives (variables ds ++ begun.value ++ returned (function None [] run.value) ∷ []) run.scene

-- where the table has what is left to do of the part with this number
abbrev pub slot : List ℕ → ℕ → Expr5
slot table n = index (name table) (integer n)

abbrev pub part_script : List (List ℕ) → List ℕ → ℕ → List Identifier5 → List Stat5 → Script
part_script hosts table n parameters body =
    strict (expression (stored (slot table n) (called (function None parameters body) (handed hosts) None)) ∷ [])

abbrev pub identifiers : List (List ℕ) → List Identifier5
identifiers names = map (λ n. identifier n) names

abbrev pub script_of : List (List ℕ) → List ℕ → List (List ℕ) → ℕ → CorePart → Emits Script
script_of hosts table names n p s =
    let made = part_body (part_names table names s p) p s in
    gives (part_script hosts table n (identifiers s.hosts) made.value) made.scene

-- from this number on
abbrev pub part_scripts : List (List ℕ) → List ℕ → List (List ℕ) → ℕ → List CorePart → Scene → List Script
part_scripts hosts table names n [] s = []
part_scripts hosts table names n (p ∷ ps) s =
    let made = script_of hosts table names n p s in
    made.value ∷ part_scripts hosts table names (n + 1) ps made.scene

-- ---- the start: what is left of the parts is done in their order

abbrev pub begun : List ℕ → ℕ → Stat5
begun table n = expression (called (slot table n) [] None)

abbrev pub start : List ℕ → List ℕ → Script
start table order = strict (map (begun table) order)

-- ---- all

abbrev pub scripts_in : Core → List (List ℕ) → List Stat5 → List ℕ → List (List ℕ) → Scene → List Script
scripts_in core hosts helpers table names s =
    loader table names s core.parts helpers
    ∷ part_scripts hosts table names 0 core.parts s ++ start table core.order ∷ []

abbrev pub scripts : Core → List (List ℕ) → List Stat5 → List Script
scripts core hosts helpers =
    scripts_in core hosts helpers (table_name hosts helpers) (called_names helpers)
    (functions_emitted core.functions (scene_by core.fresh.hints hosts helpers))
