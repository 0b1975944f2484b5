-- Which definitions the script of a core has: those that it calls, and those that these use.
use Rattle.std.specs.Prelude.{ℕ, Bool, false, cond, ◌||◌, ◌&&◌, codes, List, [], ◌∷◌, ◌++◌, filter, Option, None, Some}
use Rattle.std.specs.List.{list_any}
use Rattle.std.specs.Str.{bytes_eq}
use Rattle.es_outside.specs.HostNames.{is_among}
use Rattle.core_ast.specs.declared.parts.Primitive.{Primitive}
use Rattle.core_ast.specs.declared.parts.Primitive.TheVariants as primitive
use Rattle.core_primitives.specs.declared.used.UsedPrimitives.{UsedPrimitives}
use Rattle.es5_ast.specs.declared.tree.Stat5.{Stat5}
use Rattle.emission_rules.specs.Functions.{generator_name}
use Rattle.emission_rules.specs.Naming.{declares}
use Rattle.emission_rules.specs.Primitives.{helper_name}
use Rattle.helpers.specs.Table.{classes, generators, iterators, lists, templates, values}

-- ---- what a script calls itself

abbrev pub called : Bool → Primitive → List ℕ → Bool
called used p name = used && bytes_eq (helper_name p) name

unfoldable pub asked_value : UsedPrimitives → List ℕ → Bool
asked_value u name =
    ((((called u.check_ready primitive.CheckReady name
    || called u.refuse_const primitive.RefuseConst name)
    || called u.cell_make (primitive.CellMake (record { 0 = 0 })) name)
    || called u.to_text primitive.ToText name)
    || called u.power primitive.Power name)
    || called u.template_object primitive.TemplateObject name

unfoldable pub asked_iteration : UsedPrimitives → List ℕ → Bool
asked_iteration u name =
    (((((called u.iter_start primitive.IterStart name
    || called u.iter_step primitive.IterStep name)
    || called u.iter_value primitive.IterValue name)
    || called u.iter_close primitive.IterClose name)
    || called u.rest_list primitive.RestList name)
    || called u.spread_list primitive.SpreadList name)
    || called u.arguments_put primitive.ArgumentsPut name

unfoldable pub asked_class : UsedPrimitives → List ℕ → Bool
asked_class u name =
    (((((called u.construct primitive.Construct name
    || called u.class_make primitive.ClassMake name)
    || called u.class_guard primitive.ClassGuard name)
    || called u.new_target primitive.NewTarget name)
    || called u.super_construct primitive.SuperConstruct name)
    || called u.this_bind primitive.ThisBind name)
    || called u.super_get primitive.SuperGet name

unfoldable pub asked_object : UsedPrimitives → List ℕ → Bool
asked_object u name =
    ((called u.method_put primitive.MethodPut name
    || called u.accessor_put primitive.AccessorPut name)
    || called u.namespace_make primitive.NamespaceMake name)
    || called u.includes_put primitive.IncludesPut name

-- the function of a generator is made by a call, too
unfoldable pub asked_generator : UsedPrimitives → List ℕ → Bool
asked_generator u name =
    ((called u.generator_make primitive.GeneratorMake name
    || (u.generator_make && bytes_eq generator_name name))
    || called u.generator_resume primitive.GeneratorResume name)
    || called u.delegate_step primitive.DelegateStep name

unfoldable pub asked : UsedPrimitives → List ℕ → Bool
asked u name =
    (((asked_value u name || asked_iteration u name) || asked_class u name) || asked_object u name) || asked_generator u name

-- ---- what that uses: a definition of the table is wanted where the script or a definition behind it uses it

abbrev pub is_wanted : UsedPrimitives → List (List ℕ) → List (List ℕ) → Bool
is_wanted u [] names = false
is_wanted u (name ∷ uses) names = asked u name || is_among names name

-- the names are then those of the row besides
abbrev pub with_row : UsedPrimitives → List (List ℕ) → List (List ℕ) → List (List ℕ)
with_row u names row = cond (is_wanted u row names) (names ++ row) names

abbrev pub with_rows : UsedPrimitives → List (List ℕ) → List (List (List ℕ)) → List (List ℕ)
with_rows u names [] = names
with_rows u names (row ∷ rows) = with_rows u (with_row u names row) rows

-- from the last definition of the text to the first
abbrev pub wanted : UsedPrimitives → List (List ℕ)
wanted u =
    let of_templates = with_rows u [] templates in
    let of_generators = with_rows u of_templates generators in
    let of_classes = with_rows u of_generators classes in
    let of_lists = with_rows u of_classes lists in
    with_rows u (with_rows u of_lists iterators) values

-- ---- the statements that declare one of these names

abbrev pub is_kept : List (List ℕ) → Stat5 → Bool
is_kept names s = list_any (λ name. is_among names name) (declares s)

abbrev pub kept : List (List ℕ) → List Stat5 → List Stat5
kept names statements = filter (is_kept names) statements

-- one that is there passes the test
abbrev pub passes : {X : Type 0} → (X → Bool) → Option X → Bool
passes test None = false
passes test (Some x) = test x
