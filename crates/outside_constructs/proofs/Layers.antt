-- What the nodes that are structs give, by their fields.
use Rattle.std.proofs.Common.{◌≡◌, ◌∙◌, Bool, List, ap, ◌∷◌, ◌++◌, map, true, false, refl, rules}
use Rattle.std.proofs.lemmas.List.{append-nil}
use Rattle.std.specs.Option.{option_map}
use Rattle.es6_ast.specs.declared.tree.Argument.TheFolds.{the_lemmas}
use Rattle.es6_ast.specs.declared.tree.Arrow.{Arrow, out-Arrow, fold_out-Arrow}
use Rattle.es6_ast.specs.declared.tree.Block.{Block, out-Block, fold_out-Block}
use Rattle.es6_ast.specs.declared.tree.Case.{Case, out-Case, fold_out-Case}
use Rattle.es6_ast.specs.declared.tree.Catch.{Catch, out-Catch, fold_out-Catch}
use Rattle.es6_ast.specs.declared.tree.Class.{Class, out-Class}
use Rattle.es6_ast.specs.declared.tree.ClassMember.{ClassMember, out-ClassMember, fold_out-ClassMember}
use Rattle.es6_ast.specs.declared.tree.Condition.{Condition, out-Condition, fold_out-Condition}
use Rattle.es6_ast.specs.declared.tree.Function.{Function, out-Function, fold_out-Function}
use Rattle.es6_ast.specs.declared.tree.Method.{Method, out-Method, fold_out-Method}
use Rattle.es6_ast.specs.declared.tree.Operand.{Operand, out-Operand, fold_out-Operand}
use Rattle.es6_ast.specs.declared.tree.Part.{Part, out-Part}
use Rattle.es6_ast.specs.declared.tree.Template.{Template, out-Template, fold_out-Template}
use Rattle.es6_ast.specs.declared.tree.TemplatePart.{TemplatePart, out-TemplatePart, fold_out-TemplatePart}
use Rattle.es6_ast.specs.declared.tree.Argument.{Argument}
use Rattle.es6_ast.specs.declared.tree.ArrayPart.{ArrayPart}
use Rattle.es6_ast.specs.declared.tree.ArrowBody.{ArrowBody, out-ArrowBody, fold_out-ArrowBody}
use Rattle.es6_ast.specs.declared.tree.Element.{Element}
use Rattle.es6_ast.specs.declared.tree.Expression.{Expression}
use Rattle.es6_ast.specs.declared.tree.ForFirst.{ForFirst}
use Rattle.es6_ast.specs.declared.tree.ForTarget.{ForTarget}
use Rattle.es6_ast.specs.declared.tree.Key.{Key}
use Rattle.es6_ast.specs.declared.tree.Link.{Link}
use Rattle.es6_ast.specs.declared.tree.ObjectPart.{ObjectPart}
use Rattle.es6_ast.specs.declared.tree.Parameter.{Parameter}
use Rattle.es6_ast.specs.declared.tree.Pattern.{Pattern}
use Rattle.es6_ast.specs.declared.tree.Property.{Property}
use Rattle.es6_ast.specs.declared.tree.Statement.{Statement}
use Rattle.es6_ast.specs.declared.tree.Argument.TheOpen as layer
use Rattle.es6_ast.specs.declared.tree.Argument.TheOpen.{ArrowBody-F}
use Rattle.es6_static_semantics.specs.Findings.{Pair, joined, maybe}
use Rattle.es6_static_semantics.specs.Outside.{Scope, all_named, arguments_name, arrow_body_found, arrow_found, block_found, block_pairs, case_found, catch_found, class_found, class_member_found, condition_found, declaring, expression_found, function_found, function_pairs, heritage_pairs, key_found, method_found, operand_found, parameter_found, part_found, pattern_found, parts_names, parts_pairs, some_name, statement_found, template_found, template_part_found}
use Rattle.outside_constructs.specs.Walked.{arrow_body_in, arrow_parts, inside_body, statements_body}

pub template_out : (x : Template) → template_found x ≡ (λ scope. joined (λ p. p scope) (map template_part_found (out-Template x).rest))
template_out x = rw fold_out-Template

pub template_part_out : (x : TemplatePart) → template_part_found x ≡ (expression_found (out-TemplatePart x).value).pairs
template_part_out x = rw fold_out-TemplatePart

pub operand_out : (x : Operand) → operand_found x ≡ (expression_found (out-Operand x).value).pairs
operand_out x = rw fold_out-Operand

pub method_out : (x : Method) (in_object : Bool) → (method_found x).pairs in_object ≡ (λ scope. key_found (out-Method x).key scope ++ (function_found (out-Method x).function).pairs in_object scope)
method_out x in_object = rw fold_out-Method

pub part_out : (x : Part) (declares : Bool) (scope : Scope) → (part_found x).pairs declares scope ≡ (pattern_found (out-Part x).pattern).pairs declares scope ++ maybe (λ y. y.pairs scope) (option_map expression_found (out-Part x).default)
part_out x declares scope = search (rules, the_lemmas)

pub function_out : (x : Function) (in_object : Bool) → (function_found x).pairs in_object ≡ (λ scope. all_named (some_name (out-Function x).name) ++ function_pairs (arguments_name ∷ some_name (out-Function x).name) (map parameter_found (out-Function x).parameters) (statements_body (map statement_found (out-Function x).body)) (record scope { in_object = in_object }))
function_out x in_object = rw fold_out-Function

pub block_out : (x : Block) → block_found x ≡ map statement_found (out-Block x).statements
block_out x = rw fold_out-Block

arrow_body_by : (b : ArrowBody) (scope : Scope) (l : ArrowBody-F Argument ArrayPart ArrowBody Element Expression ForFirst ForTarget Key Link ObjectPart Parameter Pattern Property Statement Arrow Block Case Catch Class ClassMember Condition Function Method Operand Part Template TemplatePart) → out-ArrowBody b ≡ l → inside_body (arrow_body_found b) scope ≡ arrow_body_in l scope
arrow_body_by b scope (layer.ValueBody x) e = rw (fold_out-ArrowBody, e)
arrow_body_by b scope (layer.BlockBody x) e = rw (fold_out-ArrowBody, e, block_out x)

arrow_fields : (x : Arrow) (scope : Scope) → arrow_found x scope ≡ (let inside = declaring (parts_names (map parameter_found (out-Arrow x).parameters)) scope in parts_pairs true (map parameter_found (out-Arrow x).parameters) inside ++ inside_body (arrow_body_found (out-Arrow x).body) inside)
arrow_fields x scope = rw (fold_out-Arrow, append-nil (parts_names (map parameter_found (out-Arrow x).parameters)))

pub arrow_out : (x : Arrow) (scope : Scope) → arrow_found x scope ≡ arrow_parts x scope
arrow_out x scope =
    let inside : Scope = declaring (parts_names (map parameter_found (out-Arrow x).parameters)) scope in
    arrow_fields x scope
    ∙ ap (λ (ps : List Pair). parts_pairs true (map parameter_found (out-Arrow x).parameters) inside ++ ps) (arrow_body_by (out-Arrow x).body inside (out-ArrowBody (out-Arrow x).body) refl)

pub class_out : (x : Class) (scope : Scope) → (class_found x).pairs scope ≡ (let inside = declaring (some_name (out-Class x).name) scope in all_named (some_name (out-Class x).name) ++ maybe (λ h. heritage_pairs h inside ++ h.pairs inside) (option_map expression_found (out-Class x).heritage) ++ joined (λ m. m inside) (map class_member_found (out-Class x).members))
class_out x scope = search (rules, the_lemmas)

pub class_member_out : (x : ClassMember) → class_member_found x ≡ (method_found (out-ClassMember x).method).pairs false
class_member_out x = rw fold_out-ClassMember

pub condition_out : (x : Condition) → (condition_found x).pairs ≡ (λ scope. (expression_found (out-Condition x).test).pairs scope ++ (statement_found (out-Condition x).body).pairs scope)
condition_out x = rw fold_out-Condition

pub catch_out : (x : Catch) → (catch_found x).pairs ≡ (λ scope. let inside = declaring (pattern_found (out-Catch x).parameter).names scope in (pattern_found (out-Catch x).parameter).pairs true inside ++ block_pairs (block_found (out-Catch x).body) inside)
catch_out x = rw fold_out-Catch

pub case_test_out : (x : Case) (scope : Scope) → (case_found x).test scope ≡ maybe (λ y. y.pairs scope) (option_map expression_found (out-Case x).test)
case_test_out x scope = search (rules, the_lemmas)

pub case_body_out : (x : Case) → (case_found x).body ≡ map statement_found (out-Case x).body
case_body_out x = rw fold_out-Case

pub ruleset layers = (template_out, template_part_out, operand_out, method_out, part_out, function_out, arrow_out, block_out, class_out, class_member_out, condition_out, catch_out, case_test_out, case_body_out)
