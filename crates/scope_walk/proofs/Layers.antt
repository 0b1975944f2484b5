-- What the nodes that are structs give, by their fields.
use Rattle.std.proofs.Common.{◌≡◌, [], ◌∷◌, ◌++◌, map, rules}
use Rattle.std.specs.Option.{option_map}
use Rattle.es6_ast.specs.declared.tree.Argument.TheFolds.{the_lemmas}
use Rattle.es6_ast.specs.declared.tree.Arrow.{Arrow, out-Arrow, fold_out-Arrow}
use Rattle.es6_ast.specs.declared.tree.Block.{Block, out-Block, fold_out-Block}
use Rattle.es6_ast.specs.declared.tree.Catch.{Catch, out-Catch, fold_out-Catch}
use Rattle.es6_ast.specs.declared.tree.ClassMember.{ClassMember, out-ClassMember, fold_out-ClassMember}
use Rattle.es6_ast.specs.declared.tree.Condition.{Condition, out-Condition, fold_out-Condition}
use Rattle.es6_ast.specs.declared.tree.Function.{Function, out-Function, fold_out-Function}
use Rattle.es6_ast.specs.declared.tree.Method.{Method, out-Method, fold_out-Method}
use Rattle.es6_ast.specs.declared.tree.Operand.{Operand, out-Operand, fold_out-Operand}
use Rattle.es6_ast.specs.declared.tree.Template.{Template, out-Template, fold_out-Template}
use Rattle.es6_ast.specs.declared.tree.TemplatePart.{TemplatePart, out-TemplatePart, fold_out-TemplatePart}
use Rattle.es6_ast.specs.declared.tree.Case.{Case, out-Case}
use Rattle.es6_ast.specs.declared.tree.Class.{Class, out-Class}
use Rattle.es6_ast.specs.declared.tree.Part.{Part, out-Part, fold_out-Part}
use Rattle.es6_static_semantics.specs.Findings.{joined, maybe}
use Rattle.scope_rules.specs.Marks.{arguments_mark, arrow_body_marked, arrow_marked, block_marked, block_marks, case_marked, catch_marked, class_marked, class_member_marked, condition_marked, expression_marked, function_marked, function_scope, in_head, in_scope, key_marked, method_marked, operand_marked, parameter_marked, part_marked, pattern_marked, statement_marked, template_marked, template_part_marked}
use Rattle.scope_rules.specs.declared.kinds.Kind.TheVariants as kind
use Rattle.scope_rules.specs.declared.kinds.ScopeKind.TheVariants as scope
use Rattle.scope_rules.specs.declared.kinds.Role.{Role}
use Rattle.scope_rules.specs.declared.kinds.Role.TheVariants.{Declared}

pub template_out : (x : Template) → template_marked x ≡ joined (λ p. p) (map template_part_marked (out-Template x).rest)
template_out x = rw fold_out-Template

pub template_part_out : (x : TemplatePart) → template_part_marked x ≡ (expression_marked (out-TemplatePart x).value).marks
template_part_out x = rw fold_out-TemplatePart

pub operand_out : (x : Operand) → operand_marked x ≡ (expression_marked (out-Operand x).value).marks
operand_out x = rw fold_out-Operand

pub method_out : (x : Method) → method_marked x ≡ (key_marked (out-Method x).key).marks ++ (function_marked (out-Method x).function).marks
method_out x = rw fold_out-Method

pub part_out : (x : Part) (role : Role) → (part_marked x).marks role ≡ (pattern_marked (out-Part x).pattern).marks role ++ maybe (λ y. y.marks) (option_map expression_marked (out-Part x).default)
part_out x role = search (rules, the_lemmas)

pub part_end_out : (x : Part) → (part_marked x).end ≡ (out-Part x).span.end
part_end_out x = rw fold_out-Part

pub function_out : (x : Function) → (function_marked x).marks ≡ function_scope (out-Function x).span (arguments_mark (out-Function x).span.begin ∷ []) (map parameter_marked (out-Function x).parameters) (joined (λ s. s) (map statement_marked (out-Function x).body))
function_out x = rw fold_out-Function

pub function_name_out : (x : Function) → (function_marked x).name ≡ (out-Function x).name
function_name_out x = rw fold_out-Function

pub function_end_out : (x : Function) → (function_marked x).end ≡ (out-Function x).span.end
function_end_out x = rw fold_out-Function

pub arrow_out : (x : Arrow) → arrow_marked x ≡ function_scope (out-Arrow x).span [] (map parameter_marked (out-Arrow x).parameters) (arrow_body_marked (out-Arrow x).body).marks
arrow_out x = rw fold_out-Arrow

pub block_begin_out : (x : Block) → (block_marked x).begin ≡ (out-Block x).span.begin
block_begin_out x = rw fold_out-Block

pub block_inner_out : (x : Block) → (block_marked x).inner ≡ joined (λ s. s) (map statement_marked (out-Block x).statements)
block_inner_out x = rw fold_out-Block

pub class_out : (x : Class) → (class_marked x).marks ≡ maybe (λ h. h.marks) (option_map expression_marked (out-Class x).heritage) ++ joined (λ m. m) (map class_member_marked (out-Class x).members)
class_out x = search (rules, the_lemmas)

pub class_name_out : (x : Class) → (class_marked x).name ≡ (out-Class x).name
class_name_out x = search (rules, the_lemmas)

pub class_end_out : (x : Class) → (class_marked x).end ≡ (out-Class x).span.end
class_end_out x = search (rules, the_lemmas)

pub class_member_out : (x : ClassMember) → class_member_marked x ≡ method_marked (out-ClassMember x).method
class_member_out x = rw fold_out-ClassMember

pub condition_out : (x : Condition) → condition_marked x ≡ (expression_marked (out-Condition x).test).marks ++ statement_marked (out-Condition x).body
condition_out x = rw fold_out-Condition

pub catch_out : (x : Catch) → catch_marked x ≡ in_scope scope.Block (out-Catch x).span.begin (in_head ((pattern_marked (out-Catch x).parameter).marks (Declared kind.Caught (block_marked (out-Catch x).body).begin)) ++ block_marks (block_marked (out-Catch x).body))
catch_out x = rw fold_out-Catch

pub case_out : (x : Case) → case_marked x ≡ maybe (λ y. y.marks) (option_map expression_marked (out-Case x).test) ++ joined (λ s. s) (map statement_marked (out-Case x).body)
case_out x = search (rules, the_lemmas)

pub ruleset function_parts = (function_name_out, function_end_out)

pub ruleset class_parts = (class_name_out, class_end_out)

pub ruleset block_parts = (block_begin_out, block_inner_out)
