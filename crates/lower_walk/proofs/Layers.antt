-- What the nodes that are structs become, by their fields.
use Rattle.std.proofs.Common.{◌≡◌, map, rules}
use Rattle.std.specs.Option.{option_map}
use Rattle.es6_ast.specs.declared.tree.Argument.TheFolds.{the_lemmas}
use Rattle.es6_ast.specs.declared.tree.Template.{Template, out-Template, fold_out-Template}
use Rattle.es6_ast.specs.declared.tree.TemplatePart.{TemplatePart, out-TemplatePart, fold_out-TemplatePart}
use Rattle.es6_ast.specs.declared.tree.Operand.{Operand, out-Operand, fold_out-Operand}
use Rattle.es6_ast.specs.declared.tree.Part.{Part, out-Part}
use Rattle.es6_ast.specs.declared.tree.Function.{Function, out-Function, fold_out-Function}
use Rattle.es6_ast.specs.declared.tree.Arrow.{Arrow, out-Arrow, fold_out-Arrow}
use Rattle.es6_ast.specs.declared.tree.Method.{Method, out-Method, fold_out-Method}
use Rattle.es6_ast.specs.declared.tree.Class.{Class, out-Class}
use Rattle.es6_ast.specs.declared.tree.ClassMember.{ClassMember, out-ClassMember, fold_out-ClassMember}
use Rattle.es6_ast.specs.declared.tree.Block.{Block, out-Block, fold_out-Block}
use Rattle.es6_ast.specs.declared.tree.Condition.{Condition, out-Condition, fold_out-Condition}
use Rattle.es6_ast.specs.declared.tree.Case.{Case, out-Case}
use Rattle.es6_ast.specs.declared.tree.Catch.{Catch, out-Catch, fold_out-Catch}
use Rattle.module_lowering.specs.Classes.{class_member_step, class_step, function_step, method_step}
use Rattle.module_lowering.specs.Expressions.{operand_step, optional, template_part_step, template_step}
use Rattle.module_lowering.specs.Functions.{arrow_step}
use Rattle.module_lowering.specs.Patterns.{part_step}
use Rattle.module_lowering.specs.Statements.{block_step, catch_step, condition_step, listed}
use Rattle.module_lowering.specs.Lowered.{arrow_body_lowered, arrow_lowered, block_lowered, case_lowered, catch_lowered, class_lowered, class_member_lowered, condition_lowered, expression_lowered, function_lowered, key_lowered, method_lowered, operand_lowered, parameter_lowered, part_lowered, pattern_lowered, statement_lowered, template_lowered, template_part_lowered}

pub template_out : (x : Template) → template_lowered x ≡ template_step (record { span = (out-Template x).span; first = (out-Template x).first; rest = map template_part_lowered (out-Template x).rest })
unfolding template_lowered template_part_lowered
template_out x = rw fold_out-Template

pub template_part_out : (x : TemplatePart) → template_part_lowered x ≡ template_part_step (record { value = expression_lowered (out-TemplatePart x).value; after = (out-TemplatePart x).after })
unfolding expression_lowered template_part_lowered
template_part_out x = rw fold_out-TemplatePart

pub operand_out : (x : Operand) → operand_lowered x ≡ operand_step (record { operator = (out-Operand x).operator; value = expression_lowered (out-Operand x).value })
unfolding expression_lowered operand_lowered
operand_out x = rw fold_out-Operand

pub part_out : (x : Part) → part_lowered x ≡ part_step (record { span = (out-Part x).span; pattern = pattern_lowered (out-Part x).pattern; default = option_map expression_lowered (out-Part x).default })
unfolding expression_lowered part_lowered pattern_lowered
part_out x = search (rules, the_lemmas)

pub function_out : (x : Function) → function_lowered x ≡ function_step (record { span = (out-Function x).span; is_generator = (out-Function x).is_generator; name = (out-Function x).name; parameters = map parameter_lowered (out-Function x).parameters; body = map statement_lowered (out-Function x).body })
unfolding function_lowered parameter_lowered statement_lowered
function_out x = rw fold_out-Function

pub arrow_out : (x : Arrow) → arrow_lowered x ≡ arrow_step (record { span = (out-Arrow x).span; parameters = map parameter_lowered (out-Arrow x).parameters; body = arrow_body_lowered (out-Arrow x).body })
unfolding arrow_body_lowered arrow_lowered parameter_lowered
arrow_out x = rw fold_out-Arrow

pub method_out : (x : Method) → method_lowered x ≡ method_step (record { span = (out-Method x).span; kind = (out-Method x).kind; key = key_lowered (out-Method x).key; function = function_lowered (out-Method x).function })
unfolding function_lowered key_lowered method_lowered
method_out x = rw fold_out-Method

pub class_out : (x : Class) → class_lowered x ≡ class_step (record { span = (out-Class x).span; name = (out-Class x).name; heritage = option_map expression_lowered (out-Class x).heritage; members = map class_member_lowered (out-Class x).members })
unfolding class_lowered class_member_lowered expression_lowered
class_out x = search (rules, the_lemmas)

pub class_member_out : (x : ClassMember) → class_member_lowered x ≡ class_member_step (record { span = (out-ClassMember x).span; is_static = (out-ClassMember x).is_static; method = method_lowered (out-ClassMember x).method })
unfolding class_member_lowered method_lowered
class_member_out x = rw fold_out-ClassMember

pub block_out : (x : Block) → block_lowered x ≡ block_step (record { span = (out-Block x).span; statements = map statement_lowered (out-Block x).statements })
unfolding block_lowered statement_lowered
block_out x = rw fold_out-Block

pub condition_out : (x : Condition) → condition_lowered x ≡ condition_step (record { span = (out-Condition x).span; test = expression_lowered (out-Condition x).test; body = statement_lowered (out-Condition x).body })
unfolding condition_lowered expression_lowered statement_lowered
condition_out x = rw fold_out-Condition

pub case_test_out : (x : Case) → (case_lowered x).test ≡ optional (option_map expression_lowered (out-Case x).test)
unfolding case_lowered expression_lowered
case_test_out x = search (rules, the_lemmas)

pub case_body_out : (x : Case) → (case_lowered x).body ≡ listed (map statement_lowered (out-Case x).body)
unfolding case_lowered statement_lowered
case_body_out x = search (rules, the_lemmas)

pub catch_out : (x : Catch) → catch_lowered x ≡ catch_step (record { span = (out-Catch x).span; parameter = pattern_lowered (out-Catch x).parameter; body = block_lowered (out-Catch x).body })
unfolding block_lowered catch_lowered pattern_lowered
catch_out x = rw fold_out-Catch
